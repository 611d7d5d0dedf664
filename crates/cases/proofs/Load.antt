-- The test load passes questions 1 to 7 of every solve, its entry count being e, in buffers of the lengths that the solve states, and 19 with every floor that is one.
use Rattle.base.specs.Answers.{Pass}
use Prim.Native.Nat.{ℕ}
use mathlib.Core.Path.{◌≡◌, ap, ◌∙◌}
use mathlib.Core.Bool.{true}
use lib.Ieee.{Float}
use borrow.Author.Tests.{eq-eqb, le-leb}
use Rattle.base.specs.All.{all}
use Rattle.base.specs.AllLaws.{all_join}
use Rattle.base.specs.Limits.{max_entries, rows_within}
use Rattle.base.specs.declared.Form.{Form}
use Rattle.base.specs.declared.Sizes.{Sizes}
use Rattle.base.specs.Magnitude.{is_floor}
use Rattle.matrix.specs.Input.{with_floor}
use Rattle.matrix.specs.ListsLaws.{rows-range}
use Rattle.outcome.specs.Buffers.{matrix_tests, buffer_tests, ask_shape}
use Rattle.outcome.specs.Solve.{shape, earlier}
use Rattle.load.specs.Load.{load}
use Rattle.load.proofs.Passes.{n-is, passes, lists-long, count-within}

module _ (n s : ℕ) (o : rows_within n ≡ true) where
  lengths-hold : all (matrix_tests (load n s)) ≡ true
  lengths-hold =
      let l = lists-long n s in
      rw (n-is n s, eq-eqb _ _ l.starts-long, le-leb _ max_entries (count-within n s (rows-range n o).1), eq-eqb _ _ l.r-long, eq-eqb _ _ l.c-long, eq-eqb _ _ l.values-long, eq-eqb _ _ l.b-long)

  shape-passes : (f : Form) (z : Sizes) (floor : Float) → all (buffer_tests f (load n s).n z) ≡ true → shape f (with_floor floor (load n s)) z ≡ Pass
  unfolding shape ask_shape
  shape-passes f z floor h = rw (all_join (matrix_tests (load n s)) (buffer_tests f (load n s).n z), lengths-hold, h, ap rows_within (n-is n s) ∙ o)

  pub load-passes : (f : Form) (z : Sizes) (floor : Float) → all (buffer_tests f n z) ≡ true → is_floor floor ≡ true → earlier f (with_floor floor (load n s)) z ≡ Pass
  load-passes f z floor h g = rw (shape-passes f z floor (ap (λ (m : ℕ). all (buffer_tests f m z)) (n-is n s) ∙ h)) (passes n s floor g)
