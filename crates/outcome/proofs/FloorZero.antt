-- "f = 0 behaves as before": with a floor of zero, of either sign, each call that factors ends as without one.
use Rattle.std.specs.Prelude.{Ok, Err}
use mathlib.Core.Path.{◌≡◌, refl, ap}
use mathlib.Core.Bool.{true}
use mathlib.Core.List.{List, [], ◌∷◌}
use lib.Ieee.{Float, eq}
use Rattle.base.specs.Lists.{nought}
use Rattle.base.proofs.Floors.{most-zero, zero-floor}
use Rattle.base.specs.Answers.{and_then, Pass, Asked}
use Rattle.base.specs.declared.Form.{Form}
use Rattle.matrix.specs.Input.{Input}
use Rattle.matrix.specs.Questions.{ask7, ask6, ask_floor, ask_numbers, ask_pattern, ask_solve}
use Rattle.arithmetic.specs.Arith.{Event, result, pivoted, bad, first_bad, judged, whole_run}
use Rattle.outcome.specs.Buffers.{Buffers}
use Rattle.outcome.specs.Solve.{system, listed, solve}
use Rattle.outcome.specs.Refactor.{refactor}
use Rattle.outcome.specs.WithoutFloor.{bad_before, first_before, listed_before, ask_solve_before, solve_before, refactor_before}

bad-same : (f : Float) → eq f nought ≡ true → (e : Event) → bad f e ≡ bad_before e
bad-same f z (result k v) = refl
bad-same f z (pivoted k v) = most-zero v f z

first-same : {A : Type 0} (f : Float) → eq f nought ≡ true → (es : List Event) (a : A) → first_bad f es a ≡ first_before es a
first-same f z [] a = refl
first-same f z (e ∷ es) a = rw (bad-same f z e, first-same f z es a)

module _ (i : Input) (z : eq i.floor nought ≡ true) where
  listed_same : listed i ≡ listed_before i
  unfolding listed listed_before judged
  listed_same = first-same i.floor z (whole_run (system i)).events (whole_run (system i)).value

  pass-after : (a : Asked) → and_then a Pass ≡ a
  pass-after (Ok _) = refl
  pass-after (Err q) = refl

  numbers-same : ask_numbers i.values i.b i.floor ≡ ask6 i.values i.b
  unfolding ask_numbers ask_floor
  numbers-same = rw (zero-floor i.floor z) (pass-after (ask6 i.values i.b))

  asks-same : ask_solve i ≡ ask_solve_before i
  unfolding ask_solve ask_solve_before
  asks-same = ap (λ (a : Asked). and_then (ask_pattern i) (and_then a (ask7 i.n i.starts i.r))) numbers-same

  pub solve-zero : (f : Form) (s : Buffers) → solve f i s ≡ solve_before f i s
  unfolding solve solve_before
  solve-zero f s = rw (asks-same, listed_same)

  pub refactor-zero : (f : Form) (s : Buffers) → refactor f i s ≡ refactor_before f i s
  unfolding refactor refactor_before
  refactor-zero f s = rw (asks-same, listed_same)
