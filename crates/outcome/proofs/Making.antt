-- Questions 1 and 2 from the answer of the matrix type's maker, which asks n and e, and what they settle when they are passed.
use Rattle.std.specs.Prelude.{Ok, Err}
use mathlib.Core.Path.{◌≡◌, refl, sym, ap, ◌∙◌}
use mathlib.Core.Bool.{Bool, true, false, ◌&&◌, cond}
use mathlib.Core.List.{List}
use Prim.Native.Nat.{ℕ, ◌≤◌}
use native.Mathlib.Omega.{arith}
use lib.Dec.{leb}
use borrow.Author.Tests.{leb-true}
use Rattle.base.specs.All.{all}
use Rattle.base.specs.Tests.{and_cases}
use Rattle.base.specs.Answers.{holds, and_then, Pass}
use Rattle.base.specs.FirstLaws.{both-pass, holds-pass}
use Rattle.base.specs.Limits.{max_rows, max_entries, rows_within}
use Rattle.base.specs.declared.Refusal.{Refusal}
use Rattle.base.specs.declared.Refusal.TheVariants.{Rows, Lengths}
use Rattle.matrix.specs.Shape.{shape_of, Shaped}
use Rattle.matrix.specs.declared.Matrix.{Matrix}
use Rattle.outcome.specs.Buffers.{ask_shape}

within : (n e : ℕ) (m : Matrix) → shape_of n e ≡ Ok m → (rows_within n ≡ true) × (leb e max_entries ≡ true)
unfolding shape_of
within n e m = by_cases (rows_within n) (leb e max_entries)
  where
    by_cases : (a b : Bool) → cond a (cond b (Ok (record { rows = n; entries = e })) (Err Lengths)) (Err Rows) ≡ Ok m → (a ≡ true) × (b ≡ true)
    by_cases true true h = (refl, refl)
    by_cases true false h = let z : ◌≡◌ {A = ℕ} 0 1 = cc in absurd (omega arith)
    by_cases false b h = let z : ◌≡◌ {A = ℕ} 0 1 = cc in absurd (omega arith)

pub made-few : (n e : ℕ) (s : Shaped) (m : Matrix) → s ≡ shape_of n e → s ≡ Ok m → n ≤ max_rows
made-few n e s m g h = leb-true n max_rows (and_cases (leb 1 n) (leb n max_rows) (within n e m (sym g ∙ h)).0).1

module _ (n e : ℕ) (s : Shaped) (tests : List Bool) (g : s ≡ shape_of n e) where
  pub made-stop : (q : Refusal) → s ≡ Err q → (rest : Bool) → all tests ≡ (leb e max_entries && rest) → Err q ≡ ask_shape n tests
  unfolding shape_of ask_shape
  made-stop q h rest t = rw t (by_cases (rows_within n) (leb e max_entries) (sym g ∙ h))
    where
      by_cases : (a b : Bool) → cond {A = Shaped} a (cond b (Ok (record { rows = n; entries = e })) (Err Lengths)) (Err Rows) ≡ Err q → Err q ≡ and_then (holds a Rows) (holds (b && rest) Lengths)
      by_cases true true h = let z : ◌≡◌ {A = ℕ} 0 1 = cc in absurd (omega arith)
      by_cases true false h = let r : Lengths ≡ q = cc in ap Err (sym r)
      by_cases false b h = let r : Rows ≡ q = cc in ap Err (sym r)

  pub made-on : (m : Matrix) → s ≡ Ok m → (rest b : Bool) → all tests ≡ (leb e max_entries && rest) → rest ≡ b → holds b Lengths ≡ ask_shape n tests
  unfolding ask_shape
  made-on m h rest b t k = let w = within n e m (sym g ∙ h) in rw (w.0, t, w.1, k) refl

pub passed : (n : ℕ) (tests : List Bool) → ask_shape n tests ≡ Pass → (rows_within n ≡ true) × (all tests ≡ true)
unfolding ask_shape
passed n tests e = let a = both-pass (holds (rows_within n) Rows) (holds (all tests) Lengths) e in (holds-pass _ Rows a.0, holds-pass _ Lengths a.1)
