-- Laws of questions: what a stop tells, and the turns that a run of questions can give.
use Rattle.std.specs.Prelude.{Some, Ok, None, Err}
use mathlib.Core.Path.{◌≡◌, sym}
use mathlib.Core.Bool.{Bool, true, false, cond}
use mathlib.Core.List.{List, ◌++◌}
use Prim.Native.Nat.{ℕ, ◌+◌, ◌*◌, ◌≤◌}
use native.Mathlib.Omega.{arith}
use lib.Dec.{eqb}
use borrow.Author.Tests.{eqb-true}
use Rattle.base.specs.Lists.{bit}
use Rattle.base.specs.Answers.{number_of, holds, absent, and_then, Pass, Found, Asked}
use Rattle.base.specs.FirstLaws.{stop-pass}
use Rattle.base.specs.All.{all}
use Rattle.base.specs.AllLaws.{all_join}
use Rattle.base.specs.Tests.{by-test}
use Rattle.base.specs.declared.Refusal.{Refusal}
use Rattle.base.specs.declared.Refusal.TheVariants.{Rows, Lengths, Starts, Column, Order, NotFinite, EmptyRow, NullPivot, LowerSlots, UpperSlots, ZeroPivot, Overflow, OtherStructure, BadFactors, FileLength, Block, FileShape, Floor, FactorShape, Products}

pub stop-inj : (q r : Refusal) → ◌≡◌ {A = Asked} (Err q) (Err r) → q ≡ r
stop-inj q r e = cc

-- no refusal has the number 0, and none has 8 any more
unused-numbers : (q : Refusal) → (number_of q ≡ 0 → ⊥) × (number_of q ≡ 8 → ⊥)
unused-numbers Rows = (λ e. omega arith, λ e. omega arith)
unused-numbers Lengths = (λ e. omega arith, λ e. omega arith)
unused-numbers (Starts i) = (λ e. omega arith, λ e. omega arith)
unused-numbers (Column i) = (λ e. omega arith, λ e. omega arith)
unused-numbers (Order i) = (λ e. omega arith, λ e. omega arith)
unused-numbers (NotFinite i) = (λ e. omega arith, λ e. omega arith)
unused-numbers (EmptyRow i) = (λ e. omega arith, λ e. omega arith)
unused-numbers (NullPivot i) = (λ e. omega arith, λ e. omega arith)
unused-numbers (LowerSlots i) = (λ e. omega arith, λ e. omega arith)
unused-numbers (UpperSlots i) = (λ e. omega arith, λ e. omega arith)
unused-numbers (ZeroPivot i) = (λ e. omega arith, λ e. omega arith)
unused-numbers (Overflow i) = (λ e. omega arith, λ e. omega arith)
unused-numbers (OtherStructure i) = (λ e. omega arith, λ e. omega arith)
unused-numbers (BadFactors i) = (λ e. omega arith, λ e. omega arith)
unused-numbers FileLength = (λ e. omega arith, λ e. omega arith)
unused-numbers (Block i) = (λ e. omega arith, λ e. omega arith)
unused-numbers FileShape = (λ e. omega arith, λ e. omega arith)
unused-numbers Floor = (λ e. omega arith, λ e. omega arith)
unused-numbers FactorShape = (λ e. omega arith, λ e. omega arith)
unused-numbers Products = (λ e. omega arith, λ e. omega arith)

pub number-some : (q : Refusal) → number_of q ≡ 0 → ⊥
number-some q = (unused-numbers q).0

-- "Question 8 is never answered no"
pub never-eight : (q : Refusal) → number_of q ≡ 8 → ⊥
never-eight q = (unused-numbers q).1

-- "put right after question 6": the turn of a question is its number, but 19 has 6's
abbrev pub turn_of : Refusal → ℕ
turn_of q = cond (eqb (number_of q) 19) 6 (number_of q)

-- for `omega`: the number by the turn
pub turned : (q : Refusal) → (number_of q ≡ turn_of q + 13 * bit (eqb (number_of q) 19)) × (bit (eqb (number_of q) 19) ≤ 1) × (6 * bit (eqb (number_of q) 19) ≤ turn_of q)
turned q =
    by-test (eqb (number_of q) 19) (λ t. rw t (eqb-true (number_of q) 19 t, omega arith, omega arith)) (λ t. rw t (omega arith, omega arith, omega arith))

-- ---- which refusals a run of questions can give

-- every refusal of a has P
unfoldable pub Only : (Refusal → Type 0) → Asked → Type 0
Only P a = (q : Refusal) → a ≡ Err q → P q

module _ (P : Refusal → Type 0) where
  only-pass : Only P Pass
  unfolding Only
  only-pass q e = absurd (stop-pass q (sym e))

  only-stop : (r : Refusal) → P r → Only P (Err r)
  unfolding Only
  only-stop r p q e = rw (← stop-inj r q e) p

  pub only-holds : (b : Bool) (r : Refusal) → P r → Only P (holds b r)
  only-holds true r p = only-pass
  only-holds false r p = only-stop r p

  pub only-absent : (o : Found) (f : ℕ → Refusal) → ((k : ℕ) → P (f k)) → Only P (absent o f)
  only-absent (Some k) f p = only-stop (f k) (p k)
  only-absent None f p = only-pass

  pub only_then : (a b : Asked) → Only P a → Only P b → Only P (and_then a b)
  only_then (Err q) b h g = h
  only_then (Ok _) b h g = g

-- a turn between lo and hi, of one refusal and of all
abbrev Turn : ℕ → ℕ → Refusal → Type 0
Turn lo hi q = (lo ≤ turn_of q) × (turn_of q ≤ hi)

unfoldable pub Within : ℕ → ℕ → Asked → Type 0
Within lo hi a = (q : Refusal) → a ≡ Err q → (lo ≤ turn_of q) × (turn_of q ≤ hi)

pub within-wide : (lo hi lo' hi' : ℕ) (a : Asked) → lo' ≤ lo → hi ≤ hi' → Within lo hi a → Within lo' hi' a
unfolding Within
within-wide lo hi lo' hi' a l h w q e = let b = w q e in (omega arith, omega arith)

module _ (lo hi : ℕ) where
  pub within-pass : Within lo hi Pass
  unfolding Within Only
  within-pass = only-pass (Turn lo hi)

  pub within-stop : (r : Refusal) → lo ≤ turn_of r → turn_of r ≤ hi → Within lo hi (Err r)
  unfolding Within Only
  within-stop r l h = only-stop (Turn lo hi) r (l, h)

  pub within-holds : (b : Bool) (r : Refusal) → lo ≤ turn_of r → turn_of r ≤ hi → Within lo hi (holds b r)
  unfolding Within Only
  within-holds b r l h = only-holds (Turn lo hi) b r (l, h)

  pub within-absent : (o : Found) (f : ℕ → Refusal) → ((k : ℕ) → lo ≤ turn_of (f k)) → ((k : ℕ) → turn_of (f k) ≤ hi) → Within lo hi (absent o f)
  unfolding Within Only
  within-absent o f l h = only-absent (Turn lo hi) o f (λ k. (l k, h k))

  pub within-then : (a b : Asked) → Within lo hi a → Within lo hi b → Within lo hi (and_then a b)
  unfolding Within Only
  within-then a b = only_then (Turn lo hi) a b

-- ---- tests that hold drop out of a list of tests

pub all_append : (a b : List Bool) → all b ≡ true → all (a ++ b) ≡ all a
all_append a b e = by-test (all a) (λ t. rw (all_join a b, t, e)) (λ t. rw (all_join a b, t))
