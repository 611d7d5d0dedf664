-- Laws of `first`: what it finds, and the turns of a loop that looks for it. And what a question that is passed tells.
use Rattle.std.specs.Prelude.{◌≡◌, Bool, Some, None, Ok, Err, IsErrAnd}
use Rattle.std.specs.declared.result.Result.{Result}
use Rattle.std.proofs.Math.Path.{refl}
use Rattle.std.proofs.Common.{sym, ap, ◌∙◌, true≢false, not-suc-le-zero}
use Rattle.std.proofs.Math.Bool.{true, false}
use Prim.Native.Nat.{ℕ, zero, suc, ◌+◌, ◌≤◌, ◌<◌}
use native.Mathlib.Omega.{arith}
use Rattle.std.proofs.Math.Numerals.{add-one}
use Rattle.std.proofs.Math.Decide.{dec_lt, le_ind}
use Rattle.base.specs.First.{at_if, or_else, first, is_at}
use Rattle.base.specs.Answers.{holds, absent, and_then, Pass, Found, Asked}
use Rattle.base.specs.declared.Refusal.{Refusal}

pub at-nothing : (i : ℕ) → Some i ≡ None → ⊥
at-nothing i e = let z : ◌≡◌ {A = ℕ} 0 1 = cc in omega arith

pub is_at-none : (f : Found) → is_at f ≡ false → f ≡ None
is_at-none (Some i) e = absurd (true≢false e)
is_at-none None e = refl

or_else-first : (f g : Found) → or_else f g ≡ None → f ≡ None
or_else-first (Some i) g e = e
or_else-first None g e = refl

or_else-second : (f g : Found) → or_else f g ≡ None → g ≡ None
or_else-second (Some i) g e = absurd (at-nothing i e)
or_else-second None g e = e

at_if-none : (b : Bool) (i : ℕ) → at_if b i ≡ None → b ≡ false
at_if-none true i e = absurd (at-nothing i e)
at_if-none false i e = refl

module _ (t : ℕ → Bool) where
  pub first-zero : first t 0 ≡ None
  unfolding first
  first-zero = refl

  pub first-suc : (i : ℕ) → first t (i + 1) ≡ or_else (first t i) (at_if (t i) i)
  unfolding first
  first-suc i = rw add-one

  -- a turn of the loop: the test fails at i
  pub first_more : (i : ℕ) → first t i ≡ None → t i ≡ false → first t (i + 1) ≡ None
  first_more i h f = rw (first-suc i, h, f)

  first-hit : (i : ℕ) → first t i ≡ None → t i ≡ true → first t (i + 1) ≡ Some i
  first-hit i h f = rw (first-suc i, h, f)

  first-grow : (i j : ℕ) → first t j ≡ Some i → (n : ℕ) → j ≤ n → first t n ≡ Some i
  unfolding first
  first-grow i j h = le_ind (λ (n : ℕ). first t n ≡ Some i) h (λ n l e. rw e)

  -- the loop stops: the test holds at i, and at no index before it
  pub first-at : (i n : ℕ) → i < n → first t i ≡ None → t i ≡ true → first t n ≡ Some i
  first-at i n l h f = first-grow i (i + 1) (first-hit i h f) n (omega arith)

  -- the loop ends: the test holds at no index
  pub first-end : (i n : ℕ) → n ≤ i → i ≤ n → first t i ≡ None → None ≡ first t n
  first-end i n l h z = let e : i ≡ n = omega arith in sym (rw e at z)

  -- what is found is below the count, the test holds there, and at no index before it
  pub first_found : (n i : ℕ) → first t n ≡ Some i → (i < n) × (t i ≡ true) × (first t i ≡ None)
  unfolding first
  first_found zero i h = absurd (at-nothing i (sym h))
  first_found (suc m) i h = go (first t m) refl (first_found m i)
    where
      last : (b : Bool) → t m ≡ b → first t m ≡ None → at_if b m ≡ Some i → (i < suc m) × (t i ≡ true) × (first t i ≡ None)
      last true d e q = let p : m ≡ i = cc in (omega arith, rw (← p) d, rw (← p) e)
      last false d e q = absurd (at-nothing i (sym q))

      go : (f : Found) → first t m ≡ f → (first t m ≡ Some i → (i < m) × (t i ≡ true) × (first t i ≡ None)) → (i < suc m) × (t i ≡ true) × (first t i ≡ None)
      go (Some j) e ih = let q = rw e at h in let p = ih (e ∙ q) in (omega arith, p.1, p.2)
      go None e ih = last (t m) refl e (rw e at h)

  -- where nothing is found the test fails at every index
  pub first-none : (n : ℕ) → first t n ≡ None → (i : ℕ) → i < n → t i ≡ false
  unfolding first
  first-none zero h i l = absurd (not-suc-le-zero l)
  first-none (suc m) h i l = elim (dec_lt i m) [
    | yes p ↦ first-none m (or_else-first (first t m) _ h) i p
    | no q ↦ let e : i ≡ m = omega arith in rw e (at_if-none (t m) m (or_else-second (first t m) _ h))
  ]

  pub first-all : (n : ℕ) → ((i : ℕ) → i < n → t i ≡ false) → first t n ≡ None
  unfolding first
  first-all zero a = refl
  first-all (suc m) a = rw (first-all m (λ i l. a i (omega arith)), a m (omega arith))

  -- the same, where b is what a test of index i answered: the forms that `search` applies
  pub scan-hit : (b : Bool) (i n : ℕ) → i < n → first t i ≡ None → b ≡ t i → b ≡ true → Some i ≡ first t n
  scan-hit b i n l h e f = sym (first-at i n l h (sym e ∙ f))

  pub scan-more : (b : Bool) (i : ℕ) → first t i ≡ None → b ≡ t i → b ≡ false → first t (i + 1) ≡ None
  scan-more b i h e f = first_more i h (sym e ∙ f)

-- ---- questions that are passed

pub stop-pass : (q : Refusal) → Err q ≡ Pass → ⊥
stop-pass q e = let z : ◌≡◌ {A = ℕ} 0 1 = cc in omega arith

pub holds-pass : (b : Bool) (q : Refusal) → holds b q ≡ Pass → b ≡ true
holds-pass true q e = refl
holds-pass false q e = absurd (stop-pass q e)

pub absent-pass : (f : Found) (g : ℕ → Refusal) → absent f g ≡ Pass → f ≡ None
absent-pass (Some k) g e = absurd (stop-pass (g k) e)
absent-pass None g e = refl

pub both-pass : (a b : Asked) → and_then a b ≡ Pass → (a ≡ Pass) × (b ≡ Pass)
both-pass (Err q) b e = absurd (stop-pass q e)
both-pass (Ok _) b e = (refl, e)

-- a refusal that ? passes on stays the one that it was
pub passed-on : {A E : Type 0} (r : Result A E) (q : E) → IsErrAnd r (λ x. x ≡ q) → r ≡ Err q
passed-on (Ok a) q e = absurd e
passed-on (Err x) q e = ap Err e
