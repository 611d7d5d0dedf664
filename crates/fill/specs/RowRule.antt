-- What the row rule is told with: a test over the numbers below n, and row k merged of earlier rows.
use Rattle.std.specs.Prelude.{◌≡◌, Bool, true, false, ◌&&◌, ◌||◌}
use Rattle.std.proofs.lemmas.Bool.{false≢true}
use Rattle.std.proofs.Math.Logic.{inl, inr}
use Prim.Native.Nat.{ℕ, zero, suc, ◌<◌}
use native.Mathlib.Omega.{arith}
use Rattle.std.proofs.Math.Decide.{dec_lt}
use Rattle.fill.specs.Fill.{Pattern, upper}
use Rattle.base.specs.Tests.{or_cases, or_right}

-- Is `test i` passed by some i below n?
unfoldable pub some_below : ℕ → (ℕ → Bool) → Bool
some_below zero test = false
some_below (suc n) test = some_below n test || test n

pub some→ : (n : ℕ) (test : ℕ → Bool) → some_below n test ≡ true → (i : ℕ) × (i < n) × (test i ≡ true)
unfolding some_below
some→ zero test h = absurd (false≢true h)
some→ (suc n) test h = elim (or_cases (some_below n test) (test n) h) [ inl a ↦ (let r = some→ n test a in (r.0, omega arith, r.2)) | inr b ↦ (n, omega arith, b) ]

pub →some : (n : ℕ) (test : ℕ → Bool) (i : ℕ) → i < n → test i ≡ true → some_below n test ≡ true
unfolding some_below
→some zero test i l h = absurd (omega arith)
→some (suc n) test i l h = elim (dec_lt i n) [ yes q ↦ rw (→some n test i q h) | no q ↦ or_right (some_below n test) (test n) (let e : i ≡ n = omega arith in rw e at h) ]

module _ (stored : Pattern) where
  -- ---- Row k as the union of its stored entries and of the rows above that it meets, in ascending order.

  -- Row k after the rows below m are merged into it: S := S ∪ T(i) if S has i, for i = 0, 1, ..
  unfoldable pub merged : ℕ → ℕ → ℕ → Bool
  merged k zero j = stored k j
  merged k (suc i) j = merged k i j || (merged k i i && upper stored i j)
