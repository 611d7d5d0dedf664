-- Symmetric pruning: a row k merges T(i) only as far as some place p below k with (i, p) and (p, i) filled.
use Rattle.std.specs.Prelude.{◌≡◌, Bool, true, ◌&&◌, ◌||◌}
use Prim.Native.Nat.{ℕ, zero, suc, ◌≤◌, ◌<◌}
use Rattle.std.proofs.Common.{arith}
use Rattle.std.proofs.Math.Decide.{dec_lt}
use Rattle.fill.specs.Fill.{Pattern, filled, upper}

module _ (stored : Pattern) where
  -- (i, p) and (p, i) are filled, and i < p
  pub record Pair (i p : ℕ) : Type 0 where
    pub after : i < p
    pub right : filled stored i p ≡ true
    pub left : filled stored p i ≡ true

  -- A part of T(i) that row k may merge instead of the whole: all of it, or all up to a place p below k with (i, p) and (p, i) filled.
  pub data Cut (k i : ℕ) (part : ℕ → Bool) : Type 0 where
    entire : ((j : ℕ) → upper stored i j ≡ true → part j ≡ true) → Cut k i part
    short : (p : ℕ) → p < k → Pair i p → ((j : ℕ) → j ≤ p → upper stored i j ≡ true → part j ≡ true) → Cut k i part

  module _ (part : ℕ → ℕ → Bool) where
    -- Row k after the rows below m are merged into it, of T(i) only the part of i.
    unfoldable pub pruned : ℕ → ℕ → ℕ → Bool
    pruned k zero j = stored k j
    pruned k (suc i) j = pruned k i j || (pruned k i i && (upper stored i j && part i j))

    pruned-suc : (k m j : ℕ) → pruned k m j ≡ true → pruned k (suc m) j ≡ true
    unfolding pruned
    pruned-suc k m j h = rw h

    pub pruned-more : (k m m' j : ℕ) → m ≤ m' → pruned k m j ≡ true → pruned k m' j ≡ true
    pruned-more k m zero j l h = let e : m ≡ zero = omega arith in rw e at h
    pruned-more k m (suc m') j l h = elim (dec_lt m' m) [
      | yes q ↦ (let e : m ≡ suc m' = omega arith in rw e at h)
      | no q ↦ pruned-suc k m' j (pruned-more k m m' j (omega arith) h)
    ]
