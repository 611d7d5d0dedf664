-- Laws of the closing zeros.
use mathlib.Core.Path.{◌≡◌, ap}
use mathlib.Core.Bool.{true, false, not}
use mathlib.Core.List.{List}
use Prim.Native.Nat.{ℕ, zero, suc, ◌+◌, ◌-◌, ◌<◌, ◌≤◌}
use native.Mathlib.Omega.{arith}
use lib.Dec.{eqb}
use borrow.Author.Tests.{eq-eqb, eqb-true, not-true, not-false}
use Rattle.base.specs.Answers.{Found}
use Rattle.base.specs.First.{first, is_at}
use Rattle.base.specs.FirstLaws.{first-none, first-all, is_at-none}
use Rattle.base.specs.Tests.{true-ext, and_cases}
use Rattle.std.specs.List.{list_all, range_with_len}
use Rattle.std.proofs.Math.Logic.{⊎_elim}
use Rattle.std.proofs.Common.{refl, eq-or-lt_of_le}
use Rattle.fields.specs.Payload.{room, payload, marked, zero_from}

module _ (file : List ℕ) (from : ℕ) where
  unmarked : (i : ℕ) → payload file (from + i) ≡ 0 → marked file from i ≡ false
  unfolding marked
  unmarked i e = ap not (eq-eqb _ _ e)

  -- ---- what the answer tells, and when it is yes

  byte-zero : (i : ℕ) → marked file from i ≡ false → payload file (from + i) ≡ 0
  unfolding marked
  byte-zero i e = eqb-true (payload file (from + i)) 0 (not-false (eqb (payload file (from + i)) 0) e)

  pub zero-bytes : zero_from file from ≡ true → (i : ℕ) → from ≤ i → i < room file → payload file i ≡ 0
  zero-bytes z i g l =
      let e : from + (i - from) ≡ i = omega arith in
      rw e at (byte-zero (i - from) (first-none (marked file from) (room file - from)
      (is_at-none (first (marked file from) (room file - from)) (not-true (is_at (first (marked file from) (room file - from))) z)) (i - from) (omega arith)))

  pub zero-yes : ((i : ℕ) → from ≤ i → i < room file → payload file i ≡ 0) → zero_from file from ≡ true
  zero-yes z =
      ap (λ (f : Found). not (is_at f)) (first-all (marked file from) (room file - from) (λ i l. unmarked i (z (from + i) (omega arith) (omega arith))))

-- ---- the bytes from a place on, each asked whether it is zero

module _ (file : List ℕ) where
  all_zero : (n from : ℕ) → ((p : ℕ) → from ≤ p → p < from + n → payload file p ≡ 0) → list_all (λ p. eqb (payload file p) 0) (range_with_len from n) ≡ true
  all_zero zero from z = refl
  all_zero (suc n) from z =
      rw (eq-eqb (payload file from) 0 (z from (omega arith) (omega arith))) (all_zero n (from + 1) (λ p g l. z p (omega arith) (omega arith)))

  each_zero : (n from : ℕ) → list_all (λ p. eqb (payload file p) 0) (range_with_len from n) ≡ true → (p : ℕ) → from ≤ p → p < from + n → payload file p ≡ 0
  each_zero zero from e p g l = absurd (omega arith)
  each_zero (suc n) from e p g l =
      let h = and_cases (eqb (payload file from) 0) _ e in
      ⊎_elim (λ q. rw (← q) (eqb-true (payload file from) 0 h.0)) (λ q. each_zero n (from + 1) h.1 p (omega (arith, q)) (omega arith)) (eq-or-lt_of_le g)

  pub zero-all : (from : ℕ) → list_all (λ p. eqb (payload file p) 0) (range_with_len from (room file - from)) ≡ zero_from file from
  zero-all from =
      true-ext _ _ (λ e. zero-yes file from (λ p g l. each_zero (room file - from) from e p g (omega arith)))
      (λ e. all_zero (room file - from) from (λ p g l. zero-bytes file from e p g (omega arith)))
