-- The numbers that the call can give: 0 with a pair, 1 to 7, and 22. It takes no floor, so 19 is not among them. 1 is given for an n out of its limits only.
use Rattle.std.specs.Prelude.{Ok, Err}
use mathlib.Core.Path.{◌≡◌, refl}
use mathlib.Core.Bool.{true, not}
use mathlib.Core.Logic.{◌⊎◌, inl, inr, ⊎_elim}
use mathlib.Core.List.{List, [], ◌∷◌}
use Prim.Native.Nat.{ℕ, ◌+◌, ◌≤◌}
use native.Mathlib.Omega.{arith}
use lib.ListN.{length}
use lib.Dec.{leb, ltb, eqb}
use lib.Ieee.{Float}
use Rattle.base.specs.All.{all}
use Rattle.base.specs.First.{first}
use Rattle.base.specs.Tests.{by-test}
use Rattle.base.specs.Limits.{max_entries, rows_within}
use Rattle.base.specs.Answers.{own, number_of, Asked}
use Rattle.base.specs.declared.OwnNumber.{OwnNumber}
use Rattle.base.specs.declared.Refusal.{Refusal}
use Rattle.base.specs.declared.Refusal.TheVariants.{Lengths, Starts, Column, Order, NotFinite, EmptyRow}
use Rattle.matrix.specs.Input.{Input}
use Rattle.matrix.specs.Questions.{bad_start, bad_column, not_finite, no_entry, ask3, ask4, ask6, ask_finite}
use Rattle.arithmetic.specs.RowEnd.{finite_all}
use Rattle.outcome.proofs.Asking.{Only, only-holds, only-absent, only_then}
use Rattle.residual.specs.Residual.{Entry, results}
use Rattle.outcome.specs.Buffers.{ask_shape}
use Rattle.residual.specs.Answer.{number_of_checked, ask_sizes, ask_entries, ask_row, entries_of, right_of, row_answer, answered, checked}
use Rattle.residual.specs.declared.Checked.{Checked}

-- a number from lo to 7
abbrev From : ℕ → Refusal → Type 0
From lo q = (lo ≤ number_of q) × (number_of q ≤ 7)

finite-from : (v : List Float) (from : ℕ) → Only (From 2) (ask_finite v from)
unfolding ask_finite
finite-from v from = only-absent (From 2) (first (not_finite v) (length v)) (λ k. NotFinite (k + from)) (λ k. (omega arith, omega arith))

entries_from : (i : Input) (x : List Float) (k : OwnNumber) → Only (From 2) (ask_entries i x k)
unfolding ask_entries ask3 ask4 ask6
entries_from i x k =
    only_then (From 2) _ _ (only-absent (From 2) (first (bad_start i.starts i.n (length i.columns)) i.n) (λ k. Starts (own k)) (λ k. (omega arith, omega arith)))
    (only_then (From 2) _ _ (only-absent (From 2) (first (bad_column i.columns i.n) (length i.columns)) Column (λ k. (omega arith, omega arith)))
    (only_then (From 2) _ _ (only-holds (From 2) (ltb k.0 i.n) (Order k.0) (omega arith, omega arith))
    (only_then (From 2) _ _ (only_then (From 2) _ _ (finite-from i.values 0) (finite-from i.b (length i.values)))
    (only_then (From 2) _ _ (finite-from x (length i.columns + i.n)) (only-holds (From 2) (not (no_entry i.starts k.0)) (EmptyRow k) (omega arith, omega arith))))))

-- behind the first question
later : (i : Input) (x : List Float) (k : OwnNumber) → rows_within i.n ≡ true → Only (From 2) (ask_row i x k)
unfolding ask_row ask_sizes ask_shape
later i x k o =
    rw o (only_then (From 2) _ _ (only-holds (From 2) (all (leb (length i.columns) max_entries ∷ eqb (length i.starts) (i.n + 1) ∷ eqb (length i.values) (length i.columns) ∷ eqb (length i.b) i.n ∷ eqb (length x) i.n ∷ [])) Lengths (omega arith, omega arith)) (entries_from i x k))

row_number : (b : Float) (l : List Entry) (k : OwnNumber) → (number_of_checked (row_answer b l k) ≡ 0) ⊎ (number_of_checked (row_answer b l k) ≡ 22)
unfolding row_answer
row_number b l k = by-test (finite_all (results b l)) (λ g. inl (rw g)) (λ g. inr (rw g))

-- 0, 2 to 7, or 22
abbrev Later : ℕ → Type 0
Later z = (z ≡ 0) ⊎ (((2 ≤ z) × (z ≤ 7)) ⊎ (z ≡ 22))

answered-later : (a : Asked) (c : Checked) → Only (From 2) a → (number_of_checked c ≡ 0) ⊎ (number_of_checked c ≡ 22) → Later (number_of_checked (answered a c))
unfolding Only
answered-later (Err q) c w h = inr (inl (w q refl))
answered-later (Ok _) c w (inl h) = inl h
answered-later (Ok _) c w (inr h) = inr (inr h)

module _ (i : Input) (x : List Float) (k : OwnNumber) where
  checked-later : rows_within i.n ≡ true → Later (number_of_checked (checked i x k))
  unfolding checked
  checked-later o = answered-later (ask_row i x k) _ (later i x k o) (row_number (right_of i k) (entries_of i x k) k)

  -- 1 for an n out of its limits only
  pub checked-not : rows_within i.n ≡ true → number_of_checked (checked i x k) ≡ 1 → ⊥
  checked-not o e = ⊎_elim (λ h. omega arith) (⊎_elim (λ h. omega arith) (λ h. omega arith)) (checked-later o)

  -- "It puts 1 to 4, then 5 .. 6 .. and 7 .. 22 .. last": no other number, and no 19, since it takes no floor
  pub checked-number : (number_of_checked (checked i x k) ≤ 7) ⊎ (number_of_checked (checked i x k) ≡ 22)
  unfolding checked ask_row ask_sizes ask_shape
  checked-number =
      by-test (rows_within i.n) (λ o. ⊎_elim (λ h. inl (omega arith)) (⊎_elim (λ h. inl (omega arith)) (λ h. inr h)) (checked-later o)) (λ o. inl (rw o (omega arith)))
