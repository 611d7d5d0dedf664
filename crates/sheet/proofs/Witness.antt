-- What the functions ask for is met by computed values: the greatest numbers of a line, and one place whose lists are empty.
use Prim.Native.Nat.{ℕ, zero, suc, ◌+◌, ◌≤◌, ◌<◌}
use mathlib.Core.Path.{◌≡◌, refl}
use mathlib.Core.List.{[], ◌∷◌}
use native.Mathlib.Omega.{arith}
use lib.ListN.{get_or}
use Rattle.base.specs.Lists.{list_at}
use Rattle.base.specs.Limits.{max_rows, max_slots}
use Rattle.lent.specs.Reading.{ListIn, Below, Distinct}
use Rattle.printing.specs.Print.{width_in}
use Rattle.sheet.specs.Printing.{PlacesLent, LineFits}
use Rattle.sheet.specs.Counting.{Counting, Countable}
use Rattle.sheet.specs.Lent.{SheetLent}

only : (P : ℕ → Type 0) → P 0 → (k : ℕ) → k < 1 → P k
only P p zero h = p
only P p (suc k) h = absurd (omega arith)

pub line-fits : LineFits max_rows max_rows max_rows max_rows max_slots
unfolding width_in
line-fits = record { place = omega arith; own_row = omega arith; lower-row = omega arith; upper-list = omega arith; run-start = omega arith }

pub counting : Counting (0 ∷ []) (4294967294 ∷ [])
counting = record {
  below = only _ (omega arith);
  distinct = record { apart = λ p q l h e. absurd (omega arith) };
  few = only (λ p. get_or (4294967294 ∷ []) (get_or (0 ∷ []) p 0) 0 < 4294967295) (omega arith);
}

countable : Countable 1 (0 ∷ 0 ∷ []) (0 ∷ []) [] (0 ∷ [])
unfolding list_at
countable = record {
  few = omega arith;
  room = omega arith;
  lists = only (ListIn (0 ∷ 0 ∷ []) (0 ∷ []) 0) (record { has-run = omega arith; has-start = omega arith; rise = omega arith; inside = omega arith });
  below = only (λ j. Below 1 (list_at (0 ∷ 0 ∷ []) (0 ∷ []) [] j)) (λ p h. absurd (omega arith));
  distinct = only (λ j. Distinct (list_at (0 ∷ 0 ∷ []) (0 ∷ []) [] j)) (record { apart = λ p q l h e. absurd (omega arith) });
  zero = only (λ k. get_or (0 ∷ []) k 0 ≡ 0) refl;
}

places : PlacesLent 1 (0 ∷ []) (0 ∷ 0 ∷ []) (0 ∷ [])
places = record {
  few = omega arith;
  own = omega arith;
  lists = omega arith;
  placed = omega arith;
  own_below = only (λ k. get_or (0 ∷ []) k 0 < 1) (omega arith);
  rise = only (λ k. get_or (0 ∷ 0 ∷ []) k 0 ≤ get_or (0 ∷ 0 ∷ []) (k + 1) 0) (omega arith);
  lists-below = only _ (omega arith);
  runs-below = only (λ k. get_or (0 ∷ []) k 0 ≤ max_slots) (omega arith);
}

pub sheet-lent : SheetLent 1 (0 ∷ []) (0 ∷ 0 ∷ []) (0 ∷ []) [] (0 ∷ 0 ∷ []) (0 ∷ []) (0 ∷ [])
sheet-lent = record { countable = countable; places = places }
