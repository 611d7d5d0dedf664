-- Questions 9, 10 and 11 at a place, by what the code finds.
use Rattle.std.specs.Prelude.{Err}
use mathlib.Core.Path.{◌≡◌, refl}
use mathlib.Core.Bool.{true, false}
use mathlib.Core.List.{List, []}
use Prim.Native.Nat.{ℕ, zero, suc, ◌+◌, ◌<◌}
use native.Mathlib.Omega.{arith}
use lib.Seq.{drop-nil}
use borrow.Author.Tests.{le-leb}
use Rattle.base.specs.Answers.{spot, Pass}
use Rattle.base.specs.declared.Form.{Form}
use Rattle.base.specs.declared.Form.TheVariants.{Plain, Shared, ByRow}
use Rattle.base.specs.declared.Side.TheVariants.{Lower, Upper}
use Rattle.base.specs.declared.Refusal.{Refusal}
use Rattle.base.specs.declared.Refusal.TheVariants.{NullPivot, LowerSlots, UpperSlots}
use Rattle.fill.specs.Fill.{Pattern, filled, upper_row, lower_row, flip}
use Rattle.placement.specs.Placing.{plain, shared, Plan, State, placed, after, start_of}
use Rattle.placement.specs.PlacingLaws.{room}
use Rattle.storing.specs.Ways.{way_of}
use Rattle.base.specs.declared.Sizes.{Sizes}
use Rattle.outcome.specs.Forms.{placed_to, index_need, value_need}
use Rattle.outcome.specs.Structure.{fits, ask_place, ask_places}
use Rattle.outcome.proofs.Places.{places-hit, places-more}
use Rattle.symbolic.specs.Pass.{placing_of, slots_of}

-- ---- the slots that a side needs

module _ (P : Pattern) (n li lv ui uv k : ℕ) where
  pub fits-upper : (f : Form) → fits f Upper P n (slots_of li lv ui uv) k ≡ room (way_of (placing_of f)) (upper_row P n) (lower_row P) ui uv k
  unfolding fits index_need value_need placed_to
  fits-upper Plain = refl
  fits-upper Shared = refl
  fits-upper ByRow = refl

  pub fits-plain : fits Plain Lower P n (slots_of li lv ui uv) k ≡ room plain (lower_row P) (lower_row (flip P)) li lv k
  unfolding fits index_need value_need placed_to
  fits-plain = refl

  pub fits-shared : fits Shared Lower P n (slots_of li lv ui uv) k ≡ room shared (upper_row (flip P) n) (lower_row (flip P)) li lv k
  unfolding fits index_need value_need placed_to
  fits-shared = refl

-- "The row form keeps no L": no slots are needed below
none_after : (s : State) (p : Plan) → s.slots ≡ [] → (after s [] p).slots ≡ []
unfolding after
none_after s p e = rw e (drop-nil p.have)

none-slots : (R : ℕ → List ℕ) (k : ℕ) → (placed shared (λ (j : ℕ). []) R k).slots ≡ []
unfolding placed
none-slots R zero = refl
none-slots R (suc k) = none_after (placed shared (λ (j : ℕ). []) R k) _ (none-slots R k)

none-starts : (k : ℕ) → start_of (λ (j : ℕ). []) k ≡ 0
unfolding start_of
none-starts zero = refl
none-starts (suc k) = rw (none-starts k)

pub fits-row : (P : Pattern) (n : ℕ) (z : Sizes) (k : ℕ) → fits ByRow Lower P n z k ≡ true
unfolding fits index_need value_need placed_to
fits-row P n z k = rw (none-slots (lower_row (flip P)) (suc k), none-starts (suc k), le-leb 0 z.lower.index (omega arith), le-leb 0 z.lower.values (omega arith))

-- ---- one place

module _ (f : Form) (P : Pattern) (n : ℕ) (z : Sizes) (k : ℕ) where
  asked-null : filled P k k ≡ false → ask_place f P n z k ≡ Err (NullPivot (spot k))
  unfolding ask_place
  asked-null a = rw a

  asked-lower : filled P k k ≡ true → fits f Lower P n z k ≡ false → ask_place f P n z k ≡ Err (LowerSlots (spot k))
  unfolding ask_place
  asked-lower a b = rw (a, b)

  asked-upper : filled P k k ≡ true → fits f Lower P n z k ≡ true → fits f Upper P n z k ≡ false → ask_place f P n z k ≡ Err (UpperSlots (spot k))
  unfolding ask_place
  asked-upper a b c = rw (a, b, c)

  asked-pass : filled P k k ≡ true → fits f Lower P n z k ≡ true → fits f Upper P n z k ≡ true → ask_place f P n z k ≡ Pass
  unfolding ask_place
  asked-pass a b c = rw (a, b, c)

module _ (f : Form) (P : Pattern) (n : ℕ) (z : Sizes) (k : ℕ) (place : k < n) (before : ask_places f P n z k ≡ Pass) where
  stops : (q : Refusal) → ask_place f P n z k ≡ Err q → ask_places f P n z n ≡ Err q
  stops q e = places-hit f P n z k n q place before e

  pub stop-null : filled P k k ≡ false → ask_places f P n z n ≡ Err (NullPivot (spot k))
  stop-null a = stops (NullPivot (spot k)) (asked-null f P n z k a)

  module _ (diagonal : filled P k k ≡ true) where
    pub stop-lower : fits f Lower P n z k ≡ false → ask_places f P n z n ≡ Err (LowerSlots (spot k))
    stop-lower b = stops (LowerSlots (spot k)) (asked-lower f P n z k diagonal b)

    module _ (lower : fits f Lower P n z k ≡ true) where
      pub stop-upper : fits f Upper P n z k ≡ false → ask_places f P n z n ≡ Err (UpperSlots (spot k))
      stop-upper c = stops (UpperSlots (spot k)) (asked-upper f P n z k diagonal lower c)

      pub goes_on : fits f Upper P n z k ≡ true → ask_places f P n z (k + 1) ≡ Pass
      goes_on c = places-more f P n z k before (asked-pass f P n z k diagonal lower c)
