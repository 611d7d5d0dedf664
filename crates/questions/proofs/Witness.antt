-- Each record that a function asks of its caller is met by a computed value: one row, one entry.
use Rattle.base.specs.Answers.{Pass}
use mathlib.Core.Path.{◌≡◌, refl}
use mathlib.Core.List.{List, [], ◌∷◌}
use Prim.Native.Nat.{ℕ}
use native.Mathlib.Omega.{arith}
use lib.Ieee.{Float, lt}
use Rattle.base.specs.Magnitude.{is_floor}
use Rattle.base.specs.Lists.{nought, blank, list_at}
use Rattle.base.specs.First.{first}
use Rattle.matrix.specs.Input.{input_of, is_of}
use Rattle.matrix.specs.Questions.{bad_start, bad_column, bad_index, not_finite, empty_row, no_entry, IsOrder, ask3, ask4, ask5, ask6, ask_floor, ask_numbers, ask7, ask_finite, ask_pattern, ask_solve}
use Rattle.questions.specs.Settled.{Settled}
use Rattle.questions.specs.Lent.{OrderLent, SolveLent, RightLent, PlacesLent, Unmarked, InverseLent, SolutionLent}
use Rattle.questions.specs.SettledLaws.{settled}
use Rattle.questions.specs.MarkingLaws.{unmarked-blank}

abbrev zeros : List ℕ
zeros = 0 ∷ []

-- the matrix of one entry, +0, with the orders 0 and the right side +0
abbrev starts : List ℕ
starts = 0 ∷ 1 ∷ []

abbrev numbers : List Float
numbers = nought ∷ []

unfolded-order : IsOrder zeros 1
unfolding IsOrder first bad_index is_of
unfolded-order = refl

pub lent : SolveLent (input_of 1 starts zeros numbers zeros zeros numbers) 1
lent = record {
  lent = record { orders = record { few = omega arith; row-order = refl; column-order = refl; slots = omega arith }; starts = refl; columns = omega arith };
  values = refl;
  right = refl;
}

passed : ask_solve (input_of 1 starts zeros numbers zeros zeros numbers) ≡ Pass
unfolding ask_solve ask_pattern ask3 ask4 ask5 ask6 ask7 ask_finite bad_start bad_column bad_index not_finite empty_row no_entry is_of first list_at ask_numbers ask_floor is_floor lt
passed = refl

-- what the questions settle can be met
pub holds : Settled (input_of 1 starts zeros numbers zeros zeros numbers)
holds = settled (input_of 1 starts zeros numbers zeros zeros numbers) passed

pub right : RightLent 1 zeros zeros 1 1
right = record { orders = lent.lent.orders; size = refl }

pub order : OrderLent 1 zeros 1 1
order = record { few = omega arith; added = omega arith; size = refl; slots = omega arith }

pub places : PlacesLent 1 starts zeros
places = record { few = lent.lent.orders.few; starts = lent.lent.starts; size = lent.lent.orders.row-order; order = unfolded-order }

pub unmarked : Unmarked 1 zeros
unfolding blank
unmarked = unmarked-blank 1 zeros zeros (omega arith) refl

pub inverse : InverseLent 1 zeros 1
inverse = record { few = omega arith; size = lent.lent.orders.row-order; slots = omega arith; order = unfolded-order }

pub solution : SolutionLent 1 zeros 1 1
solution = record { size = lent.lent.orders.row-order; from = omega arith; to = refl; order = unfolded-order }
