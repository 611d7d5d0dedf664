-- What each form asks can be met: the paper's 2 by 2 example, whose fill has an entry on either side.
use Rattle.base.specs.Answers.{Pass}
use mathlib.Core.Path.{◌≡◌, refl}
use mathlib.Core.List.{List, [], ◌∷◌}
use Prim.Native.Nat.{ℕ}
use native.Mathlib.Omega.{arith}
use native.Mathlib.Decide.{dec_lt}
use lib.ListN.{replicate}
use lib.Ieee.{Float, binary64, of_bits, lt}
use Rattle.base.specs.Magnitude.{is_floor}
use Rattle.base.specs.Lists.{nought, has, asc, table, list_at, padded}
use Rattle.base.specs.First.{first}
use Rattle.base.specs.declared.Form.TheVariants.{Plain, Shared, ByRow}
use Rattle.base.specs.declared.Side.TheVariants.{Lower, Upper}
use Rattle.fill.specs.Fill.{reach, filled, upper, upper_row, lower_row}
use Rattle.matrix.specs.Input.{Input, input_of, is_of, ic, stored}
use Rattle.matrix.specs.Questions.{bad_start, bad_column, bad_index, not_finite, empty_row, no_entry, ask3, ask4, ask5, ask6, ask_floor, ask_numbers, ask7, ask_finite, ask_pattern, ask_solve}
use Rattle.lent.specs.Reading.{order_of}
use Rattle.questions.specs.Lent.{SolveLent, Inverse}
use Rattle.questions.specs.SettledLaws.{settled}
use Rattle.placement.specs.Placing.{count_above, tails, best_from, first_at, agree, append_all, fresh, meets, overlap, tail_or, shared, plain, after, placed, start_of}
use Rattle.outcome.specs.Forms.{placed_to, index_need, value_need}
use Rattle.outcome.specs.Placed.{PlacedSide}
use Rattle.factor.specs.Factoring.{lists, written, Starts, Factorable}

-- rows (2, 4), (1, 4), b = (10, 9), orders 0, 1
abbrev example : Input
example = input_of 2 (0 ∷ 2 ∷ 4 ∷ []) (0 ∷ 1 ∷ 0 ∷ 1 ∷ [])
    (of_bits binary64 0x4000000000000000 ∷ of_bits binary64 0x4010000000000000 ∷ of_bits binary64 0x3ff0000000000000 ∷ of_bits binary64 0x4010000000000000 ∷ [])
    (0 ∷ 1 ∷ []) (0 ∷ 1 ∷ []) (of_bits binary64 0x4024000000000000 ∷ of_bits binary64 0x4022000000000000 ∷ [])

passed : ask_solve example ≡ Pass
unfolding ask_solve ask_pattern ask3 ask4 ask5 ask6 ask7 ask_finite bad_start bad_column bad_index not_finite empty_row no_entry is_of first list_at of_bits ask_numbers ask_floor is_floor lt
passed = refl

lent : SolveLent example 16
lent = record {
  lent = record { orders = record { few = omega arith; row-order = refl; column-order = refl; slots = omega arith }; starts = refl; columns = omega arith };
  values = refl;
  right = refl;
}

-- T(0) is 1 and T(1) is empty; below, row 1 is 0 and column 0 is 1
sides : PlacedSide Plain Upper (stored example) 2 (0 ∷ 1 ∷ 1 ∷ []) (0 ∷ 1 ∷ 1 ∷ []) (1 ∷ []) 1 × PlacedSide Shared Upper (stored example) 2 (0 ∷ 1 ∷ 1 ∷ []) (0 ∷ 1 ∷ []) (1 ∷ []) 1
    × PlacedSide ByRow Upper (stored example) 2 (0 ∷ 1 ∷ 1 ∷ []) (0 ∷ 1 ∷ []) (1 ∷ []) 1 × PlacedSide Plain Lower (stored example) 2 (0 ∷ 0 ∷ 1 ∷ []) (0 ∷ 0 ∷ 1 ∷ []) (0 ∷ []) 1
    × Starts Shared (stored example) 2 (0 ∷ 1 ∷ 1 ∷ []) 1
unfolding table value_need start_of index_need placed_to placed after shared plain append_all tail_or best_from tails count_above overlap fresh meets first_at agree padded upper_row lower_row asc upper filled reach stored ic first is_of has list_at
sides = (
  record { starts-are = refl; runs-are = refl; slots-are = refl; index_in = omega arith; values-in = omega arith },
  record { starts-are = refl; runs-are = refl; slots-are = refl; index_in = omega arith; values-in = omega arith },
  record { starts-are = refl; runs-are = refl; slots-are = refl; index_in = omega arith; values-in = omega arith },
  record { starts-are = refl; runs-are = refl; slots-are = refl; index_in = omega arith; values-in = omega arith },
  record { starts-are = refl; values-in = omega arith },
)

abbrev zeros : ℕ → List Float
zeros m = replicate m nought

-- the inverse order 0, 1 in slots 2 and 3
abbrev scratch : List ℕ
scratch = 0 ∷ 0 ∷ 0 ∷ 1 ∷ replicate 12 0

inverse : Inverse example scratch
unfolding order_of ic first is_of
inverse = record { place = λ j h. elim (dec_lt j 1) [ yes q ↦ (let e : j ≡ 0 = omega arith in rw e) | no q ↦ (let e : j ≡ 1 = omega arith in rw e) ] }

pub plain-met : Factorable Plain example (lists (0 ∷ 0 ∷ 1 ∷ []) (0 ∷ []) (0 ∷ 1 ∷ 1 ∷ []) (0 ∷ 1 ∷ 1 ∷ []) (1 ∷ [])) (written (zeros 1) (zeros 1) (zeros 2) (zeros 6) scratch)
plain-met = record { lent = lent; settled = settled example passed; lower-side = sides.3; upper-side = sides.0; reciprocals = refl; scratch = refl; slots = omega arith; inverse = inverse }

pub shared-met : Factorable Shared example (lists (0 ∷ 1 ∷ 1 ∷ []) [] (0 ∷ 1 ∷ 1 ∷ []) (0 ∷ 1 ∷ []) (1 ∷ [])) (written (zeros 1) (zeros 1) (zeros 2) (zeros 6) scratch)
shared-met = record { lent = lent; settled = settled example passed; lower-side = sides.4; upper-side = sides.1; reciprocals = refl; scratch = refl; slots = omega arith; inverse = inverse }

pub row-met : Factorable ByRow example (lists [] [] (0 ∷ 1 ∷ 1 ∷ []) (0 ∷ 1 ∷ []) (1 ∷ [])) (written [] (zeros 1) (zeros 2) (zeros 6) scratch)
row-met = record { lent = lent; settled = settled example passed; lower-side = refl; upper-side = sides.2; reciprocals = refl; scratch = refl; slots = omega arith; inverse = inverse }
