-- Calls that end without a refusal, computed over buffers that held anything, and lists that are then handed back.
use Rattle.std.specs.Prelude.{Ok}
use mathlib.Core.Path.{◌≡◌, refl, ap, ◌∙◌}
use mathlib.Core.List.{List, [], ◌∷◌, map}
use Prim.Native.Nat.{ℕ}
use native.Mathlib.Omega.{arith}
use lib.ListN.{replicate}
use lib.Ieee.{Float, nan, binary64, of_bits, sub, mul, div, lt, eq, le}
use Rattle.base.specs.Magnitude.{at_most, is_floor}
use Rattle.base.specs.Lists.{sum, count, asc, has, table, list_at, pairs, padded, nought}
use Rattle.base.specs.First.{first}
use Rattle.base.specs.Answers.{spot, Answer}
use Rattle.base.specs.declared.Form.TheVariants.{Plain, Shared}
use Rattle.base.specs.declared.Side.TheVariants.{Lower, Upper}
use Rattle.base.specs.declared.Counts.{Counts}
use Rattle.fill.specs.Fill.{reach, filled, upper, upper_row, lower_row, lower_column, products}
use Rattle.matrix.specs.Input.{Input, input_of, is_of, ic, stored, entries, right_at}
use Rattle.matrix.specs.Questions.{bad_start, bad_column, bad_index, not_finite, no_entry, empty_row, ask3, ask4, ask5, ask_finite, ask6, ask_floor, ask_numbers, ask7, ask_pattern, ask_structure, ask_solve}
use Rattle.placement.specs.Placing.{count_above, tails, best_from, first_at, agree, append_all, fresh, meets, overlap, tail_or, shared, plain, after, placed, start_of}
use Rattle.arithmetic.specs.Arith.{judged, load_run, step1, subtract_run, step_run, step2, scaled_run, step3, row_run, forward_run, rest_run, back_run, whole_run}
use Rattle.outcome.specs.Forms.{placed_to, index_need, value_need}
use Rattle.outcome.specs.Buffers.{Buffers, plain_buffers, shared_buffers, ask_shape, ended}
use Rattle.outcome.specs.Structure.{fits, ask_place, ask_places, counts, side_placed, structured, structure}
use Rattle.outcome.specs.Solve.{system, listed, shape, solve}
use Rattle.lookup.specs.Lookup.{side_lists, lookup}
use Rattle.lists.specs.Handed.{handed, Handed, HandedShared}
use Rattle.lists.proofs.Handed.{structure-shared, solve-handed}

abbrev pub counted : ℕ → ℕ → ℕ → Counts
counted l u p = record { lower = l; upper = u; products = p }

-- ---- row 0 full, column 0 full, diagonal full, n = 3: the structure call in the shared form, two index slots a side

unfoldable pub arrow : Input
arrow = input_of 3 (0 ∷ 3 ∷ 5 ∷ 7 ∷ []) (0 ∷ 1 ∷ 2 ∷ 0 ∷ 1 ∷ 0 ∷ 2 ∷ []) [] (0 ∷ 1 ∷ 2 ∷ []) (0 ∷ 1 ∷ 2 ∷ []) []

unfoldable pub lent : Buffers
lent =
    shared_buffers (replicate 4 77) (replicate 3 78) (replicate 2 79) (replicate 3 nan) (replicate 4 77) (replicate 3 78) (replicate 2 79) (replicate 3 nan) [] []
    (replicate 9 nan) (replicate 32 80)

pub arrow-done : ended (Ok (counted 3 3 5))
    (shared_buffers (0 ∷ 2 ∷ 3 ∷ 3 ∷ []) (0 ∷ 1 ∷ 2 ∷ []) (1 ∷ 2 ∷ []) (replicate 3 nought) (0 ∷ 2 ∷ 3 ∷ 3 ∷ []) (0 ∷ 1 ∷ 2 ∷ []) (1 ∷ 2 ∷ []) (replicate 3 nought) [] []
    (replicate 9 nought) (replicate 32 0)) ≡ structure Shared arrow lent
unfolding arrow lent structure ask_shape ask_structure ask_pattern ask3 ask4 ask5 ask7 first bad_start bad_column bad_index is_of empty_row no_entry list_at ask_places ask_place filled reach stored ic has fits index_need value_need placed_to placed after shared append_all fresh meets overlap tail_or tails best_from count_above first_at agree start_of upper_row lower_row asc upper counts sum count lower_column products table structured side_placed padded
arrow-done = refl

pub arrow-lists : HandedShared arrow (0 ∷ 2 ∷ 3 ∷ 3 ∷ []) (0 ∷ 1 ∷ 2 ∷ []) (1 ∷ 2 ∷ []) (0 ∷ 2 ∷ 3 ∷ 3 ∷ []) (0 ∷ 1 ∷ 2 ∷ []) (1 ∷ 2 ∷ [])
arrow-lists = structure-shared arrow lent _ _ _ _ _ _ _ _ _ _ _ _ _ arrow-done

-- T(1) is the tail of T(0)
pub arrow-one : lookup Shared Upper (spot 1) 3 (side_lists (0 ∷ 2 ∷ 3 ∷ 3 ∷ []) (0 ∷ 1 ∷ 2 ∷ []) (1 ∷ 2 ∷ [])) (side_lists (0 ∷ 2 ∷ 3 ∷ 3 ∷ []) (0 ∷ 1 ∷ 2 ∷ []) (1 ∷ 2 ∷ [])) ≡ 2 ∷ []
unfolding arrow upper_row asc upper filled reach stored ic first is_of has list_at
arrow-one = arrow-lists.upper 1 (omega arith) ∙ refl

-- ---- rows (2, 4), (1, 4), b = (10, 9): the solve in the plain form

unfoldable pub floats : List ℕ → List Float
floats = map (of_bits binary64)

unfoldable pub two : Input
two =
    input_of 2 (0 ∷ 2 ∷ 4 ∷ []) (0 ∷ 1 ∷ 0 ∷ 1 ∷ []) (floats (0x4000000000000000 ∷ 0x4010000000000000 ∷ 0x3ff0000000000000 ∷ 0x4010000000000000 ∷ [])) (0 ∷ 1 ∷ []) (0 ∷ 1 ∷ [])
    (floats (0x4024000000000000 ∷ 0x4022000000000000 ∷ []))

unfoldable pub given : Buffers
given =
    plain_buffers (replicate 3 77) (replicate 1 79) (replicate 1 nan) (replicate 3 77) (replicate 1 79) (replicate 1 nan) (replicate 2 nan) (replicate 2 nan) (replicate 6 nan) (replicate 24 80)

two-answer : (solve Plain two given).answer ≡ Ok (counted 1 1 1)
unfolding floats two given solve shape ask_shape ask_solve ask_pattern ask3 ask4 ask5 ask6 ask7 ask_finite first bad_start bad_column bad_index is_of not_finite empty_row no_entry list_at pairs ask_places ask_place filled reach stored has fits index_need value_need placed_to placed after plain append_all start_of upper_row lower_row asc upper listed system entries right_at ic judged whole_run load_run step1 subtract_run step_run step2 scaled_run step3 row_run forward_run rest_run back_run counts sum count lower_column products table of_bits sub mul div ask_numbers ask_floor is_floor at_most lt eq le
two-answer = refl

pub two-done : solve Plain two given ≡ ended (Ok (counted 1 1 1)) (solve Plain two given).buffers
two-done = ap (λ (a : Answer). ended a (solve Plain two given).buffers) two-answer

pub two-lists : Handed Plain two (solve Plain two given).buffers
two-lists = solve-handed Plain refl two given (solve Plain two given).buffers (counted 1 1 1) two-done

-- lower row 1
pub two-one : handed Plain Lower 2 1 (solve Plain two given).buffers ≡ 0 ∷ []
unfolding two lower_row asc filled reach stored ic first is_of has list_at
two-one = two-lists Lower 1 (omega arith) ∙ refl
