-- The premises of specs/Reuse can be met, with every kind of end: done, 12 and 13.
use Rattle.std.specs.Prelude.{Ok, Err}
use mathlib.Core.Path.{◌≡◌, refl, ap, ◌∙◌}
use mathlib.Core.Bool.{true}
use mathlib.Core.List.{List, [], ◌∷◌, map}
use Prim.Native.Nat.{ℕ, zero, suc, ◌<◌}
use native.Mathlib.Omega.{arith}
use lib.ListN.{get_or, replicate}
use lib.Ieee.Scale.{finite}
use lib.Ieee.{Float, nan, binary64, of_bits, sub, mul, div, lt, eq, le}
use Rattle.base.specs.Magnitude.{at_most, is_floor}
use Rattle.base.specs.Lists.{asc, sum, count, has, table, list_at, pairs, padded, nought}
use Rattle.base.specs.First.{first}
use Rattle.base.specs.Answers.{spot, Pass}
use Rattle.base.specs.declared.Form.TheVariants.{Plain, Shared}
use Rattle.base.specs.declared.Counts.{Counts}
use Rattle.base.specs.declared.Refusal.TheVariants.{ZeroPivot, Overflow}
use Rattle.fill.specs.Fill.{reach, filled, upper, upper_row, lower_row, lower_column, products}
use Rattle.matrix.specs.Input.{Input, input_of, is_of, ic, stored, entries, right_at}
use Rattle.matrix.specs.Questions.{bad_start, bad_column, bad_index, not_finite, no_entry, empty_row, ask3, ask4, ask5, ask_finite, ask6, ask_floor, ask_numbers, ask7, ask_pattern, ask_structure, ask_solve}
use Rattle.placement.specs.Placing.{count_above, tails, best_from, first_at, agree, append_all, fresh, meets, overlap, tail_or, shared, plain, after, placed, start_of}
use Rattle.arithmetic.specs.Arith.{judged, load_run, step1, subtract_run, step_run, step2, scaled_run, step3, row_run, forward_run, rest_run, back_run, whole_run}
use Rattle.outcome.specs.Forms.{placed_to, index_need, value_need}
use Rattle.outcome.specs.Buffers.{Buffers, plain_buffers, shared_buffers, ask_shape, ended}
use Rattle.outcome.specs.Structure.{fits, ask_place, ask_places, counts, side_placed, structured, structure}
use Rattle.outcome.specs.Solve.{system, listed, shape, solve}
use Rattle.outcome.specs.Refactor.{refactor}
use Rattle.outcome.specs.Resolve.{resolve}
use Rattle.agreement.specs.Demand.{Stated}
use Rattle.reuse.specs.Reuse.{end_of, with_numbers, with_right, Presented, Factored, by-solve, by-refactor, FiniteRight}
use Rattle.reuse.proofs.Refactoring.{refactoring, refactoring-alike}
use Rattle.reuse.proofs.Resolving.{resolving, resolving-same}
use Rattle.reuse.proofs.Contracts.{plain-keeps, shared_keeps, structure-presents-plain, structure-presents-shared}

abbrev pub counted : ℕ → ℕ → ℕ → Counts
counted l u p = record { lower = l; upper = u; products = p }

unfoldable pub floats : List ℕ → List Float
floats = map (of_bits binary64)

-- ---- refactor in the shared form. Row 0 full, column 0 full, diagonal full, n = 3: the structure call, two index slots a side

unfoldable pub arrow : Input
arrow = input_of 3 (0 ∷ 3 ∷ 5 ∷ 7 ∷ []) (0 ∷ 1 ∷ 2 ∷ 0 ∷ 1 ∷ 0 ∷ 2 ∷ []) [] (0 ∷ 1 ∷ 2 ∷ []) (0 ∷ 1 ∷ 2 ∷ []) []

abbrev starts : List ℕ
starts = 0 ∷ 2 ∷ 3 ∷ 3 ∷ []

abbrev runs : List ℕ
runs = 0 ∷ 1 ∷ 2 ∷ []

abbrev index : List ℕ
index = 1 ∷ 2 ∷ []

unfoldable pub lent : Buffers
lent =
    shared_buffers (replicate 4 77) (replicate 3 78) (replicate 2 79) (replicate 3 nan) (replicate 4 77) (replicate 3 78) (replicate 2 79) (replicate 3 nan) [] []
    (replicate 9 nan) (replicate 32 80)

arrow-done : ended (Ok (counted 3 3 5)) (shared_buffers starts runs index (replicate 3 nought) starts runs index (replicate 3 nought) [] [] (replicate 9 nought) (replicate 32 0)) ≡ structure Shared arrow lent
unfolding arrow lent structure ask_shape ask_structure ask_pattern ask3 ask4 ask5 ask7 first bad_start bad_column bad_index is_of empty_row no_entry list_at ask_places ask_place filled reach stored ic has fits index_need value_need placed_to placed after shared append_all fresh meets overlap tail_or tails best_from count_above first_at agree start_of upper_row lower_row asc upper counts sum count lower_column products table structured side_placed padded
arrow-done = refl

-- the lists, and all else dirty
unfoldable pub dirty : Buffers
dirty = shared_buffers starts runs index (replicate 4 nan) starts runs index (replicate 3 nan) (replicate 3 nan) (replicate 3 nan) (replicate 9 nan) (replicate 32 80)

pub arrow-presented : Presented Shared arrow dirty
unfolding dirty lent
arrow-presented = structure-presents-shared arrow (counted 3 3 5) _ _ _ _ _ _ _ _ _ _ _ _ _ _ _ _ _ _ _ _ _ _ _ _ _ _ arrow-done (omega arith) (omega arith)

-- the same in the plain form
unfoldable pub lent-plain : Buffers
lent-plain = plain_buffers (replicate 4 77) (replicate 3 79) (replicate 3 nan) (replicate 4 77) (replicate 4 79) (replicate 3 nan) [] [] (replicate 9 nan) (replicate 32 80)

plain_done : ended (Ok (counted 3 3 5))
    (plain_buffers (0 ∷ 0 ∷ 1 ∷ 3 ∷ []) (0 ∷ 0 ∷ 1 ∷ []) (replicate 3 nought) (0 ∷ 2 ∷ 3 ∷ 3 ∷ []) (1 ∷ 2 ∷ 2 ∷ 0 ∷ []) (replicate 3 nought) [] [] (replicate 9 nought) (replicate 32 0))
    ≡ structure Plain arrow lent-plain
unfolding arrow lent-plain structure ask_shape ask_structure ask_pattern ask3 ask4 ask5 ask7 first bad_start bad_column bad_index is_of empty_row no_entry list_at ask_places ask_place filled reach stored ic has fits index_need value_need placed_to placed after plain append_all start_of upper_row lower_row asc upper counts sum count lower_column products table structured side_placed padded
plain_done = refl

unfoldable pub dirty-plain : Buffers
dirty-plain = plain_buffers (0 ∷ 0 ∷ 1 ∷ 3 ∷ []) (0 ∷ 0 ∷ 1 ∷ []) (replicate 3 nan) (0 ∷ 2 ∷ 3 ∷ 3 ∷ []) (1 ∷ 2 ∷ 2 ∷ 0 ∷ []) (replicate 3 nan) (replicate 3 nan) (replicate 3 nan) (replicate 9 nan) (replicate 32 80)

pub plain-presented : Presented Plain arrow dirty-plain
unfolding dirty-plain lent-plain
plain-presented = structure-presents-plain arrow (counted 3 3 5) _ _ _ _ _ _ _ _ _ _ _ _ _ _ _ _ _ _ _ _ _ _ plain_done (omega arith) (omega arith)

-- rows (2, 1, 1), (1, 2, .), (1, ., 2), b = (4, 3, 3)
abbrev values : List Float
values = floats (0x4000000000000000 ∷ 0x3ff0000000000000 ∷ 0x3ff0000000000000 ∷ 0x3ff0000000000000 ∷ 0x4000000000000000 ∷ 0x3ff0000000000000 ∷ 0x4000000000000000 ∷ [])

abbrev right : List Float
right = floats (0x4010000000000000 ∷ 0x4008000000000000 ∷ 0x4008000000000000 ∷ [])

-- all values 1: the pivot of place 1 vanishes
abbrev ones : List Float
ones = replicate 7 (of_bits binary64 0x3ff0000000000000)

arrow-solves : (end_of (solve Shared (with_numbers arrow values right nought) dirty).answer ≡ Pass) × (end_of (solve Shared (with_numbers arrow ones right nought) dirty).answer ≡ Err (ZeroPivot (spot 1)))
unfolding floats arrow dirty solve shape ask_shape ask_solve ask_pattern ask3 ask4 ask5 ask6 ask7 ask_finite first bad_start bad_column bad_index is_of not_finite empty_row no_entry list_at pairs ask_places ask_place filled reach stored has fits index_need value_need placed_to placed after shared append_all fresh meets overlap tail_or tails best_from count_above first_at agree start_of upper_row lower_row asc upper listed system entries right_at ic judged whole_run load_run step1 subtract_run step_run step2 scaled_run step3 row_run forward_run rest_run back_run of_bits sub mul div ask_numbers ask_floor is_floor at_most lt eq le
arrow-solves = (refl, refl)

pub arrow-refactored : (refactor Shared (with_numbers arrow values right nought) dirty).answer ≡ Pass
arrow-refactored = (refactoring Shared shared_keeps arrow values right nought dirty arrow-presented).answer ∙ arrow-solves.0

pub arrow-refused : (refactor Shared (with_numbers arrow ones right nought) dirty).answer ≡ Err (ZeroPivot (spot 1))
arrow-refused = (refactoring Shared shared_keeps arrow ones right nought dirty arrow-presented).answer ∙ arrow-solves.1

-- the factors found so are those that another right side takes
pub arrow-factored : Factored Shared (with_numbers arrow values right nought) dirty (refactor Shared (with_numbers arrow values right nought) dirty).buffers
arrow-factored = by-refactor (ap (λ a. ended a (refactor Shared (with_numbers arrow values right nought) dirty).buffers) arrow-refactored)

-- and the plain form answers as the shared one does
pub arrow-alike : (refactor Plain (with_numbers arrow ones right nought) dirty-plain).answer ≡ Err (ZeroPivot (spot 1))
unfolding arrow dirty dirty-plain Stated
arrow-alike = (refactoring-alike Plain Shared plain-keeps shared_keeps arrow ones right nought dirty-plain dirty plain-presented arrow-presented refl refl).answer ∙ arrow-refused

-- ---- another right side in the plain form. Rows (2, 4), (1, 4), b = (10, 9)

unfoldable pub two : Input
two =
    input_of 2 (0 ∷ 2 ∷ 4 ∷ []) (0 ∷ 1 ∷ 0 ∷ 1 ∷ []) (floats (0x4000000000000000 ∷ 0x4010000000000000 ∷ 0x3ff0000000000000 ∷ 0x4010000000000000 ∷ [])) (0 ∷ 1 ∷ []) (0 ∷ 1 ∷ [])
    (floats (0x4024000000000000 ∷ 0x4022000000000000 ∷ []))

unfoldable pub given : Buffers
given =
    plain_buffers (replicate 3 77) (replicate 1 79) (replicate 1 nan) (replicate 3 77) (replicate 1 79) (replicate 1 nan) (replicate 2 nan) (replicate 2 nan) (replicate 6 nan) (replicate 24 80)

-- the greatest number and its negative: finite, and 13 at place 1
abbrev huge : List Float
huge = floats (0x7fefffffffffffff ∷ 0xffefffffffffffff ∷ [])

two-solves : ((solve Plain two given).answer ≡ Ok (counted 1 1 1)) × (end_of (solve Plain (with_right two huge) given).answer ≡ Err (Overflow (spot 1)))
unfolding floats two given solve shape ask_shape ask_solve ask_pattern ask3 ask4 ask5 ask6 ask7 ask_finite first bad_start bad_column bad_index is_of not_finite empty_row no_entry list_at pairs ask_places ask_place filled reach stored has fits index_need value_need placed_to placed after plain append_all start_of upper_row lower_row asc upper listed system entries right_at ic judged whole_run load_run step1 subtract_run step_run step2 scaled_run step3 row_run forward_run rest_run back_run counts sum count lower_column products of_bits sub mul div ask_numbers ask_floor is_floor at_most lt eq le
two-solves = (refl, refl)

pub two-factored : Factored Plain two given (solve Plain two given).buffers
two-factored = by-solve (counted 1 1 1) (ap (λ a. ended a (solve Plain two given).buffers) two-solves.0)

-- the same b: all buffers are as they were
pub two-same : resolve Plain two (solve Plain two given).buffers ≡ ended Pass (solve Plain two given).buffers
two-same = resolving-same Plain plain-keeps two given (solve Plain two given).buffers two-factored

huge-each : (k : ℕ) → k < 2 → finite (get_or huge k nan) ≡ true
unfolding floats of_bits
huge-each zero l = refl
huge-each (suc zero) l = refl
huge-each (suc (suc k)) l = absurd (omega arith)

huge-finite : FiniteRight two.n huge
unfolding two floats
huge-finite = record { long = refl; all = huge-each }

pub two-over : (resolve Plain (with_right two huge) (solve Plain two given).buffers).answer ≡ Err (Overflow (spot 1))
two-over = (resolving Plain plain-keeps two given (solve Plain two given).buffers two-factored huge huge-finite).answer ∙ two-solves.1
