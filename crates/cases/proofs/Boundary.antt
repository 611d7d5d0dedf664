-- The graphs marked P: the table computed, the paper's file, and n = 0, 4,097 and 4,096 in every call.
use mathlib.Core.Path.{◌≡◌, refl}
use mathlib.Core.List.{map}
use Prim.Native.Nat.{suc}
use lib.Ieee.{of_bits, to_bits, add, sub, mul, div, lt, eq, le}
use Rattle.base.specs.Magnitude.{at_most, is_floor}
use Rattle.base.specs.Lists.{sum, count, asc, has, table, joined, list_at, pairs, padded}
use Rattle.base.specs.Limits.{max_rows}
use Rattle.base.specs.First.{first}
use Rattle.matrix_file.specs.MatrixFile.{matrix_at, written}
use Rattle.matrix_file.specs.Example.{example_file}
use Rattle.matrix_file.proofs.ExampleFile.{example-opens, example-held, example-written}
use Rattle.cases.specs.Boundary.{Boundary}
use Rattle.cases.proofs.Limits.{refuses, passes}
use Rattle.fill.specs.Fill.{reach, filled, upper, upper_row, lower_row, lower_column, products}
use Rattle.matrix.specs.Input.{is_of, ic, stored, entries, right_at, own_order}
use Rattle.matrix.specs.Questions.{bad_start, bad_column, bad_index, not_finite, no_entry, empty_row, ask3, ask4, ask5, ask_finite, ask6, ask_floor, ask_numbers, ask7, ask_pattern, ask_solve}
use Rattle.placement.specs.Placing.{count_above, tails, best_from, first_at, agree, append_all, fresh, meets, overlap, tail_or, shared, plain, after, placed, start_of}
use Rattle.arithmetic.specs.Arith.{judged, load_run, step1, subtract_run, step_run, step2, scaled_run, step3, row_run, forward_run, rest_run, back_run, whole_run}
use Rattle.outcome.specs.Forms.{placed_to, index_need, value_need}
use Rattle.outcome.specs.Buffers.{ask_shape, scratch_cleared, side_cleared, cleared}
use Rattle.outcome.specs.Structure.{fits, ask_place, ask_places, counts, side_placed}
use Rattle.outcome.specs.Solve.{system, listed, values_kept, pivots_kept, kept, shape, solve}
use Rattle.cases.specs.Table.{seen, Case, outcome_of, floats, graph, two, single, under, several, cancelled, aside, behind, swapped, cornerless, ones, arrow, boundary}

-- one computed test of the whole table
pub holds : map outcome_of boundary ≡ map (λ (c : Case). c.expected) boundary
unfolding outcome_of boundary seen floats graph two single under several cancelled aside behind swapped cornerless ones arrow solve shape ask_shape ask_solve ask_pattern ask3 ask4 ask5 ask6 ask7 ask_finite first bad_start bad_column bad_index is_of not_finite empty_row no_entry list_at pairs ask_places ask_place filled reach stored has fits index_need value_need placed_to placed after plain shared append_all fresh meets overlap tail_or tails best_from count_above first_at agree start_of upper_row lower_row asc upper listed system entries right_at ic judged whole_run load_run step1 subtract_run step_run step2 scaled_run step3 row_run forward_run rest_run back_run counts sum count lower_column products own_order table kept side_placed values_kept pivots_kept padded joined cleared side_cleared scratch_cleared of_bits to_bits add sub mul div ask_numbers ask_floor is_floor at_most lt eq le
holds = refl

-- the file's matrix is the table's first
held : matrix_at example_file ≡ two
unfolding two graph floats of_bits
held = example-held

wrote : written two ≡ example_file
unfolding two graph floats of_bits
wrote = example-written

-- the graphs marked P
pub boundary-holds : Boundary
boundary-holds = record { graphs = holds; opens = example-opens; holds = held; writes = wrote; none = refuses 0 refl; over = refuses (suc max_rows) refl; most = passes max_rows refl }
