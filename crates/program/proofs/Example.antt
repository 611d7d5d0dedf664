-- What the program prints for the paper's file, computed from the file's 512 bytes: its three lines.
use mathlib.Core.Path.{◌≡◌, refl}
use mathlib.Core.Bool.{true}
use mathlib.Core.List.{List, [], ◌∷◌}
use Prim.Native.Nat.{ℕ}
use lib.ListN.{length}
use lib.Dec.{leb}
use lib.Ieee.{of_bits, to_bits, sub, mul, div, lt, eq, le}
use Rattle.base.specs.Magnitude.{at_most, is_floor}
use Rattle.base.specs.Lists.{sum, count, asc, has, table, list_at, pairs}
use Rattle.base.specs.First.{first}
use Rattle.fill.specs.Fill.{reach, filled, upper, upper_row, lower_row, lower_column, products}
use Rattle.matrix.specs.Input.{is_of, ic, stored, entries, right_at, own_order}
use Rattle.matrix.specs.Questions.{bad_start, bad_column, bad_index, not_finite, no_entry, empty_row, ask3, ask4, ask5, ask_finite, ask6, ask_floor, ask_numbers, ask7, ask_pattern, ask_solve}
use Rattle.placement.specs.Placing.{append_all, plain, after, placed, start_of}
use Rattle.arithmetic.specs.Arith.{judged, load_run, step1, subtract_run, step_run, step2, scaled_run, step3, row_run, forward_run, rest_run, back_run, whole_run}
use Rattle.outcome.specs.Forms.{placed_to, index_need, value_need}
use Rattle.outcome.specs.Buffers.{ask_shape}
use Rattle.outcome.specs.Structure.{fits, ask_place, ask_places, counts}
use Rattle.outcome.specs.Solve.{system, listed, kept, shape, solve}
use Rattle.matrix_file.specs.Example.{example_matrix, example_file}
use Rattle.matrix_file.proofs.ExampleFile.{example-opens, example-held}
use Rattle.printing.specs.Print.{digit, digits, width_in, decimal, hexadecimal, labelled, counts_line, bits_end, value_line}
use Rattle.program.specs.Program.{zeros, noughts, value_lines, solved_lines, printed}

-- `n 2 lower 1 upper 1 products 1`, `x 0 3FF0000000000000`, `x 1 4000000000000000`
unfoldable pub example_lines : List ℕ
example_lines =
    110 ∷ 32 ∷ 50 ∷ 32 ∷ 108 ∷ 111 ∷ 119 ∷ 101 ∷ 114 ∷ 32 ∷ 49 ∷ 32 ∷ 117 ∷ 112 ∷ 112 ∷ 101 ∷ 114 ∷ 32 ∷ 49 ∷ 32 ∷ 112 ∷ 114 ∷ 111 ∷ 100 ∷ 117 ∷ 99 ∷ 116 ∷ 115 ∷ 32 ∷ 49 ∷ 10 ∷
    120 ∷ 32 ∷ 48 ∷ 32 ∷ 51 ∷ 70 ∷ 70 ∷ 48 ∷ 48 ∷ 48 ∷ 48 ∷ 48 ∷ 48 ∷ 48 ∷ 48 ∷ 48 ∷ 48 ∷ 48 ∷ 48 ∷ 48 ∷ 10 ∷
    120 ∷ 32 ∷ 49 ∷ 32 ∷ 52 ∷ 48 ∷ 48 ∷ 48 ∷ 48 ∷ 48 ∷ 48 ∷ 48 ∷ 48 ∷ 48 ∷ 48 ∷ 48 ∷ 48 ∷ 48 ∷ 48 ∷ 48 ∷ 10 ∷ []

-- the example's matrix, solved and printed
lines : solved_lines example_matrix ≡ example_lines
unfolding solved_lines value_lines example_lines zeros noughts digit digits width_in decimal hexadecimal labelled counts_line bits_end value_line solve shape ask_shape ask_solve ask_pattern ask3 ask4 ask5 ask6 ask7 ask_finite first bad_start bad_column bad_index is_of not_finite empty_row no_entry list_at pairs ask_places ask_place filled reach stored has fits index_need value_need placed_to placed after plain append_all start_of upper_row lower_row asc upper listed system entries right_at ic judged whole_run load_run step1 subtract_run step_run step2 scaled_run step3 row_run forward_run rest_run back_run counts sum count lower_column products own_order table kept of_bits to_bits sub mul div ask_numbers ask_floor is_floor at_most lt eq le
lines = refl

within : leb (length example_file) 11776 ≡ true
unfolding example_file
within = refl

-- from the bytes
pub example-printed : printed example_file ≡ example_lines
unfolding printed
example-printed = rw (within, example-opens, example-held) lines
