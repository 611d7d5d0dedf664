-- The example's file opens to n = 2 and e = 4, holds the example's matrix, and is what that is written as: all computed.
use Rattle.base.specs.Answers.{Pass}
use Rattle.std.specs.Prelude.{Ok}
use mathlib.Core.Path.{◌≡◌, refl}
use lib.Ieee.{of_bits, to_bits}
use Rattle.base.specs.Lists.{sum, table, joined, padded}
use Rattle.base.specs.First.{first}
use Rattle.fields.specs.Numbers.{le, bytes, fields, stream}
use Rattle.fields.specs.Payload.{fields_at, floats_at, marked}
use Rattle.blocks.specs.Blocks.{check_a, check_b, right_block, wrong_block, ask_blocks, seal_block, file_of}
use Rattle.matrix_file.specs.MatrixFile.{written, lists_at, matrix_at, ask_head, ask_file, opened, ask_lengths, ask_write}
use Rattle.matrix_file.specs.Example.{example_matrix, example_file}

pub example-opens : opened example_file ≡ Ok (record { rows = 2; entries = 4 })
unfolding opened ask_file ask_blocks ask_head first wrong_block right_block check_a check_b sum le marked example_file
example-opens = refl

pub example-held : matrix_at example_file ≡ example_matrix
unfolding matrix_at lists_at fields_at floats_at table le of_bits example_file
example-held = refl

pub example-written : written example_matrix ≡ example_file
unfolding written file_of joined seal_block padded stream fields bytes check_a check_b sum to_bits example_file
example-written = refl

-- the writer's questions can be passed
pub example-asked : ask_write example_matrix 512 ≡ Pass
unfolding ask_write ask_lengths
example-asked = refl
