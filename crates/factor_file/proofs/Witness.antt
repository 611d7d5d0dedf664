-- The calls over the example: written, and read into longer stores that held other numbers, all computed.
use Rattle.std.specs.Prelude.{Ok}
use mathlib.Core.Path.{◌≡◌, refl}
use mathlib.Core.Bool.{false}
use mathlib.Core.List.{[], ◌∷◌}
use lib.IntN.{pos}
use lib.ListN.{replicate}
use lib.Ieee.{fin, of_bits, to_bits}
use Rattle.base.specs.Answers.{left, Pass}
use Rattle.base.specs.Lists.{sum, total, table, joined, padded, list_at, nought}
use Rattle.base.specs.First.{first}
use Rattle.matrix.specs.Input.{is_of}
use Rattle.matrix.specs.Questions.{bad_index, ask5}
use Rattle.fields.specs.Numbers.{le, bytes, fields, stream}
use Rattle.fields.specs.Payload.{fields_at, floats_at, marked}
use Rattle.blocks.specs.Blocks.{check_a, check_b, right_block, wrong_block, ask_blocks, seal_block, file_of}
use Rattle.outcome.specs.Resolve.{given_list, given_values, rises_in, misplaced, bad_list, bad_at, ask_factors}
use Rattle.factor_contents.specs.FactorFile.{FactorLists, factor_lists, cut, held, written, lists_at, factors_at, ask_head, ask_file, ask15, products_of, ask_contents, ask_through, ask_lengths, ask_write, read_outcome, write_outcome}
use Rattle.factor_contents.specs.Example.{example_factors, example_counts, example_file}
use Rattle.factor_contents.proofs.ExampleFile.{one, half}

-- stores that held other numbers, with a slot to spare but for the upper indices
abbrev lent : FactorLists
lent = factor_lists (7 ∷ 7 ∷ []) (7 ∷ 7 ∷ []) (7 ∷ 7 ∷ 7 ∷ []) (7 ∷ 7 ∷ []) (one ∷ one ∷ []) (7 ∷ 7 ∷ 7 ∷ []) (7 ∷ []) (one ∷ one ∷ []) (one ∷ one ∷ [])

pub example-read : read_outcome example_file lent ≡ left (Ok example_counts)
    (factor_lists (0 ∷ 1 ∷ []) (0 ∷ 1 ∷ []) (0 ∷ 0 ∷ 1 ∷ []) (0 ∷ 0 ∷ []) (one ∷ nought ∷ []) (0 ∷ 1 ∷ 1 ∷ []) (1 ∷ []) (fin false 1 (pos 1) ∷ nought ∷ []) (half ∷ half ∷ []))
unfolding read_outcome ask_through ask_file ask_blocks ask_head first wrong_block right_block check_a check_b sum le marked example_file factors_at lists_at fields_at floats_at table of_bits ask_contents ask5 bad_index is_of ask15 ask_factors bad_at bad_list misplaced given_list given_values list_at rises_in products_of total held padded
example-read = refl

pub example-written : write_outcome 2 example_counts example_factors (replicate 512 7) ≡ left Pass example_file
unfolding write_outcome ask_write ask_lengths cut ask_contents ask5 first bad_index is_of ask15 ask_factors bad_at bad_list misplaced given_list given_values list_at rises_in products_of total written file_of joined seal_block padded stream fields bytes check_a check_b sum to_bits example_file
example-written = refl
