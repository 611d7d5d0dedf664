-- The example's file opens to n = 2 and an entry on each side and to no other sizes, holds the example's factors, and is what these are written as; they pass the writer's questions; each refusal of the writer, and which comes first of the reader: all computed.
use Rattle.std.specs.Prelude.{Ok, Err}
use mathlib.Core.Path.{◌≡◌, refl}
use mathlib.Core.Bool.{false}
use mathlib.Core.List.{List, [], ◌∷◌}
use Prim.Native.Nat.{ℕ}
use lib.IntN.{pos, negsuc}
use lib.Ieee.{Float, fin, nan, of_bits, to_bits}
use Rattle.base.specs.Answers.{spot, Pass}
use Rattle.base.specs.Lists.{sum, total, table, joined, padded, list_at}
use Rattle.base.specs.First.{first}
use Rattle.base.specs.declared.Refusal.TheVariants.{Rows, Lengths, Order, BadFactors, FileLength, FactorShape, Products}
use Rattle.matrix.specs.Input.{is_of}
use Rattle.matrix.specs.Questions.{bad_index, ask5}
use Rattle.fields.specs.Numbers.{le, bytes, fields, part, stream}
use Rattle.fields.specs.Payload.{fields_at, floats_at, marked}
use Rattle.blocks.specs.Blocks.{check_a, check_b, right_block, wrong_block, ask_blocks, seal_block, file_of}
use Rattle.outcome.specs.Resolve.{given_list, given_values, rises_in, misplaced, bad_list, bad_at, ask_factors}
use Rattle.factor_contents.specs.FactorFile.{FactorLists, factor_lists, cut, written, lists_at, factors_at, ask_head, ask_file, ask15, products_of, ask_contents, ask_through, ask_lengths, ask_write, opened}
use Rattle.factor_contents.specs.Example.{example_factors, longer_factors, example_counts, example_file}

pub example-opens : opened example_file ≡ Ok (record { n = 2; lower = 1; upper = 1 })
unfolding opened ask_file ask_blocks ask_head first wrong_block right_block check_a check_b sum le marked example_file
example-opens = refl

-- no rows; more entries than the block holds; fewer, so that some of theirs stand where zeros close
pub other-sizes : (ask_head example_file 0 1 1 ≡ Err Rows) × (ask_head example_file 2 50 1 ≡ Err FactorShape) × (ask_head example_file 2 1 0 ≡ Err FactorShape)
unfolding ask_head first marked example_file
other-sizes = (refl, refl, refl)

pub example-held : factors_at example_file ≡ example_factors
unfolding factors_at lists_at fields_at floats_at table le of_bits example_file
example-held = refl

pub example-written : written 2 example_counts example_factors ≡ example_file
unfolding written file_of joined seal_block padded stream fields bytes check_a check_b sum to_bits example_file
example-written = refl

-- the writer's questions can be passed, by stores with more slots than lists too: what stands there is not looked at
pub example-asked : (ask_write 2 example_counts example_factors 512 ≡ Pass) × (ask_write 2 example_counts longer_factors 512 ≡ Pass)
unfolding ask_write ask_lengths cut ask_contents ask5 first bad_index is_of ask15 ask_factors bad_at bad_list misplaced given_list given_values list_at rises_in products_of total
example-asked = (refl, refl)

-- ---- refusals

abbrev pub one : Float
one = fin false 1 (pos 0)

abbrev pub half : Float
half = fin false 1 (negsuc 0)

-- the example with other orders, lower starts and L
abbrev with : List ℕ → List ℕ → Float → FactorLists
with r ls v = factor_lists r (0 ∷ 1 ∷ []) ls (0 ∷ []) (v ∷ []) (0 ∷ 1 ∷ 1 ∷ []) (1 ∷ []) (fin false 1 (pos 1) ∷ []) (half ∷ half ∷ [])

abbrev natural : List ℕ
natural = 0 ∷ 1 ∷ []

abbrev starts : List ℕ
starts = 0 ∷ 0 ∷ 1 ∷ []

-- the writer's: n, a file's length, an order, a NaN in row 1, starts that end early, a count of products
pub writer-refuses :
    (ask_write 0 example_counts example_factors 512 ≡ Err Rows)
    × (ask_write 2 example_counts example_factors 1024 ≡ Err Lengths)
    × (ask_write 2 example_counts (with (1 ∷ 1 ∷ []) starts one) 512 ≡ Err (Order 1))
    × (ask_write 2 example_counts (with natural starts nan) 512 ≡ Err (BadFactors (spot 1)))
    × (ask_write 2 example_counts (with natural (0 ∷ 0 ∷ 0 ∷ []) one) 512 ≡ Err (BadFactors (spot 1)))
    × (ask_write 2 example_counts (with natural (0 ∷ 1 ∷ 1 ∷ []) one) 512 ≡ Err (BadFactors (spot 0)))
    × (ask_write 2 (record { lower = 1; upper = 1; products = 2 }) example_factors 512 ≡ Err Products)
unfolding ask_write ask_lengths cut ask_contents ask5 first bad_index is_of ask15 ask_factors bad_at bad_list misplaced given_list given_values list_at rises_in products_of total
writer-refuses = (refl, refl, refl, refl, refl, refl, refl)

-- a file of one block whose lower entries would take more
abbrev misshapen : List ℕ
misshapen = file_of (stream (part 4 (2 ∷ 60 ∷ 1 ∷ []) ∷ []))

-- the reader's, where the lengths do not fit: 16 and 20 come first
pub reader-refuses : (ask_through [] false ≡ Err FileLength) × (ask_through misshapen false ≡ Err FactorShape) × (ask_through example_file false ≡ Err Lengths)
unfolding ask_through ask_file ask_blocks ask_head first wrong_block right_block check_a check_b sum le marked example_file file_of joined seal_block padded stream fields bytes
reader-refuses = (refl, refl, refl)
