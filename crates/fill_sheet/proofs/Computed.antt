-- A sheet computed: three places, whose lower rows are not as long as their lower columns, in an order of their own. And the call on it.
use Rattle.std.specs.Prelude.{Ok, Err}
use Prim.Native.Nat.{ℕ}
use mathlib.Core.Path.{◌≡◌, refl}
use mathlib.Core.List.{List, [], ◌∷◌, ◌++◌}
use lib.ListN.{replicate}
use lib.Ieee.{nan}
use Rattle.base.specs.Answers.{left}
use Rattle.base.specs.First.{first}
use Rattle.base.specs.Lists.{asc, count, has, joined, list_at, nought, padded, sum, table}
use Rattle.base.specs.declared.Refusal.TheVariants.{Lengths}
use Rattle.fill.specs.Fill.{reach, filled, upper, upper_row, lower_row, lower_column, products}
use Rattle.placement.specs.Placing.{count_above, tails, best_from, first_at, agree, append_all, fresh, meets, overlap, tail_or, shared, after, placed, start_of}
use Rattle.matrix.specs.Input.{Input, input_of, is_of, ic, stored}
use Rattle.matrix.specs.Questions.{bad_start, bad_column, bad_index, no_entry, empty_row, ask3, ask4, ask5, ask7, ask_pattern, ask_structure}
use Rattle.outcome.specs.Forms.{placed_to, index_need, value_need}
use Rattle.outcome.specs.Buffers.{shared_buffers, ask_shape}
use Rattle.outcome.specs.Structure.{fits, ask_place, ask_places, counts, side_placed, structured, structure}
use Rattle.printing.specs.Print.{digit, digits, width_in, decimal, column}
use Rattle.sheet.specs.Sheet.{place_line, head_line, blank_line, line_or, page, sheet}
use Rattle.fill_sheet.specs.FillSheet.{fill_line, fill_sheet, ask_sheet, sheet_structure, SheetBuffers, sheet_buffers, sheet_outcome}

-- own rows 0: columns 0, 1; 1: columns 1, 2; 2: columns 2, 1; places 0, 1, 2 take 2, 0, 1
unfoldable pub three : Input
three = input_of 3 (0 ∷ 2 ∷ 4 ∷ 6 ∷ []) (0 ∷ 1 ∷ 1 ∷ 2 ∷ 2 ∷ 1 ∷ []) [] (2 ∷ 0 ∷ 1 ∷ []) (2 ∷ 0 ∷ 1 ∷ []) []

-- blanks, and one character behind them
abbrev behind : ℕ → ℕ → List ℕ
behind blanks character = replicate blanks 32 ++ (character ∷ [])

abbrev lines : List ℕ
lines =
    (70 ∷ 73 ∷ 76 ∷ 76 ∷ []) ++ behind 35 49 ++ (10 ∷ [])
    ++ behind 5 48 ++ behind 7 50 ++ behind 7 48 ++ behind 7 49 ++ behind 9 48 ++ (10 ∷ [])
    ++ behind 5 49 ++ behind 7 48 ++ behind 7 48 ++ behind 7 49 ++ behind 9 48 ++ (10 ∷ [])
    ++ behind 5 50 ++ behind 7 49 ++ behind 7 49 ++ behind 7 48 ++ behind 9 49 ++ (10 ∷ [])

pub three-lines : fill_sheet three ≡ lines ++ joined (λ j. blank_line) 46
unfolding three fill_sheet fill_line sheet page line_or head_line blank_line place_line joined column decimal width_in digits digit placed_to placed after shared append_all fresh meets overlap tail_or tails best_from count_above first_at agree lower_row upper_row asc upper filled reach stored ic first is_of has list_at
three-lines = refl

-- ---- the call, over buffers that held other numbers

abbrev used : ℕ → SheetBuffers
used bytes =
    sheet_buffers
    (shared_buffers (7 ∷ 7 ∷ 7 ∷ 7 ∷ []) (7 ∷ 7 ∷ 7 ∷ []) (7 ∷ 7 ∷ []) (nan ∷ nan ∷ []) (7 ∷ 7 ∷ 7 ∷ 7 ∷ []) (7 ∷ 7 ∷ 7 ∷ []) (7 ∷ 7 ∷ []) (nan ∷ nan ∷ []) [] [] (replicate 9 nan) (replicate 32 7))
    (replicate bytes 7)

pub done : sheet_outcome three (used 2050) ≡ left (Ok (record { lower = 1; upper = 2; products = 1 }))
    (sheet_buffers
    (shared_buffers (0 ∷ 1 ∷ 1 ∷ 1 ∷ []) (0 ∷ 1 ∷ 1 ∷ []) (2 ∷ 0 ∷ []) (nought ∷ nought ∷ []) (0 ∷ 1 ∷ 2 ∷ 2 ∷ []) (0 ∷ 0 ∷ 1 ∷ []) (2 ∷ 0 ∷ []) (nought ∷ nought ∷ []) [] [] (replicate 9 nought) (replicate 32 0))
    (fill_sheet three))
unfolding three sheet_outcome sheet_structure ask_sheet ask_shape structure ask_structure ask_pattern ask3 ask4 ask5 ask7 first bad_start bad_column bad_index is_of empty_row no_entry list_at ask_places ask_place fits index_need value_need start_of structured side_placed counts products lower_column count sum padded table placed_to placed after shared append_all fresh meets overlap tail_or tails best_from count_above first_at agree lower_row upper_row asc upper filled reach stored ic has
done = refl

-- a byte less
pub short : sheet_outcome three (used 2049) ≡ left (Err Lengths) (used 2049)
unfolding three sheet_outcome sheet_structure ask_sheet ask_shape
short = refl
