-- The fill sheet of a matrix, and the call that prints it. Definitions only.
use Rattle.std.specs.Prelude.{ℕ, List, [], ◌∷◌, ◌++◌, length, get_or, eqb, Ok, Err}
use Rattle.base.specs.Answers.{Left, left, Asked, Answer}
use Rattle.base.specs.declared.Form.TheVariants.{Shared}
use Rattle.base.specs.declared.Side.TheVariants.{Upper}
use Rattle.base.specs.declared.Sizes.{Sizes}
use Rattle.fill.specs.Fill.{upper_row, lower_row}
use Rattle.matrix.specs.Input.{Input, stored}
use Rattle.outcome.specs.Forms.{placed_to}
use Rattle.outcome.specs.Buffers.{Buffers, Outcome, sizes, pattern_tests, structure_tests, ask_shape, stop}
use Rattle.outcome.specs.Structure.{structure}
use Rattle.sheet.specs.Sheet.{place_line, sheet, sheet_bytes}

unfoldable pub fill_line : Input → ℕ → List ℕ
fill_line i k =
    place_line k (get_or i.r k 0) (length (lower_row (stored i) k)) (length (upper_row (stored i) i.n k)) (get_or (placed_to Shared Upper (stored i) i.n i.n).runs k 0)

unfoldable pub fill_sheet : Input → List ℕ
fill_sheet i = sheet i.n (fill_line i)

-- ---- the call

-- questions 1 and 2, the sheet's length among the others
unfoldable pub ask_sheet : Input → Sizes → ℕ → Asked
ask_sheet i z len = ask_shape i.n (pattern_tests i ++ structure_tests Shared i.n z ++ (eqb len (sheet_bytes i.n) ∷ []))

-- "the questions and returned counts are the shared structure call's, with its stores and scratch ending as there"
unfoldable pub sheet_structure : Input → Buffers → ℕ → Outcome Answer
sheet_structure i s len = stop Err (ask_sheet i (sizes s) len) s (structure Shared i s)

-- "a refusal leaves the sheet untouched"
abbrev pub sheet_after : Input → Answer → List ℕ → List ℕ
sheet_after i (Ok c) old = fill_sheet i
sheet_after i (Err q) old = old

-- the buffers that the call writes: those of the structure call, and the sheet
pub record SheetBuffers : Type 0 where
  pub stores : Buffers
  pub sheet : List ℕ

abbrev pub sheet_buffers : Buffers → List ℕ → SheetBuffers
sheet_buffers s sheet = record { stores = s; sheet = sheet }

abbrev pub with_sheet : Input → List ℕ → Outcome Answer → Left Answer SheetBuffers
with_sheet i old o = left o.answer (sheet_buffers o.buffers (sheet_after i o.answer old))

-- how the call ends
unfoldable pub sheet_outcome : Input → SheetBuffers → Left Answer SheetBuffers
sheet_outcome i s = with_sheet i s.sheet (sheet_structure i s.stores (length s.sheet))
