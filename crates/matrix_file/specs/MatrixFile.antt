-- The matrix file: its layout, its questions, what it holds, and the outcomes of the three calls. Definitions only.
use Rattle.matrix.specs.Shape.{Shaped}
use Rattle.std.specs.Prelude.{Bool, ◌&&◌, List, [], ◌∷◌, ◌++◌, ℕ, ◌+◌, ◌*◌, length, eqb, leb, Float, Ok, Err}
use Rattle.base.specs.Answers.{holds, and_then, Left, or_untouched, Pass, Asked}
use Rattle.base.specs.declared.Refusal.TheVariants.{Rows, Lengths, FileShape}
use Rattle.base.specs.Limits.{max_entries, rows_within}
use Rattle.matrix.specs.Input.{Input}
use Rattle.matrix.specs.Lists.{MatrixLists, matrix_lists, lists_in, with_rows, lengths_right, lists_right}
use Rattle.matrix.specs.declared.Matrix.{Matrix}
use Rattle.fields.specs.Numbers.{le, Part, part, stream}
use Rattle.fields.specs.Payload.{payload, fields_at, floats_at, bits_of}
use Rattle.blocks.specs.Blocks.{blocks_for, file_of, ends_at, ask_blocks}

-- ---- the file of a matrix

-- "Joined payloads: n, e, starts (4 bytes each), columns (2), values (8, IEEE 754 bits), r, c (2), b (8)"
abbrev pub matrix_parts : ℕ → List ℕ → List ℕ → List Float → List Part
matrix_parts n s j v = part 4 (n ∷ length j ∷ []) ∷ part 4 s ∷ part 2 j ∷ part 8 (bits_of v) ∷ []

abbrev pub order_parts : List ℕ → List ℕ → List Float → List Part
order_parts r c b = part 2 r ∷ part 2 c ∷ part 8 (bits_of b) ∷ []

abbrev pub parts_of : Input → List Part
parts_of i = matrix_parts i.n i.starts i.columns i.values ++ order_parts i.r i.c i.b

unfoldable pub written : Input → List ℕ
written i = file_of (stream (parts_of i))

-- the payload bytes that a matrix of n rows and e entries takes, and its file's length
abbrev pub size_of : ℕ → ℕ → ℕ
size_of n e = 12 + 16 * n + 10 * e

abbrev pub file_length : ℕ → ℕ → ℕ
file_length n e = 512 * blocks_for (size_of n e)

-- ---- the matrix of a file

abbrev pub n_of : List ℕ → ℕ
n_of file = le 4 (payload file) 0

abbrev pub e_of : List ℕ → ℕ
e_of file = le 4 (payload file) 4

abbrev pub shape_in : List ℕ → Matrix
shape_in file = record { rows = n_of file; entries = e_of file }

-- the lists of the given lengths that stand one after another from payload byte 8 on
unfoldable pub lists_at : List ℕ → ℕ → ℕ → ℕ → ℕ → ℕ → ℕ → MatrixLists
lists_at file s j v r c b =
    matrix_lists (fields_at 4 file 8 s)
    (fields_at 2 file (8 + 4 * s) j)
    (floats_at file (8 + 4 * s + 2 * j) v)
    (fields_at 2 file (8 + 4 * s + 2 * j + 8 * v) r)
    (fields_at 2 file (8 + 4 * s + 2 * j + 8 * v + 2 * r) c)
    (floats_at file (8 + 4 * s + 2 * j + 8 * v + 2 * r + 2 * c) b)

abbrev pub lists_for : List ℕ → ℕ → ℕ → MatrixLists
lists_for file n e = lists_at file (n + 1) e e n n n

-- what a file holds
unfoldable pub matrix_at : List ℕ → Input
matrix_at file = with_rows (n_of file) (lists_for file (n_of file) (e_of file))

-- ---- the questions

-- "e at most 65,536 and the block count and closing zeros as n and e demand?"
abbrev pub fits_shape : List ℕ → ℕ → ℕ → Bool
fits_shape file n e = leb e max_entries && ends_at file (size_of n e)

-- 1 and 18
unfoldable pub ask_head : List ℕ → ℕ → ℕ → Asked
ask_head file n e = and_then (holds (rows_within n) Rows) (holds (fits_shape file n e) FileShape)

-- 16, 17, 1 and 18
unfoldable pub ask_file : List ℕ → Asked
ask_file file = and_then (ask_blocks file) (ask_head file (n_of file) (e_of file))

-- a shape, once the questions are passed
abbrev pub shaped : Asked → Matrix → Shaped
shaped (Ok _) m = Ok m
shaped (Err q) m = Err q

-- the outcome of `matrix_file_shape`
unfoldable pub opened : List ℕ → Shaped
opened file = shaped (ask_file file) (shape_in file)

-- the reader's: 16, 17, 1, 18 and 2
unfoldable pub ask_read : List ℕ → MatrixLists → Asked
ask_read file l = and_then (ask_file file) (holds (lists_right (n_of file) (e_of file) l) Lengths)

-- "The writer puts 1, then 18 for e over its limit, then 2", of the file's own length too
unfoldable pub ask_lengths : ℕ → ℕ → ℕ → ℕ → ℕ → ℕ → ℕ → ℕ → Asked
ask_lengths n e s v r c b len =
    and_then (holds (rows_within n) Rows)
    (and_then (holds (leb e max_entries) FileShape)
    (holds (lengths_right n e s e v r c b && eqb len (file_length n e)) Lengths))

unfoldable pub ask_write : Input → ℕ → Asked
ask_write i len = ask_lengths i.n (length i.columns) (length i.starts) (length i.values) (length i.r) (length i.c) (length i.b) len

-- ---- the outcomes of `read_matrix` and `write_matrix`

unfoldable pub read_outcome : List ℕ → MatrixLists → Left Asked MatrixLists
read_outcome file l = or_untouched Err (ask_read file l) Pass (lists_in (matrix_at file)) l

unfoldable pub write_outcome : Input → List ℕ → Left Asked (List ℕ)
write_outcome i file = or_untouched Err (ask_write i (length file)) Pass (written i) file
