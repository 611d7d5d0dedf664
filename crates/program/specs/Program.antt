-- What the program prints for a file, as bytes. Definitions only.
use Rattle.matrix.specs.Shape.{Shaped}
use Rattle.std.specs.Prelude.{◌≡◌, true, ◌&&◌, cond, List, [], ◌∷◌, ◌++◌, ℕ, suc, ◌+◌, ◌*◌, length, replicate, leb, Float, Ok, Err}
use Rattle.std.specs.Float.{binary64}
use Rattle.std.specs.Float.Ieee.{to_bits}
use Rattle.base.specs.Lists.{nought}
use Rattle.base.specs.Answers.{number_of, place_of, Answer}
use Rattle.base.specs.declared.Form.TheVariants.{Plain}
use Rattle.matrix.specs.Input.{Input}
use Rattle.outcome.specs.Buffers.{Buffers, Outcome, plain_buffers}
use Rattle.outcome.specs.Solve.{solve}
use Rattle.matrix.specs.Lists.{MatrixLists, lists_right}
use Rattle.matrix_file.specs.MatrixFile.{matrix_at, opened}
use Rattle.printing.specs.Print.{counts_line, value_line, refused_line, too_large_line}

-- "It gives 2,016 slots a store": what the solve is lent, all zero
unfoldable pub zeros : ℕ → List ℕ
zeros m = replicate m 0

unfoldable pub noughts : ℕ → List Float
noughts m = replicate m nought

abbrev pub lent : ℕ → Buffers
lent n =
    plain_buffers (zeros (n + 1)) (zeros 2016) (noughts 2016) (zeros (n + 1)) (zeros 2016) (noughts 2016) (noughts n) (noughts n) (noughts (3 * n)) (zeros (8 * n + 8))

-- "a line for each own column, ascending, with 16 capital hexadecimal digits of x", from column j on
unfoldable pub value_lines : ℕ → List Float → List ℕ
value_lines j [] = []
value_lines j (v ∷ vs) = value_line j (to_bits binary64 v) ++ value_lines (suc j) vs

-- "prints n and the counts, then a line for each own column … or only `refused` number place"
abbrev pub answer_lines : ℕ → Answer → List Float → List ℕ
answer_lines n (Ok c) x = counts_line n c ++ value_lines 0 x
answer_lines n (Err q) x = refused_line (number_of q) (place_of q)

abbrev pub outcome_lines : ℕ → Outcome Answer → List ℕ
outcome_lines n o = answer_lines n o.answer o.buffers.x

-- "solves plain"
unfoldable pub solved_lines : Input → List ℕ
solved_lines i = outcome_lines i.n (solve Plain i (lent i.n))

-- "After 16, 17, 1 and 18 it prints `too large` for n > 64 or e > 1,024"
abbrev pub shaped_lines : List ℕ → Shaped → List ℕ
shaped_lines file (Err q) = refused_line (number_of q) (place_of q)
shaped_lines file (Ok m) = cond (leb m.rows 64 && leb m.entries 1024) (solved_lines (matrix_at file)) too_large_line

-- "a file over 11,776 bytes gets `too large` first of all"
unfoldable pub printed : List ℕ → List ℕ
printed file = cond (leb (length file) 11776) (shaped_lines file (opened file)) too_large_line

-- ---- what the reading wants: buffers of the lengths that the file's shape asks for
pub record Fitting (file : List ℕ) (n : ℕ) (l : MatrixLists) : Type 0 where
  pub entries : ℕ
  pub shape : opened file ≡ Ok (record { rows = n; entries = entries })
  pub lengths : lists_right n entries l ≡ true
