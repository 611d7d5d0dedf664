-- The six lists of a matrix, its orders and its right side, and their lengths. Definitions only.
use Rattle.std.specs.Prelude.{ℕ, ◌+◌, Bool, ◌&&◌, List, length, eqb, Float}
use Rattle.matrix.specs.Input.{Input, input_of}

-- the lists of a matrix
pub record MatrixLists : Type 0 where
  pub starts : List ℕ
  pub columns : List ℕ
  pub values : List Float
  pub r : List ℕ
  pub c : List ℕ
  pub b : List Float

abbrev pub matrix_lists : List ℕ → List ℕ → List Float → List ℕ → List ℕ → List Float → MatrixLists
matrix_lists s j v r c b = record { starts = s; columns = j; values = v; r = r; c = c; b = b }

abbrev pub lists_in : Input → MatrixLists
lists_in i = matrix_lists i.starts i.columns i.values i.r i.c i.b

abbrev pub with_rows : ℕ → MatrixLists → Input
with_rows n l = input_of n l.starts l.columns l.values l.r l.c l.b

-- "Buffers of matching length?": n + 1 starts, e slots of columns and values (a file's entries, a load's 4n), n of each of r, c and b
abbrev pub lengths_right : ℕ → ℕ → ℕ → ℕ → ℕ → ℕ → ℕ → ℕ → Bool
lengths_right n e s j v r c b = eqb s (n + 1) && eqb j e && eqb v e && eqb r n && eqb c n && eqb b n

abbrev pub lists_right : ℕ → ℕ → MatrixLists → Bool
lists_right n e l = lengths_right n e (length l.starts) (length l.columns) (length l.values) (length l.r) (length l.c) (length l.b)
