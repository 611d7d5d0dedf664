-- What the parts of the call are lent. Definitions only.
use Rattle.std.specs.Prelude.{ℕ, ◌+◌, ◌≤◌, ◌<◌, ◌≡◌, true, T, List, [], length, get_or, Float}
use Rattle.std.specs.Float.{nan, binary64}
use Rattle.std.specs.Float.Ieee.{fits}
use Rattle.std.specs.Float.Ieee.Scale.{finite}
use Rattle.base.specs.Limits.{max_rows, max_entries}
use Rattle.base.specs.Lists.{row_of}
use Rattle.base.specs.declared.OwnNumber.{OwnNumber}
use Rattle.lent.specs.Reading.{ListIn, Below}
use Rattle.matrix.specs.Input.{Input, input_of}
use Rattle.matrix.specs.declared.System as declared
use Rattle.residual.specs.Answer.{right_of}

-- the matrix and the right side that a system lends: the call reads no orders and no floor
abbrev pub lent_matrix : declared.System → Input
lent_matrix i = input_of i.n i.starts.now i.columns.now i.values.now [] [] i.b.now

-- numbers of the format
abbrev pub Fits : List Float → Type 0
Fits v = (p : ℕ) → T (fits binary64 (get_or v p nan))

-- the same of an own row and its right side
pub record RowFits (i : Input) (k : OwnNumber) : Type 0 where
  pub values : Fits (row_of i.starts i.values k.0)
  pub right : fits binary64 (right_of i k) ≡ true

-- a row's columns and values, and x
pub record RowLent (j : List ℕ) (v x : List Float) : Type 0 where
  pub same : length v ≡ length j
  pub under : Below (length x) j

-- lengths as 1 and 2 settle them
pub record Sized (i : Input) (x : List Float) : Type 0 where
  pub few : i.n ≤ max_rows
  pub starts : length i.starts ≡ i.n + 1
  pub columns : length i.columns ≤ max_entries
  pub values : length i.values ≡ length i.columns
  pub right : length i.b ≡ i.n
  pub scores : length x ≡ i.n

-- a row that can be read, of a matrix that passes 1 to 7
pub record Readable (i : Input) (x : List Float) (k : OwnNumber) : Type 0 where
  pub row : k.0 < length i.b
  pub columns : length i.columns ≤ max_entries
  pub values : length i.values ≡ length i.columns
  pub within : ListIn i.starts i.starts (length i.columns) k.0
  pub ends : finite (right_of i k) ≡ true
  pub under : Below (length x) i.columns
