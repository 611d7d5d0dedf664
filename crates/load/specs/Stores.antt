-- What the stores hold while the load is drawn. Definitions only.
use Rattle.std.specs.Prelude.{ℕ, ◌+◌, ◌*◌, ◌≤◌, ◌<◌, ◌≡◌, List, [], ◌++◌, length, take, Float}
use Rattle.base.specs.Lists.{nought, padded, table, joined}
use Rattle.base.specs.Limits.{max_rows}
use Rattle.load.specs.Load.{drawn, column_of, added, row_from, seed_at, row_at, entries_at, values_for, load}
use Rattle.load.specs.declared.Drawn.{Drawn}

-- the rows before, then a row that begins at `from` and ends at `end`, then zeros
pub record Held (before : List ℕ) (given : List Float) (row : List ℕ) (size from end : ℕ) (columns : List ℕ) (values : List Float) : Type 0 where
  pub columns-are : columns ≡ padded 0 size (before ++ row)
  pub values-are : values ≡ padded nought size (given ++ values_for row)
  pub from_is : length before ≡ from
  pub given_is : length given ≡ from
  pub end_is : end ≡ from + length row
  pub room : end ≤ size
  pub some : 0 < length row

-- what a draw is asked for
pub record Drawable (n size values from : ℕ) (d : Drawn) : Type 0 where
  pub rows : 0 < n
  pub few : n ≤ max_rows
  pub long : values ≡ size
  pub begun : from ≤ d.end
  pub room : d.end < size
  pub seed-small : d.seed < 65536

-- what a draw does
pub record Drew (n from : ℕ) (d : Drawn) (columns : List ℕ) (values : List Float) (r : Drawn) (columns' : List ℕ) (values' : List Float) : Type 0 where
  pub seed-is : r.seed ≡ drawn d.seed
  pub seed-small : r.seed < 65536
  pub columns-long : length columns' ≡ length columns
  pub values-long : length values' ≡ length values
  pub least : d.end ≤ r.end
  pub most : r.end ≤ d.end + 1
  pub held : (before : List ℕ) (given : List Float) (row : List ℕ) (size : ℕ) → d.end < size → Held before given row size from d.end columns values
      → Held before given (added row (column_of n (drawn d.seed))) size from r.end columns' values'

-- what a row is asked for
pub record RowDrawable (n k size values : ℕ) (d : Drawn) : Type 0 where
  pub place : k < n
  pub few : n ≤ max_rows
  pub long : values ≡ size
  pub room : d.end + 4 ≤ size
  pub seed-small : d.seed < 65536

-- what drawing a row does
pub record RowDrew (n k : ℕ) (d : Drawn) (columns : List ℕ) (values : List Float) (r : Drawn) (columns' : List ℕ) (values' : List Float) : Type 0 where
  pub seed-is : r.seed ≡ (row_from n d.seed k).seed
  pub seed-small : r.seed < 65536
  pub columns-long : length columns' ≡ length columns
  pub values-long : length values' ≡ length values
  pub most : r.end ≤ d.end + 4
  pub held : (before : List ℕ) (given : List Float) (size : ℕ) → d.end + 4 ≤ size → length before ≡ d.end → length given ≡ d.end → columns ≡ padded 0 size before → values ≡ padded nought size given
      → Held before given (row_from n d.seed k).row size d.end r.end columns' values'

-- ---- the rows

-- what the rows are drawn into: starts, and stores of four slots a row, still zero
pub record RowsLent (n seed : ℕ) (starts columns : List ℕ) (values : List Float) : Type 0 where
  pub few : n ≤ max_rows
  pub seed-small : seed < 65536
  pub starts-long : length starts ≡ n + 1
  pub columns-are : columns ≡ padded 0 (4 * n) []
  pub values-are : values ≡ padded nought (4 * n) []

-- the rows before own row k are drawn
pub record RowsDrawing (n seed k : ℕ) (d : Drawn) (starts columns : List ℕ) (values : List Float) : Type 0 where
  pub within : k ≤ n
  pub seed-is : d.seed ≡ seed_at n seed k
  pub seed-small : d.seed < 65536
  pub end_is : d.end ≡ entries_at n seed k
  pub most : d.end ≤ 4 * k
  pub starts-long : length starts ≡ n + 1
  pub starts-are : take (k + 1) starts ≡ table (entries_at n seed) (k + 1)
  pub columns-are : columns ≡ padded 0 (4 * n) (joined (row_at n seed) k)
  pub values-are : values ≡ padded nought (4 * n) (joined (λ i. values_for (row_at n seed i)) k)

-- all are
pub record RowsDrawn (n seed end : ℕ) (starts columns : List ℕ) (values : List Float) : Type 0 where
  pub end_is : end ≡ entries_at n seed n
  pub starts-are : starts ≡ (load n seed).starts
  pub columns-are : columns ≡ padded 0 (4 * n) (load n seed).columns
  pub values-are : values ≡ padded nought (4 * n) (load n seed).values
