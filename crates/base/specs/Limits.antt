-- "n from 1 to 4,096, e to 65,536, each store to 1,048,576 slots". Definitions only; `Matrix::limits` ties the constants of the matrix type to them.
use Rattle.std.specs.Prelude.{ℕ, ◌*◌, Bool, ◌&&◌, leb}

abbrev pub max_rows : ℕ
max_rows = 4096

abbrev pub max_entries : ℕ
max_entries = 65536

abbrev pub max_slots : ℕ
max_slots = 1048576

-- no count of products is above it
abbrev pub max_products : ℕ
max_products = max_rows * (max_rows * max_rows)

-- question 1
abbrev pub rows_within : ℕ → Bool
rows_within n = leb 1 n && leb n max_rows
