-- The test load: from n and a 16-bit seed s the same matrix on every machine. Definitions only.
use Rattle.std.specs.Prelude.{ℕ, zero, suc, ◌+◌, ◌*◌, ◌/◌, ◌%◌, true, false, cond, List, [], ◌∷◌, ◌++◌, map, length, Float, pos, Ok, Err}
use Rattle.std.specs.Float.{fin}
use Rattle.base.specs.Lists.{has, sum, table, joined, nought, padded}
use Rattle.base.specs.Limits.{rows_within}
use Rattle.base.specs.Answers.{holds, and_then, Left, or_untouched, Made, Asked}
use Rattle.base.specs.declared.Refusal.TheVariants.{Rows, Lengths}
use Rattle.matrix.specs.Input.{Input, input_of}
use Rattle.matrix.specs.Lists.{MatrixLists, matrix_lists, lists_right}

-- "a draw sets s to (s times 25,173 + 13,849) modulo 65,536"
unfoldable pub drawn : ℕ → ℕ
drawn s = (s * 25173 + 13849) % 65536

-- "and its column is (s div 16) modulo n"
unfoldable pub column_of : ℕ → ℕ → ℕ
column_of n s = s / 16 % n

-- a row as far as it is drawn, and s
pub record Drawing : Type 0 where
  pub row : List ℕ
  pub seed : ℕ

-- "a column already in the row is skipped"
unfoldable pub added : List ℕ → ℕ → List ℕ
added row j = cond (has row j) row (row ++ (j ∷ []))

-- one draw
abbrev pub draw : ℕ → Drawing → Drawing
draw n d = record { row = added d.row (column_of n (drawn d.seed)); seed = drawn d.seed }

-- "entry (k, k) .., then three draws"
abbrev pub row_from : ℕ → ℕ → ℕ → Drawing
row_from n s k = draw n (draw n (draw n (record { row = k ∷ []; seed = s })))

-- s before own row k, "in turn"
unfoldable pub seed_at : ℕ → ℕ → ℕ → ℕ
seed_at n s zero = s
seed_at n s (suc k) = (row_from n (seed_at n s k) k).seed

-- the columns of own row k, "as drawn"
unfoldable pub row_at : ℕ → ℕ → ℕ → List ℕ
row_at n s k = (row_from n (seed_at n s k) k).row

-- the entries of the rows before own row k
unfoldable pub entries_at : ℕ → ℕ → ℕ → ℕ
entries_at n s k = sum k (λ i. length (row_at n s i))

abbrev pub four : Float
four = fin false 1 (pos 2)

abbrev pub minus_one : Float
minus_one = fin true 1 (pos 0)

abbrev pub one : Float
one = fin false 1 (pos 0)

-- "(k, k) = 4.0 .. others get −1.0"
unfoldable pub values_for : List ℕ → List Float
values_for [] = []
values_for (k ∷ others) = four ∷ map (λ j. minus_one) others

-- the load: "b is all 1.0, orders 0, 1, ..."
unfoldable pub load : ℕ → ℕ → Input
load n s =
    input_of n (table (entries_at n s) (n + 1)) (joined (row_at n s) n) (joined (λ k. values_for (row_at n s k)) n) (table (λ k. k) n) (table (λ k. k) n) (table (λ k. one) n)

-- ---- the call

-- "An n outside document 01's range gets 1 .. a buffer of wrong length gets 2"; "Columns and values have 4n slots", the others as many as the matrix needs
unfoldable pub ask_load : ℕ → MatrixLists → Asked
ask_load n l = and_then (holds (rows_within n) Rows) (holds (lists_right n (4 * n) l) Lengths)

-- the buffers that hold a load: "unused slots end zero"
abbrev pub held_by : Input → MatrixLists
held_by i = matrix_lists i.starts (padded 0 (4 * i.n) i.columns) (padded nought (4 * i.n) i.values) i.r i.c i.b

-- the outcome of `test_load`: "the entry count is returned", "a refusal writes nothing"
unfoldable pub load_outcome : ℕ → ℕ → MatrixLists → Left Made MatrixLists
load_outcome n s l = or_untouched Err (ask_load n l) (Ok (entries_at n s n)) (held_by (load n s)) l
