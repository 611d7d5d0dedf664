-- "For rows (2, 4), (1, 4), b = (10, 9), orders 0, 1": the matrix, and the bytes of its file.
use Rattle.std.specs.Prelude.{false, List, [], ◌∷◌, ◌++◌, ℕ, replicate, pos}
use Rattle.std.specs.Float.{fin}
use Rattle.matrix.specs.Input.{Input, input_of}

abbrev pub example_matrix : Input
example_matrix =
    input_of 2 (0 ∷ 2 ∷ 4 ∷ []) (0 ∷ 1 ∷ 0 ∷ 1 ∷ [])
    (fin false 1 (pos 1) ∷ fin false 1 (pos 2) ∷ fin false 1 (pos 0) ∷ fin false 1 (pos 2) ∷ [])
    (0 ∷ 1 ∷ []) (0 ∷ 1 ∷ [])
    (fin false 5 (pos 1) ∷ fin false 9 (pos 0) ∷ [])

-- n and e, starts, columns, values, r, c and b; zeros; the block's number, check A and check B
unfoldable pub example_file : List ℕ
example_file =
    2 ∷ 0 ∷ 0 ∷ 0 ∷ 4 ∷ 0 ∷ 0 ∷ 0 ∷
    0 ∷ 0 ∷ 0 ∷ 0 ∷ 2 ∷ 0 ∷ 0 ∷ 0 ∷ 4 ∷ 0 ∷ 0 ∷ 0 ∷
    0 ∷ 0 ∷ 1 ∷ 0 ∷ 0 ∷ 0 ∷ 1 ∷ 0 ∷
    0 ∷ 0 ∷ 0 ∷ 0 ∷ 0 ∷ 0 ∷ 0 ∷ 64 ∷
    0 ∷ 0 ∷ 0 ∷ 0 ∷ 0 ∷ 0 ∷ 16 ∷ 64 ∷
    0 ∷ 0 ∷ 0 ∷ 0 ∷ 0 ∷ 0 ∷ 240 ∷ 63 ∷
    0 ∷ 0 ∷ 0 ∷ 0 ∷ 0 ∷ 0 ∷ 16 ∷ 64 ∷
    0 ∷ 0 ∷ 1 ∷ 0 ∷
    0 ∷ 0 ∷ 1 ∷ 0 ∷
    0 ∷ 0 ∷ 0 ∷ 0 ∷ 0 ∷ 0 ∷ 36 ∷ 64 ∷ 0 ∷ 0 ∷ 0 ∷ 0 ∷ 0 ∷ 0 ∷ 34 ∷ 64 ∷
    (replicate 420 0 ++
    (0 ∷ 0 ∷ 0 ∷ 0 ∷ 229 ∷ 2 ∷ 230 ∷ 28 ∷ []))
