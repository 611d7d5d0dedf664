-- The factors of rows (2, 4), (1, 4) with orders 0, 1, and the bytes of their file.
use Rattle.std.specs.Prelude.{false, List, [], ◌∷◌, ◌++◌, ℕ, replicate, pos, negsuc}
use Rattle.std.specs.Float.{fin, nan}
use Rattle.base.specs.declared.Counts.{Counts}
use Rattle.factor_contents.specs.FactorFile.{FactorLists, factor_lists}

-- L(1, 0) = 1, d = (1/2, 1/2), u(0, 1) = 2
abbrev pub example_factors : FactorLists
example_factors =
    factor_lists (0 ∷ 1 ∷ []) (0 ∷ 1 ∷ [])
    (0 ∷ 0 ∷ 1 ∷ []) (0 ∷ []) (fin false 1 (pos 0) ∷ [])
    (0 ∷ 1 ∷ 1 ∷ []) (1 ∷ []) (fin false 1 (pos 1) ∷ [])
    (fin false 1 (negsuc 0) ∷ fin false 1 (negsuc 0) ∷ [])

-- the same, with slots to spare
abbrev pub longer_factors : FactorLists
longer_factors =
    factor_lists (0 ∷ 1 ∷ []) (0 ∷ 1 ∷ [])
    (0 ∷ 0 ∷ 1 ∷ []) (0 ∷ 7 ∷ 7 ∷ []) (fin false 1 (pos 0) ∷ nan ∷ [])
    (0 ∷ 1 ∷ 1 ∷ []) (1 ∷ 7 ∷ []) (fin false 1 (pos 1) ∷ nan ∷ nan ∷ [])
    (fin false 1 (negsuc 0) ∷ fin false 1 (negsuc 0) ∷ [])

abbrev pub example_counts : Counts
example_counts = record { lower = 1; upper = 1; products = 1 }

-- n, lower, upper and products; starts, indices, L, d, u, r and c; zeros; the block's number, check A and check B
unfoldable pub example_file : List ℕ
example_file =
    2 ∷ 0 ∷ 0 ∷ 0 ∷ 1 ∷ 0 ∷ 0 ∷ 0 ∷ 1 ∷ 0 ∷ 0 ∷ 0 ∷ 1 ∷ 0 ∷ 0 ∷ 0 ∷ 0 ∷ 0 ∷ 0 ∷ 0 ∷
    0 ∷ 0 ∷ 0 ∷ 0 ∷ 0 ∷ 0 ∷ 0 ∷ 0 ∷ 1 ∷ 0 ∷ 0 ∷ 0 ∷
    0 ∷ 0 ∷ 0 ∷ 0 ∷ 1 ∷ 0 ∷ 0 ∷ 0 ∷ 1 ∷ 0 ∷ 0 ∷ 0 ∷
    0 ∷ 0 ∷
    1 ∷ 0 ∷
    0 ∷ 0 ∷ 0 ∷ 0 ∷ 0 ∷ 0 ∷ 240 ∷ 63 ∷
    0 ∷ 0 ∷ 0 ∷ 0 ∷ 0 ∷ 0 ∷ 224 ∷ 63 ∷ 0 ∷ 0 ∷ 0 ∷ 0 ∷ 0 ∷ 0 ∷ 224 ∷ 63 ∷
    0 ∷ 0 ∷ 0 ∷ 0 ∷ 0 ∷ 0 ∷ 0 ∷ 64 ∷
    0 ∷ 0 ∷ 1 ∷ 0 ∷
    0 ∷ 0 ∷ 1 ∷ 0 ∷
    (replicate 416 0 ++
    (0 ∷ 0 ∷ 0 ∷ 0 ∷ 184 ∷ 3 ∷ 193 ∷ 119 ∷ []))
