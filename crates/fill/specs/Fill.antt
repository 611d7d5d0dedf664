-- The fill of a sparse pattern, its lists and its counts. `stored i j` says that row i has an entry in column j. Definitions only.
use Rattle.std.specs.Prelude.{◌≡◌, Bool, true, ◌&&◌, ◌||◌, List, ℕ, zero, suc, ◌*◌, ◌<◌, min, length, ltb}
use Rattle.base.specs.Lists.{sum, asc}

abbrev pub Pattern : Type 0
Pattern = ℕ → ℕ → Bool

-- A walk of one or more stored entries from i to j, every place strictly between below m.
pub data Walk (stored : Pattern) (m : ℕ) : ℕ → ℕ → Type 0 where
  one : {i j : ℕ} → stored i j ≡ true → Walk stored m i j
  more : {i k j : ℕ} → stored i k ≡ true → k < m → Walk stored m k j → Walk stored m i j

-- Is there such a walk? The largest place between, m, is passed once or not at all.
unfoldable pub reach : Pattern → ℕ → Pattern
reach stored zero i j = stored i j
reach stored (suc m) i j = reach stored m i j || (reach stored m i m && reach stored m m j)

-- "Position (i, j) is filled": `filled-walk` says that this is a walk with every place strictly between smaller than i and j.
unfoldable pub filled : Pattern → Pattern
filled stored i j = reach stored (min i j) i j

-- (k, j) is filled and right of the diagonal
unfoldable pub upper : Pattern → ℕ → ℕ → Bool
upper stored k j = ltb k j && filled stored k j

-- T(k): "the ascending list of filled j > k in row k"
unfoldable pub upper_row : Pattern → ℕ → ℕ → List ℕ
upper_row stored n k = asc (upper stored k) n

-- "Lower row k is the ascending list of filled i < k"
unfoldable pub lower_row : Pattern → ℕ → List ℕ
lower_row stored k = asc (filled stored k) k

-- "filled rows below k in column k", ascending
unfoldable pub lower_column : Pattern → ℕ → ℕ → List ℕ
lower_column stored n k = asc (λ i. ltb k i && filled stored i k) n

-- "products, the sum over k of (filled rows below k in column k) times (length of T(k))"
unfoldable pub products : Pattern → ℕ → ℕ
products stored n = sum n (λ k. length (lower_column stored n k) * length (upper_row stored n k))

-- "rows and columns exchanged"
abbrev pub flip : Pattern → Pattern
flip stored i j = stored j i
