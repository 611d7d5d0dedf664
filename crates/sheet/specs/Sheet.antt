-- The fill sheet, byte by byte. Definitions only.
use Rattle.std.specs.Prelude.{ℕ, ◌+◌, ◌*◌, ◌/◌, ◌<◌, ◌≡◌, false, cond, List, [], ◌∷◌, ◌++◌, length, replicate, ltb}
use Rattle.base.specs.Lists.{has, joined}
use Rattle.printing.specs.Print.{column}

-- ---- the lines: "40 characters a line", "A line end is one newline byte beyond the 40"

-- "place k (width 6), own row (8), length of lower row k (8), of T(k) (8), shared upper run start (10)"
unfoldable pub place_line : ℕ → ℕ → ℕ → ℕ → ℕ → List ℕ
place_line k own lower upper run = column 6 k ++ column 8 own ++ column 8 lower ++ column 8 upper ++ column 10 run ++ (10 ∷ [])

-- "Line 1 of a page holds `FILL` in columns 1 to 4 and the page number, from 1, in the last 6"
unfoldable pub head_line : ℕ → List ℕ
head_line p = (70 ∷ 73 ∷ 76 ∷ 76 ∷ []) ++ replicate 30 32 ++ column 6 (p + 1) ++ (10 ∷ [])

unfoldable pub blank_line : List ℕ
blank_line = replicate 40 32 ++ (10 ∷ [])

-- ---- the pages

-- "the other lines take k = 0, 1, ....", "The last page is filled with blank lines"
unfoldable pub line_or : ℕ → (ℕ → List ℕ) → ℕ → List ℕ
line_or n line k = cond (ltb k n) (line k) blank_line

-- "50 lines": the first, and 49 places
unfoldable pub page : ℕ → (ℕ → List ℕ) → ℕ → List ℕ
page n line p = head_line p ++ joined (λ j. line_or n line (49 * p + j)) 49

abbrev pub pages_for : ℕ → ℕ
pages_for n = (n + 48) / 49

unfoldable pub sheet : ℕ → (ℕ → List ℕ) → List ℕ
sheet n line = joined (page n line) (pages_for n)

-- "The buffer has 2,050 bytes a page"
abbrev pub sheet_bytes : ℕ → ℕ
sheet_bytes n = 2050 * pages_for n

-- ---- "Every line has its exact width"

-- 40 characters, none of them a line end, and then the line end
pub record Line (l : List ℕ) : Type 0 where
  pub text : List ℕ
  pub is : l ≡ text ++ (10 ∷ [])
  pub wide : length text ≡ 40
  pub plain : has text 10 ≡ false

-- so many lines, one after another
pub record Lines (m : ℕ) (s : List ℕ) : Type 0 where
  pub line : ℕ → List ℕ
  pub are : s ≡ joined line m
  pub exact : (q : ℕ) → q < m → Line (line q)
