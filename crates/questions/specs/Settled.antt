-- What a matrix that passes questions 3 to 7 is known to be: every later pass starts from these records. Definitions only.
use Rattle.std.specs.Prelude.{◌≡◌, true, List, map, ℕ, ◌+◌, ◌<◌, length, get_or, Float}
use Rattle.std.specs.Float.{nan}
use Rattle.std.specs.Float.Ieee.Scale.{finite}
use Rattle.base.specs.Lists.{row_of}
use Rattle.lent.specs.Reading.{ListIn, Below}
use Rattle.matrix.specs.Input.{Input, ic}
use Rattle.matrix.specs.Questions.{IsOrder}

unfoldable pub Finite : List Float → Type 0
Finite v = (p : ℕ) → p < length v → finite (get_or v p nan) ≡ true

-- the columns of the row at place k, and their places: row k of M' in stored order
abbrev pub columns_at : Input → ℕ → List ℕ
columns_at i k = row_of i.starts i.columns (get_or i.r k 0)

abbrev pub places_at : Input → ℕ → List ℕ
places_at i k = map (ic i.c i.n) (columns_at i k)

-- 3, 4, 5: of starts that are as long as stated, 3 tells that each own row can be read
pub record Readable (i : Input) : Type 0 where
  pub rows : length i.starts ≡ i.n + 1 → (k : ℕ) → k < i.n → ListIn i.starts i.starts (length i.columns) k
  pub columns : Below i.n i.columns
  pub row-order : IsOrder i.r i.n
  pub column-order : IsOrder i.c i.n

-- 3, 4, 5, 7
pub record Structured (i : Input) : Type 0 where
  pub readable : Readable i
  pub entered : (k : ℕ) → k < i.n → get_or i.starts (get_or i.r k 0) 0 < get_or i.starts (get_or i.r k 0 + 1) 0

-- 3 to 7
pub record Settled (i : Input) : Type 0 where
  pub structured : Structured i
  pub values : Finite i.values
  pub right : Finite i.b
