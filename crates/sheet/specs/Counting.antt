-- The lengths of the lower rows, counted along the lower columns. Definitions only.
use Rattle.std.specs.Prelude.{ℕ, ◌+◌, ◌<◌, ◌≤◌, ◌≡◌, List, length, get_or}
use Rattle.base.specs.Lists.{bit, count, has, list_at}
use Rattle.base.specs.Limits.{max_rows}
use Rattle.lent.specs.Reading.{ListIn, Below, Distinct}

-- a list that is counted: no number twice, each with a slot that is not full
pub record Counting (list counts : List ℕ) : Type 0 where
  pub below : Below (length counts) list
  pub distinct : Distinct list
  pub few : (p : ℕ) → p < length list → get_or counts (get_or list p 0) 0 < 4294967295

-- each number of the list is counted once more
pub record Counted (list : List ℕ) (counts₀ counts : List ℕ) : Type 0 where
  pub size : length counts ≡ length counts₀
  pub more : (i : ℕ) → i < length counts₀ → get_or counts i 0 ≡ get_or counts₀ i 0 + bit (has list i)

-- the columns that are counted: n lists that can be read, ascending, of numbers below n
pub record Countable (n : ℕ) (starts runs index counts : List ℕ) : Type 0 where
  pub few : n ≤ max_rows
  pub room : n ≤ length counts
  pub lists : (j : ℕ) → j < n → ListIn starts runs (length index) j
  pub below : (j : ℕ) → j < n → Below n (list_at starts runs index j)
  pub distinct : (j : ℕ) → j < n → Distinct (list_at starts runs index j)
  pub zero : (i : ℕ) → i < n → get_or counts i 0 ≡ 0

-- slot i says in how many of them i stands
pub record RowsCounted (n : ℕ) (starts runs index counts₀ counts : List ℕ) : Type 0 where
  pub size : length counts ≡ length counts₀
  pub rows : (i : ℕ) → i < n → get_or counts i 0 ≡ count (λ j. has (list_at starts runs index j) i) n
