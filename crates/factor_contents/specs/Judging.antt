-- What the questions before 5 have settled of a file, or of lent lists, for those that judge the contents. Definitions only.
use Rattle.std.specs.Prelude.{◌≡◌, List, [], ℕ, ◌+◌, ◌*◌, ◌≤◌, length}
use Rattle.base.specs.Limits.{max_rows, max_slots}
use Rattle.outcome.specs.Buffers.{SideBuffers, side_buffers, Buffers}
use Rattle.factors.specs.Presented.{presented}
use Rattle.fields.specs.Payload.{room, fields_at, floats_at}
use Rattle.factor_contents.specs.FactorFile.{FactorLists, lower_of, upper_of, size_of}

-- a side whose starts, indices and values begin at these payload bytes
abbrev pub side_at : List ℕ → ℕ → ℕ → ℕ → ℕ → ℕ → SideBuffers
side_at file n s i v entries = side_buffers (fields_at 4 file s (n + 1)) [] (fields_at 2 file i entries) (floats_at file v entries)

pub record SideStands (file : List ℕ) (n s i v entries : ℕ) : Type 0 where
  pub few : n ≤ max_rows
  pub starts-in : s + 4 * (n + 1) ≤ room file
  pub index_in : i + 2 * entries ≤ room file
  pub values-in : v + 8 * entries ≤ room file

-- all parts lie within the file, and the entries fit a store
pub record Stands (file : List ℕ) (n lower upper : ℕ) : Type 0 where
  pub few : n ≤ max_rows
  pub some : 1 ≤ n
  pub lower-few : lower ≤ max_slots
  pub upper-few : upper ≤ max_slots
  pub inside : size_of n lower upper ≤ room file

-- the slots of a store for so many entries: enough, or just as many
abbrev pub Enough : ℕ → ℕ → Type 0
Enough entries slots = entries ≤ slots

abbrev pub Whole : ℕ → ℕ → Type 0
Whole entries slots = slots ≡ entries

-- lists of n places, and stores for so many entries
pub record Lent (Slots : ℕ → ℕ → Type 0) (n lower upper : ℕ) (l : FactorLists) : Type 0 where
  pub r-size : length l.r ≡ n
  pub c-size : length l.c ≡ n
  pub d-size : length l.d ≡ n
  pub lower-starts-size : length l.lower-starts ≡ n + 1
  pub lower-index-size : Slots lower (length l.lower-index)
  pub lower-values-size : Slots lower (length l.lower-values)
  pub upper-starts-size : length l.upper-starts ≡ n + 1
  pub upper-index-size : Slots upper (length l.upper-index)
  pub upper-values-size : Slots upper (length l.upper-values)

-- lent lists without unused slots: the lengths of the index stores are the entries
pub record ListsLent (n lower upper : ℕ) (ls us : List ℕ) (d : ℕ) : Type 0 where
  pub few : n ≤ max_rows
  pub some : 1 ≤ n
  pub lower-few : lower ≤ max_slots
  pub upper-few : upper ≤ max_slots
  pub lower-starts : length ls ≡ n + 1
  pub upper-starts : length us ≡ n + 1
  pub reciprocals : d ≡ n

-- what 15 looks at
abbrev pub presented_lists : FactorLists → Buffers
presented_lists l = presented (lower_of l) (upper_of l) l.d
