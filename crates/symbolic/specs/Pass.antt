-- The structure pass of the three forms: before each place, and at its end. Definitions only.
use Rattle.base.specs.Answers.{Pass, Asked, Answer}
use Rattle.std.specs.Prelude.{◌≡◌, List, ℕ, ◌+◌, ◌*◌, ◌<◌, ◌≤◌, length, Result, Ok, Err}
use Rattle.base.specs.Lists.{sum}
use Rattle.base.specs.declared.Form.{Form}
use Rattle.base.specs.declared.Form.TheVariants.{Plain, Shared, ByRow}
use Rattle.base.specs.declared.Side.{Side}
use Rattle.base.specs.declared.Side.TheVariants.{Lower, Upper}
use Rattle.base.specs.declared.Counts.{Counts}
use Rattle.fill.specs.Fill.{lower_row, flip}
use Rattle.base.specs.Limits.{max_rows, max_entries}
use Rattle.matrix.specs.declared.System.{System}
use Rattle.matrix.specs.Input.{Input, pattern_by, stored}
use Rattle.marks.specs.Marks.{Fresh}
use Rattle.marks.specs.Rows.{row_steps}
use Rattle.columns.specs.Columns.{Ready}
use Rattle.questions.specs.Lent.{Inverse}
use Rattle.columns.specs.Sides.{rows_in}
use Rattle.questions.specs.Settled.{Structured}
use Rattle.base.specs.declared.SideSizes.{SideSizes}
use Rattle.base.specs.declared.Sizes.{Sizes}
use Rattle.outcome.specs.Structure.{ask_places, counts}
use Rattle.outcome.specs.Placed.{WrittenSide}
use Rattle.storing.specs.Held.{Holding}
use Rattle.storing.specs.declared.Extent.{Extent}
use Rattle.storing.specs.declared.Way.{Way}
use Rattle.storing.specs.declared.Way.TheVariants.{OneAfterAnother, Sharing}
use Rattle.symbolic.specs.Places.{Begun, Stores, ListsAt}
use Rattle.symbolic.specs.declared.Progress.{Progress}
use Rattle.base.specs.declared.Refusal.{Refusal}
use Rattle.base.specs.Scratch.{upper_cuts, lower_cuts}

-- ---- what the pass answers and leaves

-- of the lengths of buffers, questions 9 to 11 look at those of the index and value stores
abbrev pub slot_sizes : ℕ → ℕ → SideSizes
slot_sizes index values = record { starts = 0; runs = 0; index = index; values = values }

abbrev pub slots_of : ℕ → ℕ → ℕ → ℕ → Sizes
slots_of li lv ui uv = record { lower = slot_sizes li lv; upper = slot_sizes ui uv; d = 0; x = 0; work = 0; marks = 0 }

-- the counts, or the refusal
abbrev pub found_answer : Asked → Counts → Answer
found_answer (Ok _) c = Ok c
found_answer (Err q) c = Err q

-- where 9 to 11 are passed at every place, a side's lists stand in its stores, and zeros after them
abbrev pub SidePlaced : Form → Side → Input → Sizes → List ℕ → List ℕ → List ℕ → ℕ → Type 0
SidePlaced f side i z starts runs index values = ask_places f (stored i) i.n z i.n ≡ Pass → WrittenSide f side (stored i) i.n starts runs index values

-- the answer of a form's pass, its upper side, and the inverse column order that it leaves in scratch s
pub record Analyzed (f : Form) (i : Input) (z : Sizes) (us ur ui : List ℕ) (uv : ℕ) (s : List ℕ) (a : Answer) : Type 0 where
  pub answer : a ≡ found_answer (ask_places f (stored i) i.n z i.n) (counts i)
  pub upper : SidePlaced f Upper i z us ur ui uv
  pub inverse : ask_places f (stored i) i.n z i.n ≡ Pass → Inverse i s

-- and its lower side, which the row form has not
pub record AnalyzedBoth (f : Form) (i : Input) (z : Sizes) (ls lr li : List ℕ) (lv : ℕ) (us ur ui : List ℕ) (uv : ℕ) (s : List ℕ) (a : Answer) : Type 0 where
  pub found : Analyzed f i z us ur ui uv s a
  pub lower : SidePlaced f Lower i z ls lr li lv

-- ---- before place k

-- how a form places its lists
abbrev pub placing_of : Form → Way
placing_of Plain = OneAfterAnother
placing_of Shared = Sharing
placing_of ByRow = Sharing

-- the first stamp of place k: the shared form has two, one for each side
abbrev pub stamp_at : Form → ℕ → ℕ
stamp_at Plain k = k + 1
stamp_at Shared k = k + k + 1
stamp_at ByRow k = k + 1

-- the lower side: rows one after another, columns with their cuts and the columns of M' still to come, or the count of its entries
abbrev pub LowerAt : Form → Input → List ℕ → ℕ → ℕ → List ℕ → List ℕ → List ℕ → List ℕ → Extent → ℕ → Type 0
LowerAt Plain i store values k starts runs index s e window =
    Holding OneAfterAnother (lower_row (stored i)) (lower_row (flip (stored i))) values k store starts starts index e
    × Stores OneAfterAnother i.n store values starts starts
LowerAt Shared i store values k starts runs index s e window =
    ListsAt Sharing (flip (stored i)) i.n k (lower_cuts i.n) store values starts runs index s e × Ready i.n k window (rows_in i s) s
LowerAt ByRow i store values k starts runs index s e window = e.entries ≡ sum k (λ j. length (lower_row (stored i) j))

-- low and up are the index stores as they stood before the first place
pub record At (f : Form) (i : Input) (low : List ℕ) (lv : ℕ) (up : List ℕ) (uv k : ℕ) (ls lr li us ur ui s : List ℕ) (g : Progress) : Type 0 where
  pub passed : ask_places f (stored i) i.n (slots_of (length low) lv (length up) uv) k ≡ Pass
  pub most : k ≤ i.n
  pub begun : Begun i s
  pub fresh : Fresh i.n (stamp_at f k) s
  pub lower : LowerAt f i low lv k ls lr li s g.lower g.window
  pub upper : ListsAt (placing_of f) (stored i) i.n k (upper_cuts i.n) up uv us ur ui s g.upper
  pub products-are : g.products ≡ sum k (row_steps (stored i) i.n)

-- before any place
abbrev pub nothing : Extent
nothing = record { used = 0; last = 0; entries = 0 }

abbrev pub no_progress : Progress
no_progress = record { lower = nothing; upper = nothing; products = 0; window = 0 }

-- scratch of the shared form
pub record ColumnsBegun (i : Input) (s : List ℕ) : Type 0 where
  pub begun : Begun i s
  pub fresh : Fresh i.n 1 s
  pub ready : Ready i.n 0 0 (rows_in i s) s

-- the counts that the pass has added up
abbrev pub counts_at : Progress → Counts
counts_at g = record { lower = g.lower.entries; upper = g.upper.entries; products = g.products }

-- place k is due, for some column order and some stores: these are not lent
pub record Due (f : Form) (i : System) (lv uv k : ℕ) (ls lr li us ur ui s : List ℕ) (g : Progress) : Type 0 where
  pub order : List ℕ
  pub low : List ℕ
  pub up : List ℕ
  pub place : k < i.n
  pub at : At f (pattern_by i order) low lv up uv k ls lr li us ur ui s g

-- after place k: the next is due, or the pass ends with a refusal
abbrev pub TurnEnds : Form → Input → List ℕ → ℕ → List ℕ → ℕ → ℕ → List ℕ → List ℕ → List ℕ → List ℕ → List ℕ → List ℕ → List ℕ → Result Progress Refusal → Type 0
TurnEnds f i low lv up uv k ls lr li us ur ui s (Ok g) = At f i low lv up uv (k + 1) ls lr li us ur ui s g
TurnEnds f i low lv up uv k ls lr li us ur ui s (Err q) = ask_places f (stored i) i.n (slots_of (length low) lv (length up) uv) i.n ≡ Err q

-- ---- what the pass asks for

pub record MatrixLent (i : Input) (marks : ℕ) : Type 0 where
  pub some : 1 ≤ i.n
  pub few : i.n ≤ max_rows
  pub structured : Structured i
  pub starts-size : length i.starts ≡ i.n + 1
  pub entries : length i.columns ≤ max_entries
  pub rows-size : length i.r ≡ i.n
  pub columns-size : length i.c ≡ i.n
  pub scratch : marks ≡ 8 * i.n + 8

-- the plain form's
pub record PlainLent (i : Input) (ls li : List ℕ) (lv : ℕ) (us ui : List ℕ) (uv marks : ℕ) : Type 0 where
  pub matrix : MatrixLent i marks
  pub lower : Stores OneAfterAnother i.n li lv ls ls
  pub upper : Stores OneAfterAnother i.n ui uv us us

-- the row form's
pub record RowLent (i : Input) (us ur ui : List ℕ) (uv marks : ℕ) : Type 0 where
  pub matrix : MatrixLent i marks
  pub upper : Stores Sharing i.n ui uv us ur

-- the shared form's
pub record SharedLent (i : Input) (ls lr li : List ℕ) (lv : ℕ) (us ur ui : List ℕ) (uv marks : ℕ) : Type 0 where
  pub matrix : MatrixLent i marks
  pub lower : Stores Sharing i.n li lv ls lr
  pub upper : Stores Sharing i.n ui uv us ur
