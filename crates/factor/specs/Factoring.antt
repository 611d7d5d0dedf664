-- The factors and z that a solve leaves, in each form, and what stands in the stores between two rows of the arithmetic. Definitions only.
use Rattle.std.specs.Prelude.{◌≡◌, List, [], ℕ, ◌+◌, ◌*◌, ◌<◌, ◌≤◌, length, get_or, take, drop, replicate, Bool, true, false, Ok, Err, ⊤, Float}
use Rattle.std.proofs.lemmas.List.Edits.{sets}
use Rattle.std.specs.Float.{nan}
use Rattle.std.specs.Float.Ieee.Scale.{finite}
use Rattle.base.specs.Lists.{nought, padded, table, has, row_of}
use Rattle.base.specs.declared.Form.{Form}
use Rattle.base.specs.declared.Form.TheVariants.{Plain, Shared, ByRow}
use Rattle.base.specs.declared.Side.TheVariants.{Lower, Upper}
use Rattle.fill.specs.Fill.{Pattern, lower_row}
use Rattle.matrix.specs.Input.{Input, stored}
use Rattle.arithmetic.specs.Arith.{Out, ok, met, zero_pivot, overflow, System, Row, none, Result}
use Rattle.outcome.specs.Forms.{value_need}
use Rattle.outcome.specs.Placed.{PlacedSide}
use Rattle.outcome.specs.Solve.{system, listed, values_kept, pivots_kept}
use Rattle.questions.specs.Lent.{SolveLent, Inverse}
use Rattle.questions.specs.Settled.{Settled}
use Rattle.marks.specs.Marks as marking
use Rattle.marks.specs.Rows as found
use Rattle.lent.specs.Reading.{ListIn, Below, But, placed, order_of}
use Rattle.numeric.specs.Stores.{Ascending, StoreShape, gathered, columns, keep_columns}
use Rattle.numeric.specs.Rows.{RowsHeld, Stacked, l_of, column_of, InColumns}
use Rattle.std.specs.Prelude as prelude
use Rattle.factor.specs.declared.Fault.{Fault}
use Rattle.factor.specs.declared.Lists as declared
use Rattle.factor.specs.declared.Fault.TheVariants.{Zero, Overflow}
use Rattle.base.specs.Scratch.{inverse_from, upper_cuts, cursors_from, list_from, regions_end}
use Rattle.base.specs.Limits.{max_rows}
use Rattle.base.specs.declared.Refusal.{Refusal}
use Rattle.base.specs.declared.Refusal.TheVariants as refusals
use Rattle.base.specs.declared.Refusal.TheVariants.{ZeroPivot}

-- ---- the answer

-- the results of the listed operations as the stores hold them, with +0 in the unused slots
pub record Factors (f : Form) (i : Input) (a : Result) (lower upper d z : List Float) : Type 0 where
  pub lower-values : lower ≡ padded nought (length lower) (values_kept f Lower (stored i) i.n a.rows)
  pub upper-values : upper ≡ padded nought (length upper) (values_kept f Upper (stored i) i.n a.rows)
  pub reciprocals : d ≡ pivots_kept i.n a.rows
  pub solution : z ≡ a.z

-- "of 12 and 13, whichever the arithmetic meets first", or neither
unfoldable pub FactoredAs : Form → Input → prelude.Result ⊤ Fault → List Float → List Float → List Float → List Float → Type 0
FactoredAs f i (Ok t) lower upper d z = (a : Result) × (listed i ≡ ok a) × Factors f i a lower upper d z
FactoredAs f i (Err (Zero k)) lower upper d z = listed i ≡ met (zero_pivot k.0)
FactoredAs f i (Err (Overflow k)) lower upper d z = listed i ≡ met (overflow k.0)

-- as a refusal
abbrev pub refused_by : Fault → Refusal
refused_by (Zero k) = ZeroPivot k
refused_by (Overflow k) = refusals.Overflow k

-- ---- what is lent

-- the lists that the arithmetic reads; a form that does not read one has [] for it
pub record PlacedLists : Type 0 where
  pub lower-starts : List ℕ
  pub lower-index : List ℕ
  pub upper-starts : List ℕ
  pub upper-runs : List ℕ
  pub upper-index : List ℕ

abbrev pub lists : List ℕ → List ℕ → List ℕ → List ℕ → List ℕ → PlacedLists
lists ls li us ur ui = record { lower-starts = ls; lower-index = li; upper-starts = us; upper-runs = ur; upper-index = ui }

-- the same of a call's struct
abbrev pub lent_lists : declared.Lists → PlacedLists
lent_lists l = lists l.lower_starts.now l.lower_index.now l.upper_starts.now l.upper_runs.now l.upper_index.now

-- and what it writes
pub record Workspace : Type 0 where
  pub lower : List Float
  pub upper : List Float
  pub d : List Float
  pub work : List Float
  pub marks : List ℕ

abbrev pub written : List Float → List Float → List Float → List Float → List ℕ → Workspace
written l u d w m = record { lower = l; upper = u; d = d; work = w; marks = m }

-- the lower side: all of it in the plain form, its list starts and the room for its values in the shared form
pub record Starts (f : Form) (P : Pattern) (n : ℕ) (starts : List ℕ) (values : ℕ) : Type 0 where
  pub starts-are : starts ≡ table (value_need f Lower P n) (n + 1)
  pub values-in : value_need f Lower P n n ≤ values

abbrev pub LowerPlaced : Form → Pattern → ℕ → PlacedLists → List Float → Type 0
LowerPlaced Plain P n L l = PlacedSide Plain Lower P n L.lower-starts L.lower-starts L.lower-index (length l)
LowerPlaced Shared P n L l = Starts Shared P n L.lower-starts (length l)
LowerPlaced ByRow P n L l = l ≡ []

-- questions 1 to 11 are passed, the lists of every place stand in their stores, and the inverse order in scratch
pub record Factorable (f : Form) (i : Input) (L : PlacedLists) (w : Workspace) : Type 0 where
  pub lent : SolveLent i (length w.marks)
  pub settled : Settled i
  pub lower-side : LowerPlaced f (stored i) i.n L w.lower
  pub upper-side : PlacedSide f Upper (stored i) i.n L.upper-starts L.upper-runs L.upper-index (length w.upper)
  pub reciprocals : length w.d ≡ i.n
  pub scratch : length w.work ≡ 3 * i.n
  pub slots : regions_end i.n ≤ length w.marks
  pub inverse : Inverse i w.marks

-- ---- before the first row

-- the n slots from `from` on are zero
unfoldable pub zeroed : ℕ → ℕ → List ℕ → List ℕ
zeroed n from s = sets s from (replicate n 0)

-- no mark has a stamp, and no column of L has a value
abbrev pub fresh_marks : ℕ → List ℕ → List ℕ
fresh_marks n s = zeroed n (cursors_from n) (zeroed n 0 s)

-- ---- between two rows. Scratch has the inverse column order from slot n on, the cuts from 3n, the cursors of L from 4n, lower row k from 5n.

-- L of the rows done, by rows, or by columns, or not at all
abbrev pub LowerHeld : Form → System → List Row → ℕ → List ℕ → List ℕ → List Float → Type 0
LowerHeld Plain S rows k starts cursors l = Stacked nought (l_of rows) k starts l
LowerHeld Shared S rows k starts cursors l = InColumns S.n starts cursors l (column_of S.lower rows k)
LowerHeld ByRow S rows k starts cursors l = l ≡ []

-- by which lower row k is found in pattern P: no mark has its stamp, and the lists before it and their cuts stand
abbrev pub RowDue : Pattern → ℕ → ℕ → List ℕ → List ℕ → List ℕ → List ℕ → Type 0
RowDue P n k s starts runs index = found.PlaceReady P n k (k + 1) (upper_cuts n) s starts runs index

-- the plain form reads it
abbrev pub Finding : Form → Input → PlacedLists → ℕ → List ℕ → Type 0
Finding Plain i L k s = Unit {0}
Finding Shared i L k s = RowDue (stored i) i.n k s L.upper-starts L.upper-runs L.upper-index
Finding ByRow i L k s = RowDue (stored i) i.n k s L.upper-starts L.upper-runs L.upper-index

-- rows 0 to k - 1 are done
pub record Going (f : Form) (i : Input) (L : PlacedLists) (k : ℕ) (w : Workspace) : Type 0 where
  pub given : Factorable f i L w
  pub rows : List Row
  pub held : RowsHeld (system i) rows i.n k w.work L.upper-starts L.upper-runs L.upper-index w.upper
  pub pivots : (j : ℕ) → j < k → get_or w.d j nan ≡ (get_or rows j none).d
  pub lower : LowerHeld f (system i) rows k L.lower-starts (drop (cursors_from i.n) w.marks) w.lower
  pub finding : Finding f i L k w.marks

-- rows 0 to k - 1 are done, or the listed operations meet a fault in one of them
unfoldable pub CameTo : Form → Input → PlacedLists → ℕ → prelude.Result ⊤ Fault → Workspace → Type 0
CameTo f i L k (Ok t) w = Going f i L k w
CameTo f i L k (Err (Zero p)) w = listed i ≡ met (zero_pivot p.0)
CameTo f i L k (Err (Overflow p)) w = listed i ≡ met (overflow p.0)

-- ---- row k

-- its lower row, so long, in the marks
abbrev pub lower_in : ℕ → ℕ → List ℕ → List ℕ
lower_in n below marks = take below (drop (list_from n) marks)

pub record LowerAt (n below slots : ℕ) : Type 0 where
  pub few : n ≤ max_rows
  pub room : list_from n + below ≤ slots

-- what finding it asks, P being M'
pub record Findable (P : Pattern) (n k : ℕ) (starts columns r ustarts runs index s : List ℕ) : Type 0 where
  pub place : k < n
  pub room : marking.Room n s
  pub own-place : k < length r
  pub row : ListIn starts starts (length columns) (get_or r k 0)
  pub columns-below : Below n (row_of starts columns (get_or r k 0))
  pub inverse : marking.Order n s
  pub entries : (j : ℕ) → j < n → has (placed (order_of n s) (row_of starts columns (get_or r k 0))) j ≡ P k j
  pub held : RowDue P n k s ustarts runs index
  pub store : found.Stored P n (k + 1) ustarts runs index

-- lower row k, so long, stands from slot 5n on; the inverse order and the cursors are as they were, and row k + 1 can be found
pub record LowerFound (P : Pattern) (n k below : ℕ) (ustarts runs index s₀ s : List ℕ) : Type 0 where
  pub next : RowDue P n (k + 1) s ustarts runs index
  pub size : below ≡ length (lower_row P k)
  pub lower : lower_in n below s ≡ lower_row P k
  pub inverse : (j : ℕ) → j < n → get_or s (inverse_from n + j) 0 ≡ get_or s₀ (inverse_from n + j) 0
  pub cursors : (j : ℕ) → j < n → get_or s (cursors_from n + j) 0 ≡ get_or s₀ (cursors_from n + j) 0

-- the plain form reads it, the others find it anew: what that asks, and what it leaves
abbrev pub reads_lower : Form → Bool
reads_lower Plain = true
reads_lower Shared = false
reads_lower ByRow = false

unfoldable pub LowerAsked : Bool → ℕ → ℕ → List ℕ → List ℕ → List ℕ → PlacedLists → List ℕ → Type 0
LowerAsked true n k starts columns r L s =
    ListIn L.lower-starts L.lower-starts (length L.lower-index) k × LowerAt n (length (row_of L.lower-starts L.lower-index k)) (length s)
LowerAsked false n k starts columns r L s = (P : Pattern) × Findable P n k starts columns r L.upper-starts L.upper-runs L.upper-index s

unfoldable pub LowerGiven : Bool → ℕ → ℕ → ℕ → List ℕ → List ℕ → List ℕ → PlacedLists → List ℕ → List ℕ → Type 0
LowerGiven true n k below starts columns r L s₀ s =
    (below ≡ length (row_of L.lower-starts L.lower-index k)) × (s ≡ sets s₀ (list_from n) (row_of L.lower-starts L.lower-index k))
LowerGiven false n k below starts columns r L s₀ s =
    (P : Pattern) → Findable P n k starts columns r L.upper-starts L.upper-runs L.upper-index s₀ → LowerFound P n k below L.upper-starts L.upper-runs L.upper-index s₀ s

-- what its steps find
pub record RowAt (i : Input) (k below : ℕ) (starts runs index marks : List ℕ) (upper work : ℕ) : Type 0 where
  pub place : k < i.n
  pub lent : SolveLent i (length marks)
  pub settled : Settled i
  pub shape : StoreShape i.n starts runs index upper
  pub scratch : work ≡ 3 * i.n
  pub slots : regions_end i.n ≤ length marks
  pub own-place : k < length i.r
  pub columns : ListIn i.starts i.starts (length i.columns) (get_or i.r k 0)
  pub values : ListIn i.starts i.starts (length i.values) (get_or i.r k 0)
  pub right : get_or i.r k 0 < length i.b
  pub short : below ≤ i.n
  pub inverse : Inverse i marks
  pub lower : lower_in i.n below marks ≡ lower_row (stored i) k

-- once its lower row stands there
pub record RowReady (f : Form) (i : Input) (L : PlacedLists) (k upper work : ℕ) (s : List ℕ) : Type 0 where
  pub asked : LowerAsked (reads_lower f) i.n k i.starts i.columns i.r L s
  pub row : (m : List ℕ) (below : ℕ) → length m ≡ length s → LowerGiven (reads_lower f) i.n k below i.starts i.columns i.r L s m
      → RowAt i k below L.upper-starts L.upper-runs L.upper-index m upper work

-- room for its L from its list start on, and its multipliers in the working row
pub record Keepable (n k below : ℕ) (starts : List ℕ) (slots work : ℕ) (lower : List ℕ) : Type 0 where
  pub start : k < length starts
  pub room : get_or starts k 0 + below ≤ slots
  pub row : n ≤ work
  pub places : Below n lower

-- or a slot left in each of its columns
pub record Spread (n below : ℕ) (starts : List ℕ) (slots : ℕ) (marks : List ℕ) : Type 0 where
  pub lower : LowerAt n below (length marks)
  pub start : n ≤ length starts
  pub ascending : Ascending (lower_in n below marks)
  pub places : Below n (lower_in n below marks)
  pub room : (p : ℕ) → p < below → get_or starts (get_or (lower_in n below marks) p 0) 0 + get_or marks (cursors_from n + get_or (lower_in n below marks) p 0) 0 < slots
  pub few : (p : ℕ) → p < below → get_or marks (cursors_from n + get_or (lower_in n below marks) p 0) 0 < max_rows

unfoldable pub KeepAsked : Form → ℕ → ℕ → ℕ → List ℕ → ℕ → ℕ → List ℕ → Type 0
KeepAsked Plain n k below starts slots work s = LowerAt n below (length s) × Keepable n k below starts slots work (lower_in n below s)
KeepAsked Shared n k below starts slots work s = (n ≤ work) × Spread n below starts slots s
KeepAsked ByRow n k below starts slots work s = Unit {0}

-- its L where the form keeps it; of the marks the cursors alone are written
unfoldable pub LowerKept : Form → ℕ → ℕ → ℕ → List ℕ → List Float → List Float → List Float → List ℕ → List ℕ → Type 0
LowerKept Plain n k below starts w l₀ l s₀ s = l ≡ sets l₀ (get_or starts k 0) (gathered (lower_in n below s₀) w)
LowerKept Shared n k below starts w l₀ l s₀ s = columns (drop (cursors_from n) s) l ≡ keep_columns starts w (lower_in n below s₀) (columns (drop (cursors_from n) s₀) l₀)
LowerKept ByRow n k below starts w l₀ l s₀ s = l ≡ l₀

pub record KeepGiven (f : Form) (n k below : ℕ) (starts : List ℕ) (w l₀ l : List Float) (s₀ s : List ℕ) : Type 0 where
  pub values : LowerKept f n k below starts w l₀ l s₀ s
  pub same : But (cursors_from n) (list_from n) s₀ s

-- ---- the back steps

-- what they ask: every y is finite
pub record BackReady (n : ℕ) (starts runs index : List ℕ) (upper : ℕ) (work : List Float) : Type 0 where
  pub few : n ≤ max_rows
  pub scratch : length work ≡ 3 * n
  pub shape : StoreShape n starts runs index upper
  pub sums : (k : ℕ) → k < n → finite (get_or work (n + k) nan) ≡ true

-- z, or what they meet
abbrev pub back_as : List Float → prelude.Result ⊤ Fault → Out (List Float)
back_as z (Ok t) = ok z
back_as z (Err (Zero k)) = met (zero_pivot k.0)
back_as z (Err (Overflow k)) = met (overflow k.0)
