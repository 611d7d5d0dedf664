-- Question 14 place by place: what is found again is compared with what is presented. In all of it the store as it stood before the first
-- place is the presented one. Definitions only.
use Rattle.base.specs.Answers.{Pass, Asked}
use Rattle.std.specs.Prelude.{◌≡◌, Bool, true, false, not, ◌&&◌, List, [], ℕ, ◌+◌, ◌<◌, ◌≤◌, length, Float, Option, Some, None}
use Rattle.base.specs.First.{first}
use Rattle.base.specs.Scratch.{upper_cuts}
use Rattle.base.specs.declared.Form.{Form}
use Rattle.base.specs.declared.Form.TheVariants.{Plain, Shared}
use Rattle.base.specs.declared.Side.{Side}
use Rattle.base.specs.declared.Side.TheVariants.{Lower, Upper}
use Rattle.fill.specs.Fill.{Pattern, filled, upper_row, lower_row, flip}
use Rattle.matrix.specs.Input.{Input, stored, pattern_by}
use Rattle.matrix.specs.declared.System.{System}
use Rattle.marks.specs.Marks.{Fresh}
use Rattle.columns.specs.Columns.{Ready}
use Rattle.questions.specs.Lent.{Inverse}
use Rattle.columns.specs.Sides.{rows_in}
use Rattle.outcome.specs.Buffers.{Buffers, all_buffers, side_buffers}
use Rattle.outcome.specs.Placed.{PlacedSide}
use Rattle.outcome.specs.Refactor.{ask_presented}
use Rattle.storing.specs.Held.{Holding, presented}
use Rattle.storing.specs.declared.Way.{Way}
use Rattle.storing.specs.declared.Way.TheVariants.{OneAfterAnother, Sharing}
use Rattle.storing.specs.declared.Extent.{Extent}
use Rattle.symbolic.specs.Places.{pattern_of, Begun, Stores, ListsAt, Keep, ListKept, KeepLower, SideAt, SideNext}
use Rattle.symbolic.specs.Pass.{stamp_at, LowerAt, nothing, MatrixLent}
use Rattle.symbolic.specs.declared.OpenRow.{OpenRow}
use Rattle.symbolic.specs.declared.SidePlace.{SidePlace}
use Rattle.comparison.specs.declared.Presented.{Presented}
use Rattle.comparison.specs.declared.Reached.{Reached}

-- the form that places its lists so: the plain and the shared form are presented
abbrev pub form_of : Way → Form
form_of OneAfterAnother = Plain
form_of Sharing = Shared

-- ---- T(k) of a side, and lower row k of the plain form

-- it is as presented; s₀ is scratch before, s after
pub record ListSame (way : Way) (P : Pattern) (n k cuts values : ℕ) (starts runs index s₀ s : List ℕ) (e : Extent) : Type 0 where
  pub same : presented way (upper_row P n) (lower_row P) values k starts runs index ≡ true
  pub kept : ListKept way P n k cuts index values starts runs index s₀ s e

abbrev pub ListEnds : Way → Pattern → ℕ → ℕ → ℕ → ℕ → List ℕ → List ℕ → List ℕ → List ℕ → List ℕ → Option Extent → Type 0
ListEnds way P n k cuts values starts runs index s₀ s (Some e) = ListSame way P n k cuts values starts runs index s₀ s e
ListEnds way P n k cuts values starts runs index s₀ s None = presented way (upper_row P n) (lower_row P) values k starts runs index ≡ false

-- of the lists that are presented: it can be compared, and what comparing tells
abbrev pub KeepIn : Way → Pattern → ℕ → ℕ → ℕ → ℕ → Presented → List ℕ → OpenRow → Extent → Type 0
KeepIn way P n k t cuts l s o e = Keep way P n k t cuts l.index.now l.values l.starts.now l.runs.now l.index.now s o e

abbrev pub ListEndsIn : Way → Pattern → ℕ → ℕ → ℕ → Presented → List ℕ → List ℕ → Option Extent → Type 0
ListEndsIn way P n k cuts l s₀ s o = ListEnds way P n k cuts l.values l.starts.now l.runs.now l.index.now s₀ s o

-- it can be compared, for some pattern and stamp
pub record Comparable (way : Way) (n k cuts : ℕ) (l : Presented) (s : List ℕ) (o : OpenRow) (e : Extent) : Type 0 where
  pub pattern : Pattern
  pub stamp : ℕ
  pub keep : KeepIn way pattern n k stamp cuts l s o e

abbrev pub presented_lower : Pattern → ℕ → ℕ → List ℕ → List ℕ → Bool
presented_lower P values k starts index = presented OneAfterAnother (lower_row P) (lower_row (flip P)) values k starts starts index

abbrev pub LowerEnds : Pattern → ℕ → ℕ → List ℕ → List ℕ → Option Extent → Type 0
LowerEnds P values k starts index (Some e) =
    (presented_lower P values k starts index ≡ true) × Holding OneAfterAnother (lower_row P) (lower_row (flip P)) values (k + 1) index starts starts index e
LowerEnds P values k starts index None = presented_lower P values k starts index ≡ false

abbrev pub KeepLowerIn : Pattern → ℕ → ℕ → Presented → List ℕ → ℕ → Extent → Type 0
KeepLowerIn P n k l s count e = KeepLower P n k l.index.now l.values l.starts.now l.index.now s count e

abbrev pub LowerEndsIn : Pattern → ℕ → Presented → Option Extent → Type 0
LowerEndsIn P k l o = LowerEnds P l.values k l.starts.now l.index.now o

pub record LowerComparable (n k : ℕ) (l : Presented) (s : List ℕ) (count : ℕ) (e : Extent) : Type 0 where
  pub pattern : Pattern
  pub keep : KeepLowerIn pattern n k l s count e

-- ---- a side at place k

abbrev pub presented_side : Way → Side → Input → ℕ → ℕ → List ℕ → List ℕ → List ℕ → Bool
presented_side way side i values k starts runs index = presented way (upper_row (pattern_of side i) i.n) (lower_row (pattern_of side i)) values k starts runs index

pub record SideSame (way : Way) (side : Side) (i : Input) (values k t : ℕ) (starts runs index s₀ s : List ℕ) (p : SidePlace) : Type 0 where
  pub same : presented_side way side i values k starts runs index ≡ true
  pub next : SideNext way side i index values k t starts runs index s₀ s p

abbrev pub SideEnds : Way → Side → Input → ℕ → ℕ → ℕ → List ℕ → List ℕ → List ℕ → List ℕ → List ℕ → Option SidePlace → Type 0
SideEnds way side i values k t starts runs index s₀ s (Some p) = SideSame way side i values k t starts runs index s₀ s p
SideEnds way side i values k t starts runs index s₀ s None = (filled (pattern_of side i) k k && presented_side way side i values k starts runs index) ≡ false

-- of the lists that are presented, for column order c
abbrev pub SideAtIn : Way → Side → System → List ℕ → Presented → ℕ → ℕ → ℕ → List ℕ → Extent → Type 0
SideAtIn way side i c l k t window s e = SideAt way side (pattern_by i c) l.index.now l.values k t window l.starts.now l.runs.now l.index.now s e

abbrev pub SideEndsIn : Way → Side → System → List ℕ → Presented → ℕ → ℕ → List ℕ → List ℕ → Option SidePlace → Type 0
SideEndsIn way side i c l k t s₀ s o = SideEnds way side (pattern_by i c) l.values k t l.starts.now l.runs.now l.index.now s₀ s o

-- for some column order
pub record SideComparable (way : Way) (side : Side) (i : System) (l : Presented) (k t window : ℕ) (s : List ℕ) (e : Extent) : Type 0 where
  pub order : List ℕ
  pub due : SideAtIn way side i order l k t window s e

-- ---- place k of both sides

-- "differs or .. that call refuses"
unfoldable pub other_at : Way → Input → ℕ → ℕ → List ℕ → List ℕ → List ℕ → List ℕ → List ℕ → List ℕ → ℕ → Bool
other_at OneAfterAnother i lv uv ls lr li us ur ui k = not (filled (stored i) k k && presented_lower (stored i) lv k ls li && presented_side OneAfterAnother Upper i uv k us ur ui)
other_at Sharing i lv uv ls lr li us ur ui k = not (filled (stored i) k k && presented_side Sharing Lower i lv k ls lr li && presented_side Sharing Upper i uv k us ur ui)

-- no place before k differs, and their lists stand in the presented stores
pub record Met (way : Way) (i : Input) (lv uv k : ℕ) (ls lr li us ur ui s : List ℕ) (g : Reached) : Type 0 where
  pub same : first (other_at way i lv uv ls lr li us ur ui) k ≡ None
  pub most : k ≤ i.n
  pub begun : Begun i s
  pub fresh : Fresh i.n (stamp_at (form_of way) k) s
  pub lower : LowerAt (form_of way) i li lv k ls lr li s g.lower g.window
  pub upper : ListsAt way (stored i) i.n k (upper_cuts i.n) ui uv us ur ui s g.upper

abbrev pub PlaceEnds : Way → Input → ℕ → ℕ → ℕ → List ℕ → List ℕ → List ℕ → List ℕ → List ℕ → List ℕ → List ℕ → Option Reached → Type 0
PlaceEnds way i lv uv k ls lr li us ur ui s (Some g) = Met way i lv uv (k + 1) ls lr li us ur ui s g
PlaceEnds way i lv uv k ls lr li us ur ui s None = other_at way i lv uv ls lr li us ur ui k ≡ true

-- of the lists that are presented, for column order c
abbrev pub MetIn : Way → System → List ℕ → Presented → Presented → ℕ → List ℕ → Reached → Type 0
MetIn way i c lower upper k s g = Met way (pattern_by i c) lower.values upper.values k lower.starts.now lower.runs.now lower.index.now upper.starts.now upper.runs.now upper.index.now s g

abbrev pub PlaceEndsIn : Way → System → List ℕ → Presented → Presented → ℕ → List ℕ → Option Reached → Type 0
PlaceEndsIn way i c lower upper k s o = PlaceEnds way (pattern_by i c) lower.values upper.values k lower.starts.now lower.runs.now lower.index.now upper.starts.now upper.runs.now upper.index.now s o

-- place k is due, for some column order
pub record Due (way : Way) (i : System) (lower upper : Presented) (k : ℕ) (s : List ℕ) (g : Reached) : Type 0 where
  pub order : List ℕ
  pub place : k < i.n
  pub at : MetIn way i order lower upper k s g

-- ---- the pass

-- before place 0
abbrev pub nothing_met : Reached
nothing_met = record { lower = nothing; upper = nothing; window = 0 }

abbrev pub ColumnsBy : Way → Input → List ℕ → Type 0
ColumnsBy OneAfterAnother i s = Unit {0}
ColumnsBy Sharing i s = Ready i.n 0 0 (rows_in i s) s

pub record BegunBy (way : Way) (i : Input) (s : List ℕ) : Type 0 where
  pub begun : Begun i s
  pub fresh : Fresh i.n 1 s
  pub columns : ColumnsBy way i s

-- the plain form's run starts are its list starts
abbrev pub RunsBy : Way → List ℕ → List ℕ → Type 0
RunsBy OneAfterAnother starts runs = runs ≡ starts
RunsBy Sharing starts runs = Unit {0}

-- what the questions before 9 settle
pub record Presenting (way : Way) (i : Input) (ls lr li : List ℕ) (lv : ℕ) (us ur ui : List ℕ) (uv marks : ℕ) : Type 0 where
  pub matrix : MatrixLent i marks
  pub lower : Stores way i.n li lv ls lr
  pub upper : Stores way i.n ui uv us ur
  pub lower-runs : RunsBy way ls lr
  pub upper-runs : RunsBy way us ur

-- the lists of both sides stand in the presented stores, and scratch holds the inverse column order
pub record Standing (way : Way) (i : Input) (ls lr li : List ℕ) (lv : ℕ) (us ur ui : List ℕ) (uv : ℕ) (s : List ℕ) : Type 0 where
  pub lower : PlacedSide (form_of way) Lower (stored i) i.n ls lr li lv
  pub upper : PlacedSide (form_of way) Upper (stored i) i.n us ur ui uv
  pub inverse : Inverse i s

-- the buffers as refactor is lent them in the form: the plain form has no run starts
abbrev pub runs_lent : Way → List ℕ → List ℕ
runs_lent OneAfterAnother runs = []
runs_lent Sharing runs = runs

abbrev pub buffers_by : Way → (ls lr li : List ℕ) (lv : List Float) (us ur ui : List ℕ) (uv d x w : List Float) (m : List ℕ) → Buffers
buffers_by way ls lr li lv us ur ui uv d x w m = all_buffers (side_buffers ls (runs_lent way lr) li lv) (side_buffers us (runs_lent way ur) ui uv) d x w m

-- question 14 is answered, whatever d, x and scratch hold
pub record Compared (way : Way) (i : Input) (ls lr li : List ℕ) (lv : ℕ) (us ur ui : List ℕ) (uv : ℕ) (s : List ℕ) (a : Asked) : Type 0 where
  pub answer : (lower upper d x w : List Float) (m : List ℕ) → length lower ≡ lv → length upper ≡ uv
      → a ≡ ask_presented (form_of way) (stored i) i.n (buffers_by way ls lr li lower us ur ui upper d x w m)
  pub standing : a ≡ Pass → Standing way i ls lr li lv us ur ui uv s
