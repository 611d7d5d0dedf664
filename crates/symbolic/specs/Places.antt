-- One place of one side of the structure pass: what its steps find and leave. Definitions only.
use Rattle.std.specs.Prelude.{◌≡◌, true, false, List, ℕ, suc, ◌+◌, ◌<◌, ◌≤◌, length, get_or, take, drop, Option, Some, None, Result, Ok, Err}
use Rattle.base.specs.Lists.{sum}
use Rattle.base.specs.declared.Side.{Side}
use Rattle.base.specs.declared.Side.TheVariants.{Lower, Upper}
use Rattle.base.specs.declared.Place.{Place}
use Rattle.base.specs.declared.Refusal.{Refusal}
use Rattle.base.specs.declared.Refusal.TheVariants.{NullPivot, LowerSlots, UpperSlots}
use Rattle.fill.specs.Fill.{Pattern, filled, upper_row, lower_row, flip}
use Rattle.base.specs.Limits.{max_rows, max_slots}
use Rattle.matrix.specs.declared.System.{System}
use Rattle.matrix.specs.Input.{Input, pattern_by, stored}
use Rattle.placement.specs.Placing.{plain}
use Rattle.placement.specs.PlacingLaws.{room}
use Rattle.marks.specs.Marks.{Room, Base, Fresh, Holds}
use Rattle.lent.specs.Reading.{But}
use Rattle.marks.specs.Rows.{Stored, Cuts, PlaceReady, row_steps}
use Rattle.questions.specs.Lent.{Inverse}
use Rattle.columns.specs.Sides.{side_pattern, SideReady, Sound, rows_in}
use Rattle.storing.specs.Ways.{way_of}
use Rattle.storing.specs.Held.{Holding}
use Rattle.storing.specs.declared.Way.{Way}
use Rattle.storing.specs.declared.Way.TheVariants.{OneAfterAnother, Sharing}
use Rattle.storing.specs.declared.Extent.{Extent}
use Rattle.symbolic.specs.declared.OpenRow.{OpenRow}
use Rattle.symbolic.specs.declared.SidePlace.{SidePlace}
use Rattle.symbolic.specs.declared.SideError.{SideError}
use Rattle.symbolic.specs.declared.SideError.TheVariants.{NoDiagonal, NoRoom}
use Rattle.base.specs.Scratch.{blocks_from, upper_cuts, lower_cuts, list_from, nodes_from}

-- M' for the upper side, with rows and columns exchanged for the lower one
abbrev pub pattern_of : Side → Input → Pattern
pattern_of side i = side_pattern side (stored i)

-- where the cuts of a side's lists stand in scratch
abbrev pub cuts_of : Side → ℕ → ℕ
cuts_of Upper n = upper_cuts n
cuts_of Lower n = lower_cuts n

-- the slots that a side's work leaves to the other side: the lower cuts, the heads and the nodes, or the upper cuts
abbrev pub Foreign : Side → ℕ → ℕ → Type 0
Foreign Upper n q = (lower_cuts n ≤ q) × (list_from n ≤ q → nodes_from n ≤ q)
Foreign Lower n q = (upper_cuts n ≤ q) × (q < lower_cuts n)

-- the inverse order and the other side's slots are as they were
pub record Apart (side : Side) (n : ℕ) (s₀ s : List ℕ) : Type 0 where
  pub size : length s ≡ length s₀
  pub order : (q : ℕ) → n ≤ q → q < blocks_from n → get_or s q 0 ≡ get_or s₀ q 0
  pub foreign : (q : ℕ) → Foreign side n q → get_or s q 0 ≡ get_or s₀ q 0

-- what questions 1 to 7 and the inverse order settle for the whole pass
pub record Begun (i : Input) (s : List ℕ) : Type 0 where
  pub few : i.n ≤ max_rows
  pub sound : Sound i
  pub inverse : Inverse i s
  pub space : Room i.n s

-- ---- opening place k: its lists are found

-- what it finds; starts are the side's list starts
pub record Open (side : Side) (i : Input) (k t window : ℕ) (starts runs index s : List ℕ) : Type 0 where
  pub begun : Begun i s
  pub below : k < i.n
  pub held : PlaceReady (pattern_of side i) i.n k t (cuts_of side i.n) s starts runs index
  pub ready : SideReady side i.n k window (rows_in i s) s

-- the same, for some column order and some list starts: neither is lent
pub record Opening (side : Side) (i : System) (k t window : ℕ) (runs index s : List ℕ) : Type 0 where
  pub order : List ℕ
  pub lists : List ℕ
  pub due : Open side (pattern_by i order) k t window lists runs index s

-- lower row k and T(k) of the pattern stand in scratch from slot 5n on, and the marks are row k of the fill
pub record Listing (P : Pattern) (n k t : ℕ) (s : List ℕ) (below above : ℕ) : Type 0 where
  pub marks : Holds n t s (filled P k)
  pub below-is : below ≡ length (lower_row P k)
  pub above-is : above ≡ length (upper_row P n k)
  pub lower : take below (drop (list_from n) s) ≡ lower_row P k
  pub upper : take above (drop (list_from n + below) s) ≡ upper_row P n k

-- (k, k) is filled, and its lists are found
pub record RowFound (side : Side) (i : Input) (k t : ℕ) (s₀ s : List ℕ) (o : OpenRow) : Type 0 where
  pub diagonal : filled (pattern_of side i) k k ≡ true
  pub lists : Listing (pattern_of side i) i.n k t s o.below o.above
  pub cut : Cuts (pattern_of side i) i.n k (cuts_of side i.n) s
  pub ready : SideReady side i.n (k + 1) o.window (rows_in i s) s
  pub apart : Apart side i.n s₀ s

abbrev pub OpenEnds : Side → Input → ℕ → ℕ → List ℕ → List ℕ → Option OpenRow → Type 0
OpenEnds side i k t s₀ s None = filled (pattern_of side i) k k ≡ false
OpenEnds side i k t s₀ s (Some o) = RowFound side i k t s₀ s o

-- ---- keeping T(k): it is placed, and the cuts are renewed

-- how many run starts a way has: in the plain form the list starts are the run starts
abbrev pub run_count : Way → ℕ → ℕ
run_count OneAfterAnother n = n + 1
run_count Sharing n = n

-- the lengths of a side's stores; store is its index store as it stood before the first place
pub record Stores (way : Way) (n : ℕ) (store : List ℕ) (values : ℕ) (starts runs : List ℕ) : Type 0 where
  pub starts-size : length starts ≡ n + 1
  pub runs-size : length runs ≡ run_count way n
  pub slots-fit : length store ≤ max_slots
  pub values-fit : values ≤ max_slots

-- a side's lists before place k: a pass that writes began with a cleared store, a pass that compares with the one it was presented
pub record ListsAt (way : Way) (P : Pattern) (n k cuts : ℕ) (store : List ℕ) (values : ℕ) (starts runs index s : List ℕ) (e : Extent) : Type 0 where
  pub held : Holding way (upper_row P n) (lower_row P) values k store starts runs index e
  pub cut : Cuts P n k cuts s
  pub stores : Stores way n store values starts runs

pub record Keep (way : Way) (P : Pattern) (n k t cuts : ℕ) (store : List ℕ) (values : ℕ) (starts runs index s : List ℕ) (o : OpenRow) (e : Extent) : Type 0 where
  pub below : k < n
  pub few : n ≤ max_rows
  pub space : Room n s
  pub base : Base n cuts
  pub lists : Listing P n k t s o.below o.above
  pub at : ListsAt way P n k cuts store values starts runs index s e

-- the same, for some pattern, store and stamp
pub record Keeping (way : Way) (n k cuts values : ℕ) (starts runs index s : List ℕ) (o : OpenRow) (e : Extent) : Type 0 where
  pub pattern : Pattern
  pub store : List ℕ
  pub stamp : ℕ
  pub keep : Keep way pattern n k stamp cuts store values starts runs index s o e

pub record ListKept (way : Way) (P : Pattern) (n k cuts : ℕ) (store : List ℕ) (values : ℕ) (starts runs index s₀ s : List ℕ) (e : Extent) : Type 0 where
  pub fits : room (way_of way) (upper_row P n) (lower_row P) (length store) values k ≡ true
  pub at : ListsAt way P n (k + 1) cuts store values starts runs index s e
  pub but : But cuts (cuts + k + 1) s₀ s

abbrev pub KeepEnds : Way → Pattern → ℕ → ℕ → ℕ → List ℕ → ℕ → List ℕ → List ℕ → List ℕ → List ℕ → List ℕ → Option Extent → Type 0
KeepEnds way P n k cuts store values starts runs index s₀ s (Some e) = ListKept way P n k cuts store values starts runs index s₀ s e
KeepEnds way P n k cuts store values starts runs index s₀ s None = room (way_of way) (upper_row P n) (lower_row P) (length store) values k ≡ false

-- ---- keeping lower row k in the plain form

pub record KeepLower (P : Pattern) (n k : ℕ) (store : List ℕ) (values : ℕ) (starts index s : List ℕ) (count : ℕ) (e : Extent) : Type 0 where
  pub below : k < n
  pub few : n ≤ max_rows
  pub space : Room n s
  pub size : count ≡ length (lower_row P k)
  pub list : take count (drop (list_from n) s) ≡ lower_row P k
  pub held : Holding OneAfterAnother (lower_row P) (lower_row (flip P)) values k store starts starts index e
  pub stores : Stores OneAfterAnother n store values starts starts

-- the same, for some pattern and some store
pub record KeepingLower (n k values : ℕ) (starts index s : List ℕ) (count : ℕ) (e : Extent) : Type 0 where
  pub pattern : Pattern
  pub store : List ℕ
  pub keep : KeepLower pattern n k store values starts index s count e

abbrev pub LowerEnds : Pattern → ℕ → List ℕ → ℕ → List ℕ → List ℕ → Option Extent → Type 0
LowerEnds P k store values starts index (Some e) =
    (room plain (lower_row P) (lower_row (flip P)) (length store) values k ≡ true) × Holding OneAfterAnother (lower_row P) (lower_row (flip P)) values (k + 1) store starts starts index e
LowerEnds P k store values starts index None = room plain (lower_row P) (lower_row (flip P)) (length store) values k ≡ false

-- ---- the products of place k, added to those before

-- lower row k stands in scratch, and the lists of the places before k in their stores
pub record Adding (P : Pattern) (n k : ℕ) (starts runs index s : List ℕ) (count products : ℕ) : Type 0 where
  pub below : k < n
  pub few : n ≤ max_rows
  pub space : Room n s
  pub size : count ≡ length (lower_row P k)
  pub list : take count (drop (list_from n) s) ≡ lower_row P k
  pub store : Stored P n k starts runs index
  pub before : products ≡ sum k (row_steps P n)

-- the same, for some pattern, place, run starts and index store
pub record Addable (n : ℕ) (starts s : List ℕ) (count products : ℕ) : Type 0 where
  pub pattern : Pattern
  pub place : ℕ
  pub runs : List ℕ
  pub index : List ℕ
  pub adding : Adding pattern n place starts runs index s count products

-- ---- one side at place k

pub record SideAt (way : Way) (side : Side) (i : Input) (store : List ℕ) (values k t window : ℕ) (starts runs index s : List ℕ) (e : Extent) : Type 0 where
  pub begun : Begun i s
  pub below : k < i.n
  pub fresh : Fresh i.n t s
  pub ready : SideReady side i.n k window (rows_in i s) s
  pub at : ListsAt way (pattern_of side i) i.n k (cuts_of side i.n) store values starts runs index s e

-- the same, for some column order and some store
pub record SideDue (way : Way) (side : Side) (i : System) (values k t window : ℕ) (starts runs index s : List ℕ) (e : Extent) : Type 0 where
  pub order : List ℕ
  pub store : List ℕ
  pub due : SideAt way side (pattern_by i order) store values k t window starts runs index s e

pub record SideNext (way : Way) (side : Side) (i : Input) (store : List ℕ) (values k t : ℕ) (starts runs index s₀ s : List ℕ) (p : SidePlace) : Type 0 where
  pub diagonal : filled (pattern_of side i) k k ≡ true
  pub fits : room (way_of way) (upper_row (pattern_of side i) i.n) (lower_row (pattern_of side i)) (length store) values k ≡ true
  pub at : ListsAt way (pattern_of side i) i.n (k + 1) (cuts_of side i.n) store values starts runs index s p.extent
  pub ready : SideReady side i.n (k + 1) p.window (rows_in i s) s
  pub last : Fresh i.n (suc t) s
  pub apart : Apart side i.n s₀ s
  pub size : p.below ≡ length (lower_row (pattern_of side i) k)
  pub lower : take p.below (drop (list_from i.n) s) ≡ lower_row (pattern_of side i) k

-- why its list is not placed
abbrev pub SideFails : Way → Side → Input → List ℕ → ℕ → ℕ → SideError → Type 0
SideFails way side i store values k NoDiagonal = filled (pattern_of side i) k k ≡ false
SideFails way side i store values k NoRoom =
    (filled (pattern_of side i) k k ≡ true) × (room (way_of way) (upper_row (pattern_of side i) i.n) (lower_row (pattern_of side i)) (length store) values k ≡ false)

abbrev pub SideEnds : Way → Side → Input → List ℕ → ℕ → ℕ → ℕ → List ℕ → List ℕ → List ℕ → List ℕ → List ℕ → Result SidePlace SideError → Type 0
SideEnds way side i store values k t starts runs index s₀ s (Err e) = SideFails way side i store values k e
SideEnds way side i store values k t starts runs index s₀ s (Ok p) = SideNext way side i store values k t starts runs index s₀ s p

-- the refusal of a side's list that is not placed: 9, or 10 for the lower side and 11 for the upper one
abbrev pub refusal_of : SideError → Side → Place → Refusal
refusal_of NoDiagonal side k = NullPivot k
refusal_of NoRoom Lower k = LowerSlots k
refusal_of NoRoom Upper k = UpperSlots k
