-- "A list is asked for by side and place": what the lookup hands back over the lists that a call left. Definitions only.
use Rattle.std.specs.Prelude.{◌≡◌, Bool, true, false, List, ℕ, ◌<◌}
use Rattle.base.specs.Answers.{spot}
use Rattle.base.specs.declared.Form.{Form}
use Rattle.base.specs.declared.Form.TheVariants.{Plain, Shared, ByRow}
use Rattle.base.specs.declared.Side.{Side}
use Rattle.base.specs.declared.Side.TheVariants.{Lower, Upper}
use Rattle.fill.specs.Fill.{upper_row, lower_row, lower_column}
use Rattle.matrix.specs.Input.{Input, stored}
use Rattle.outcome.specs.Forms as forms
use Rattle.outcome.specs.Buffers.{SideBuffers, Buffers}
use Rattle.outcome.specs.Resolve.{runs_of}
use Rattle.lookup.specs.Lookup.{SideLists, side_lists, lookup}

-- the forms that leave lists: the row form zeroes its own
abbrev pub leaves : Form → Bool
leaves Plain = true
leaves Shared = true
leaves ByRow = false

-- ---- how a form's buffers are presented to the lookup

-- a side's list starts, run starts and index store; the plain form's run starts are its list starts
abbrev pub presented : Form → SideBuffers → SideLists
presented f b = side_lists b.starts (runs_of f b) b.index

-- the list of a side at place k of n
abbrev pub handed : Form → Side → ℕ → ℕ → Buffers → List ℕ
handed f side n k t = lookup f side (spot k) n (presented f t.lower) (presented f t.upper)

-- each is the list that the form keeps for its side and place
abbrev pub Handed : Form → Input → Buffers → Type 0
Handed f i t = (side : Side) (k : ℕ) → k < i.n → handed f side i.n k t ≡ forms.lists_of f side (stored i) i.n k

-- ---- the same by the slices that `list_plain` and `list_shared` are lent

pub record HandedPlain (i : Input) (ls li us ui : List ℕ) : Type 0 where
  -- lower row k
  pub lower : (k : ℕ) → k < i.n → lookup Plain Lower (spot k) i.n (side_lists ls ls li) (side_lists us us ui) ≡ lower_row (stored i) k
  -- T(k)
  pub upper : (k : ℕ) → k < i.n → lookup Plain Upper (spot k) i.n (side_lists ls ls li) (side_lists us us ui) ≡ upper_row (stored i) i.n k

pub record HandedShared (i : Input) (ls lr li us ur ui : List ℕ) : Type 0 where
  -- lower column k
  pub lower : (k : ℕ) → k < i.n → lookup Shared Lower (spot k) i.n (side_lists ls lr li) (side_lists us ur ui) ≡ lower_column (stored i) i.n k
  -- T(k)
  pub upper : (k : ℕ) → k < i.n → lookup Shared Upper (spot k) i.n (side_lists ls lr li) (side_lists us ur ui) ≡ upper_row (stored i) i.n k
