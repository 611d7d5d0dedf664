-- The three forms: which lists a form keeps on a side, how it places them, and the slots that they need. Definitions only.
use Rattle.std.specs.Prelude.{ℕ, List, [], length}
use Rattle.fill.specs.Fill.{Pattern, upper_row, lower_row, flip}
use Rattle.placement.specs.Placing.{Way, plain, shared, State, placed, start_of}
use Rattle.base.specs.declared.Form.{Form}
use Rattle.base.specs.declared.Form.TheVariants.{Plain, Shared, ByRow}
use Rattle.base.specs.declared.Side.{Side}
use Rattle.base.specs.declared.Side.TheVariants.{Lower, Upper}

-- how a form places its lists: "The row form places T(k) as the shared form does"
abbrev pub way_of : Form → Way
way_of Plain = plain
way_of Shared = shared
way_of ByRow = shared

-- the lists that a form keeps on a side: T(k); below, row k in the plain form, column k (the T(k) of M' with rows and columns exchanged) in the shared form, and none in the row form
abbrev pub lists_of : Form → Side → Pattern → ℕ → ℕ → List ℕ
lists_of f Upper P n = upper_row P n
lists_of Plain Lower P n = lower_row P
lists_of Shared Lower P n = upper_row (flip P) n
lists_of ByRow Lower P n = λ k. []

-- the lower row k of step 2, with rows and columns exchanged below
abbrev pub rows_of : Side → Pattern → ℕ → List ℕ
rows_of Upper P = lower_row P
rows_of Lower P = lower_row (flip P)

-- the lists of places 0 to k - 1, placed the form's way
unfoldable pub placed_to : Form → Side → Pattern → ℕ → ℕ → State
placed_to f side P n k = placed (way_of f) (lists_of f side P n) (rows_of side P) k

-- the slots that they need of the index store and of the value store
unfoldable pub index_need : Form → Side → Pattern → ℕ → ℕ → ℕ
index_need f side P n k = length (placed_to f side P n k).slots

unfoldable pub value_need : Form → Side → Pattern → ℕ → ℕ → ℕ
value_need f side P n k = start_of (lists_of f side P n) k
