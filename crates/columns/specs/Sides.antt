-- M' by side: the rows of M' above the diagonal, its columns below. Definitions only.
use Rattle.std.specs.Prelude.{List, ◌≡◌, ℕ, ◌+◌, length}
use Rattle.base.specs.declared.Side.{Side}
use Rattle.base.specs.declared.Side.TheVariants.{Lower, Upper}
use Rattle.fill.specs.Fill.{Pattern, flip}
use Rattle.matrix.specs.Input.{Input}
use Rattle.lent.specs.Reading.{order_of}
use Rattle.questions.specs.Settled.{Structured}
use Rattle.marks.specs.Marks.{stamped}
use Rattle.columns.specs.Columns.{column, places_by_row, Given, Ready, Loaded}

-- "the same three steps with rows and columns exchanged": the pattern whose upper lists are the side's
abbrev pub side_pattern : Side → Pattern → Pattern
side_pattern Upper stored = stored
side_pattern Lower stored = flip stored

-- what a side loads at place k
abbrev pub side_row : Side → (ℕ → List ℕ) → ℕ → ℕ → List ℕ
side_row Upper R n k = R k
side_row Lower R n k = column R n k

-- what a side needs before place k: the upper side no columns
abbrev pub SideReady : Side → ℕ → ℕ → ℕ → (ℕ → List ℕ) → List ℕ → Type 0
SideReady Upper n k hi R s = Unit {0}
SideReady Lower n k hi R s = Ready n k hi R s

-- place k of a side was loaded; the window ended at hi₀ and ends at hi
abbrev pub SideLoaded : Side → ℕ → ℕ → ℕ → ℕ → ℕ → (ℕ → List ℕ) → List ℕ → List ℕ → Type 0
SideLoaded Upper n t k hi₀ hi R s₀ s = (s ≡ stamped n t s₀ (R k)) × (hi ≡ hi₀)
SideLoaded Lower n t k hi₀ hi R s₀ s = Loaded n t k hi R s₀ s

-- the places of the entries of the rows of M', by the inverse order in scratch
abbrev pub rows_in : Input → List ℕ → ℕ → List ℕ
rows_in i s = places_by_row (order_of i.n s) i.starts i.columns i.r

-- the rows of M' can be read
abbrev pub Readable : Input → List ℕ → Type 0
Readable i s = Given i.n i.starts i.columns i.r s

-- what question 2 settles of the starts and the row order, and 3, 4, 5 and 7
pub record Sound (i : Input) : Type 0 where
  pub starts-long : length i.starts ≡ i.n + 1
  pub order-long : length i.r ≡ i.n
  pub structured : Structured i
