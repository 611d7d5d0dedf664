-- What questions 1 and 2, then the others before 9, then 9 to 11 have settled for the rest of a call. Definitions only.
use Rattle.base.specs.Answers.{Pass, Asked}
use Rattle.std.specs.Prelude.{◌≡◌, List, [], ◌++◌, ℕ, ◌+◌, ◌*◌, ◌≤◌, length, Result, Ok, Err, ⊤}
use Rattle.base.specs.Limits.{max_rows, max_entries, max_slots}
use Rattle.matrix.specs.Input.{Input, input_of}
use Rattle.matrix.specs.Questions.{IsOrder, ask_structure, ask_solve}
use Rattle.base.specs.declared.SideSizes.{SideSizes}
use Rattle.base.specs.declared.Sizes.{Sizes}
use Rattle.outcome.specs.Buffers.{pattern_tests, structure_tests, ask_shape}
use Rattle.factor.specs.Factoring.{PlacedLists, Workspace, Factorable}
use Rattle.factor.specs.declared.Fault.{Fault}
use Rattle.factor.specs.declared.Fault.TheVariants.{Zero, Overflow}
use Rattle.base.specs.declared.Form.{Form}
use Rattle.base.specs.declared.Form.TheVariants.{Plain, Shared, ByRow}
use Rattle.base.specs.declared.Refusal.TheVariants as refusals
use Rattle.base.specs.declared.Refusal.TheVariants.{ZeroPivot}

-- ---- lengths

abbrev pub side_of : ℕ → ℕ → ℕ → ℕ → SideSizes
side_of starts runs index values = record { starts = starts; runs = runs; index = index; values = values }

abbrev pub sizes_of : SideSizes → SideSizes → ℕ → ℕ → ℕ → ℕ → Sizes
sizes_of l u d x w m = record { lower = l; upper = u; d = d; x = x; work = w; marks = m }

-- ---- questions 1 and 2 are passed

-- run starts, where the form has them
abbrev pub RunsFit : Form → ℕ → ℕ → Type 0
RunsFit Plain n runs = Unit {0}
RunsFit Shared n runs = runs ≡ n
RunsFit ByRow n runs = runs ≡ n

pub record SideFits (f : Form) (n : ℕ) (z : SideSizes) : Type 0 where
  pub starts : z.starts ≡ n + 1
  pub index : z.index ≤ max_slots
  pub values : z.values ≤ max_slots
  pub runs : RunsFit f n z.runs

-- the row form has no lower side
abbrev pub LowerFits : Form → ℕ → SideSizes → Type 0
LowerFits Plain n z = SideFits Plain n z
LowerFits Shared n z = SideFits Shared n z
LowerFits ByRow n z = Unit {0}

-- a structure call's 1 and 2
abbrev pub structure_shape : Form → Input → Sizes → Asked
structure_shape f i z = ask_shape i.n (pattern_tests i ++ structure_tests f i.n z)

pub record StructureShaped (f : Form) (i : Input) (z : Sizes) : Type 0 where
  pub some : 1 ≤ i.n
  pub few : i.n ≤ max_rows
  pub starts : length i.starts ≡ i.n + 1
  pub columns : length i.columns ≤ max_entries
  pub row-order : length i.r ≡ i.n
  pub column-order : length i.c ≡ i.n
  pub lower : LowerFits f i.n z.lower
  pub upper : SideFits f i.n z.upper
  pub work : z.work ≡ 3 * i.n
  pub marks : z.marks ≡ 8 * i.n + 8

-- the input as the structure pass takes it
abbrev pub pattern : Input → Input
pattern i = input_of i.n i.starts i.columns [] i.r i.c []

pub record SolveShaped (f : Form) (i : Input) (z : Sizes) : Type 0 where
  pub structure : StructureShaped f (pattern i) z
  pub values : length i.values ≡ length i.columns
  pub right : length i.b ≡ i.n
  pub reciprocals : z.d ≡ i.n
  pub solution : z.x ≡ i.n

-- ---- and the others before 9

pub record StructureDue (f : Form) (i : Input) (z : Sizes) : Type 0 where
  pub shaped : StructureShaped f i z
  pub passed : ask_structure i ≡ Pass

pub record SolveDue (f : Form) (i : Input) (z : Sizes) : Type 0 where
  pub shaped : SolveShaped f i z
  pub passed : ask_solve i ≡ Pass

-- ---- and 9 to 11, or 14: the lists stand in their stores

pub record FactorDue (f : Form) (i : Input) (l : PlacedLists) (w : Workspace) (x : ℕ) : Type 0 where
  pub ready : Factorable f i l w
  pub solution : x ≡ i.n

-- 12 and 13
abbrev pub fault_asked : Result ⊤ Fault → Asked
fault_asked (Ok t) = Pass
fault_asked (Err (Zero k)) = Err (ZeroPivot k)
fault_asked (Err (Overflow k)) = Err (refusals.Overflow k)

-- for x: z stands in scratch
pub record SolutionDue (n : ℕ) (c : List ℕ) (work x : ℕ) : Type 0 where
  pub few : n ≤ max_rows
  pub scratch : work ≡ 3 * n
  pub size : length c ≡ n
  pub to : x ≡ n
  pub order : IsOrder c n
