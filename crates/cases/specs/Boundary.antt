-- The graphs marked P, as one property. Definitions only.
use Rattle.std.specs.Prelude.{◌≡◌, true, List, [], map, ℕ, suc, ◌+◌, ◌-◌, ◌≤◌, ◌<◌, length, get_or, Float, Ok, Err}
use Rattle.base.specs.Lists.{list_at}
use Rattle.base.specs.Limits.{max_rows, max_entries}
use Rattle.base.specs.Answers.{number_of_answer, left, Pass}
use Rattle.matrix.specs.Input.{Input}
use Rattle.matrix.specs.Shape.{shape_of}
use Rattle.blocks.specs.Blocks.{ask_blocks}
use Rattle.matrix.specs.Lists.{MatrixLists}
use Rattle.matrix_file.specs.MatrixFile.{n_of, opened, read_outcome, write_outcome, matrix_at, written}
use Rattle.matrix_file.specs.Example.{example_file}
use Rattle.factor_contents.specs.FactorFile as factors
use Rattle.lookup.specs.Lookup as lookup
use Rattle.load.specs.Load.{load_outcome}
use Rattle.fill_sheet.specs.FillSheet.{SheetBuffers, sheet_outcome}
use Rattle.residual.specs.Answer.{number_of_checked, checked}
use Rattle.residual.specs.declared.Checked.TheVariants as pairs
use Rattle.outcome.specs.Buffers.{Buffers, ended}
use Rattle.outcome.specs.Structure.{structure}
use Rattle.outcome.specs.Solve.{solve}
use Rattle.outcome.specs.Refactor.{refactor}
use Rattle.outcome.specs.Resolve.{resolve}
use Rattle.cases.specs.Table.{Case, outcome_of, two, boundary}
use Rattle.base.specs.declared.Form.{Form}
use Rattle.base.specs.declared.Counts.{Counts}
use Rattle.base.specs.declared.Side.{Side}
use Rattle.base.specs.declared.Place.{Place}
use Rattle.base.specs.declared.OwnNumber.{OwnNumber}
use Rattle.base.specs.declared.Refusal.TheVariants.{Rows}

-- every call refuses this n with 1 and writes nothing, whatever else it is lent
pub record Refuses (n : ℕ) : Type 0 where
  pub structures : (f : Form) (i : Input) (s : Buffers) → i.n ≡ n → structure f i s ≡ ended (Err Rows) s
  pub solves : (f : Form) (i : Input) (s : Buffers) → i.n ≡ n → solve f i s ≡ ended (Err Rows) s
  pub refactors : (f : Form) (i : Input) (s : Buffers) → i.n ≡ n → refactor f i s ≡ ended (Err Rows) s
  pub resolves : (f : Form) (i : Input) (s : Buffers) → i.n ≡ n → resolve f i s ≡ ended (Err Rows) s
  pub makes : (e : ℕ) → shape_of n e ≡ Err Rows
  -- of a file, once 16 and 17 are passed
  pub opens : (file : List ℕ) → ask_blocks file ≡ Pass → n_of file ≡ n → opened file ≡ Err Rows
  pub reads : (file : List ℕ) (l : MatrixLists) → ask_blocks file ≡ Pass → n_of file ≡ n → read_outcome file l ≡ left (Err Rows) l
  pub writes : (i : Input) (file : List ℕ) → i.n ≡ n → write_outcome i file ≡ left (Err Rows) file
  pub finds-factors : (file : List ℕ) → ask_blocks file ≡ Pass → factors.n_of file ≡ n → factors.opened file ≡ Err Rows
  pub reads-factors : (file : List ℕ) (l : factors.FactorLists) → ask_blocks file ≡ Pass → factors.n_of file ≡ n → factors.read_outcome file l ≡ left (Err Rows) l
  pub writes-factors : (k : Counts) (l : factors.FactorLists) (file : List ℕ) → factors.write_outcome n k l file ≡ left (Err Rows) file
  pub loads : (s : ℕ) (l : MatrixLists) → load_outcome n s l ≡ left (Err Rows) l
  pub sheets : (i : Input) (s : SheetBuffers) → i.n ≡ n → sheet_outcome i s ≡ left (Err Rows) s
  pub checks : (i : Input) (x : List Float) (k : OwnNumber) → i.n ≡ n → checked i x k ≡ pairs.Refused 1 0
  -- "the empty part at that store's start"
  pub looks : (f : Form) (side : Side) (k : Place) (l u : lookup.SideLists) → (lookup.span_in f side k n l u ≡ lookup.span_from 0 0) × (lookup.lookup f side k n l u ≡ [])

-- no call refuses this n with 1
pub record Passes (n : ℕ) : Type 0 where
  pub structures : (f : Form) (i : Input) (s : Buffers) → i.n ≡ n → number_of_answer (structure f i s).answer ≡ 1 → ⊥
  pub solves : (f : Form) (i : Input) (s : Buffers) → i.n ≡ n → number_of_answer (solve f i s).answer ≡ 1 → ⊥
  pub refactors : (f : Form) (i : Input) (s : Buffers) → i.n ≡ n → number_of_answer (refactor f i s).answer ≡ 1 → ⊥
  pub resolves : (f : Form) (i : Input) (s : Buffers) → i.n ≡ n → number_of_answer (resolve f i s).answer ≡ 1 → ⊥
  pub makes : (e : ℕ) → e ≤ max_entries → shape_of n e ≡ Ok (record { rows = n; entries = e })
  pub opens : (file : List ℕ) → n_of file ≡ n → opened file ≡ Err Rows → ⊥
  pub reads : (file : List ℕ) (l : MatrixLists) → n_of file ≡ n → number_of_answer (read_outcome file l).answer ≡ 1 → ⊥
  pub writes : (i : Input) (file : List ℕ) → i.n ≡ n → number_of_answer (write_outcome i file).answer ≡ 1 → ⊥
  pub finds-factors : (file : List ℕ) → factors.n_of file ≡ n → number_of_answer (factors.opened file) ≡ 1 → ⊥
  pub reads-factors : (file : List ℕ) (l : factors.FactorLists) → factors.n_of file ≡ n → number_of_answer (factors.read_outcome file l).answer ≡ 1 → ⊥
  pub writes-factors : (k : Counts) (l : factors.FactorLists) (file : List ℕ) → number_of_answer (factors.write_outcome n k l file).answer ≡ 1 → ⊥
  pub loads : (s : ℕ) (l : MatrixLists) → number_of_answer (load_outcome n s l).answer ≡ 1 → ⊥
  pub sheets : (i : Input) (s : SheetBuffers) → i.n ≡ n → number_of_answer (sheet_outcome i s).answer ≡ 1 → ⊥
  pub checks : (i : Input) (x : List Float) (k : OwnNumber) → i.n ≡ n → number_of_checked (checked i x k) ≡ 1 → ⊥
  -- with fitting lengths, a list within its store is handed back
  pub looks : (f : Form) (side : Side) (k : Place) (l u : lookup.SideLists) → lookup.sized f n l ≡ true → lookup.sized f n u ≡ true
      → k.0 < n → (o : lookup.SideLists) → o ≡ lookup.of_side side l u → get_or o.starts k.0 0 ≤ get_or o.starts (k.0 + 1) 0
      → get_or o.runs k.0 0 + (get_or o.starts (k.0 + 1) 0 - get_or o.starts k.0 0) ≤ length o.index
      → lookup.lookup f side k n l u ≡ list_at o.starts o.runs o.index k.0

pub record Boundary : Type 0 where
  -- every entry of the table comes out as expected, over buffers that held anything
  pub graphs : map outcome_of boundary ≡ map (λ (c : Case). c.expected) boundary
  -- "P the file above": its 512 bytes open, hold the table's first matrix, and are what that is written as. What the program prints for them: program/proofs/Example
  pub opens : opened example_file ≡ Ok (record { rows = 2; entries = 4 })
  pub holds : matrix_at example_file ≡ two
  pub writes : written two ≡ example_file
  -- "P n = 0 and 4,097: 1; 4,096 passes."
  pub none : Refuses 0
  pub over : Refuses (suc max_rows)
  pub most : Passes max_rows
