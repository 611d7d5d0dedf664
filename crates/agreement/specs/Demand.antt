-- Demand 3 in words, as types: what the three solves owe each other and the paper. Definitions only.
use Rattle.std.specs.Prelude.{◌≡◌, true, ◌⊎◌, ◌↔◌, List, ℕ, suc, ◌≤◌, ◌<◌, Err}
use Rattle.fill.specs.Fill.{Walk}
use Rattle.base.specs.All.{all}
use Rattle.base.specs.Answers.{number_of_answer, place_of_answer, counts_of, Pass, Answer}
use Rattle.arithmetic.specs.Arith.{Event, Fault, zero_pivot, overflow, Result, whole_run}
use Rattle.arithmetic.specs.Meets.{Meets}
use Rattle.matrix.specs.Input.{Input, stored, own_order}
use Rattle.outcome.specs.Forms.{index_need, value_need}
use Rattle.outcome.specs.Buffers.{Buffers, sizes, side_of, buffer_tests}
use Rattle.outcome.specs.Structure.{counts}
use Rattle.outcome.specs.Solve.{system, earlier}
use Rattle.base.specs.declared.Form.{Form}
use Rattle.base.specs.declared.Form.TheVariants.{Plain, Shared, ByRow}
use Rattle.base.specs.declared.Side.{Side}
use Rattle.base.specs.declared.Refusal.{Refusal}

-- "a walk back is one from k to k as under Fill"
abbrev pub WalkBack : Input → ℕ → Type 0
WalkBack i k = Walk (stored i) k k k

-- the first place with no walk back to itself
pub record FirstNull (i : Input) (k : ℕ) : Type 0 where
  pub below : k < i.n
  pub none : WalkBack i k → ⊥
  pub before : (j : ℕ) → j < k → WalkBack i j

-- every place has a walk back to itself
abbrev pub AllBack : Input → Type 0
AllBack i = (k : ℕ) → k < i.n → WalkBack i k

-- the listed operations: every rounded operation's result and every pivot asked for, each with its place, in the order listed, back steps included
unfoldable pub operations : Input → List Event
operations i = (whole_run (system i)).events

-- the factors and z that they come to
unfoldable pub result : Input → Result
result i = (whole_run (system i)).value

-- "all buffers besides matrix, orders and b are of the stated lengths, no store over its limit; store lengths may differ from form to form"
unfoldable pub Stated : Form → Input → Buffers → Type 0
Stated f i s = all (buffer_tests f i.n (sizes s)) ≡ true

-- "its lists of places 0 to k on a side, placed its way, need more slots than that side's index or value store has"
abbrev pub Lacks : Form → Input → Buffers → Side → ℕ → Type 0
Lacks f i s side k =
    ((side_of side (sizes s)).index < index_need f side (stored i) i.n (suc k))
    ⊎ ((side_of side (sizes s)).values < value_need f side (stored i) i.n (suc k))

-- "A form is short of slots exactly when the earlier questions are passed and, for some k with (0, 0) to (k, k) all filled, its lists .."
pub record Short (f : Form) (i : Input) (s : Buffers) : Type 0 where
  pub passed : earlier f i (sizes s) ≡ Pass
  pub k : ℕ
  pub below : k < i.n
  pub filled : (j : ℕ) → j ≤ k → WalkBack i j
  pub side : Side
  pub lacks : Lacks f i s side k

-- one thing for each form
abbrev pub by_form : {A : Type 0} → A → A → A → Form → A
by_form p s r Plain = p
by_form p s r Shared = s
by_form p s r ByRow = r

-- "none of the three short of slots": asked below of the forms at hand only
abbrev pub Roomy : Form → Input → Buffers → Type 0
Roomy f i s = Short f i s → ⊥

-- "the paper's earlier questions are passed"
abbrev pub Passed : Form → Input → Buffers → Type 0
Passed f i s = earlier f i (sizes s) ≡ Pass

-- Demand 3 of the answers a and the buffers t at exit, for one input i and the buffers s at entry
pub record FormsAgree (i : Input) (s : Form → Buffers) (a : Form → Answer) (t : Form → Buffers) : Type 0 where
  -- "the solves in the plain, shared and row-at-a-time forms .. answer alike: .. the same three counts, or the same refusal number at the same place"
  pub same_answer : (f g : Form) → Roomy f i (s f) → Roomy g i (s g) → a f ≡ a g
  -- "the same solution bits"
  pub same_bits : (f g : Form) → Roomy f i (s f) → Roomy g i (s g) → number_of_answer (a f) ≡ 0 → (t f).x ≡ (t g).x
  -- "x is untouched by every refusal": each x is that of its own entry
  pub untouched : (f : Form) → 1 ≤ number_of_answer (a f) → (t f).x ≡ (s f).x
  -- an earlier question that is answered no is the answer, short of slots or not; the forms put the same ones
  pub early : (f : Form) (q : Refusal) → earlier f i (sizes (s f)) ≡ Err q → a f ≡ Err q
  pub asked : (f g : Form) → earlier f i (sizes (s f)) ≡ earlier g i (sizes (s g))
  -- "Once the paper's earlier questions are passed, the answer is null pivot exactly when some place has no such walk back to itself,"
  pub null : (f : Form) → Roomy f i (s f) → Passed f i (s f) → (number_of_answer (a f) ≡ 9) ↔ ((k : ℕ) × (k < i.n) × (WalkBack i k → ⊥))
  -- "at the first such place;"
  pub null-first : (f : Form) → Roomy f i (s f) → Passed f i (s f) → number_of_answer (a f) ≡ 9 → FirstNull i (place_of_answer (a f))
  -- "failing that, zero pivot or overflow exactly when the listed operations meet one, whichever they meet first and at the place where they do;": "a pivot of magnitude at most f standing where it says zero pivot"
  pub zero : (f : Form) → Roomy f i (s f) → Passed f i (s f) → (k : ℕ) → ((number_of_answer (a f) ≡ 12) × (place_of_answer (a f) ≡ k)) ↔ (AllBack i × Meets i.floor (operations i) (zero_pivot k))
  pub over : (f : Form) → Roomy f i (s f) → Passed f i (s f) → (k : ℕ) → ((number_of_answer (a f) ≡ 13) × (place_of_answer (a f) ≡ k)) ↔ (AllBack i × Meets i.floor (operations i) (overflow k))
  -- "and failing that, a solution."
  pub solution : (f : Form) → Roomy f i (s f) → Passed f i (s f) → (number_of_answer (a f) ≡ 0) ↔ (AllBack i × ((q : Fault) → Meets i.floor (operations i) q → ⊥))
  -- "those of demand 2, with the same three counts, .. those the paper defines"
  pub bits : (f : Form) → number_of_answer (a f) ≡ 0 → (t f).x ≡ own_order i.c i.n (result i).z
  pub counted : (f : Form) → number_of_answer (a f) ≡ 0 → counts_of (a f) ≡ counts i
  -- "A form is short of slots exactly when ..": 10 or 11, of each form by itself
  pub short : (f : Form) → ((number_of_answer (a f) ≡ 10) ⊎ (number_of_answer (a f) ≡ 11)) ↔ Short f i (s f)
