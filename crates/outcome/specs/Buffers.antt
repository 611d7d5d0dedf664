-- The buffers that the calls write, their lengths, and questions 1 and 2. Definitions only.
-- A call that is not lent a buffer has [] for it: the plain form has no run starts, the row form no lower side, the structure call no d and no x.
use Rattle.std.specs.Prelude.{Bool, List, [], ◌∷◌, ◌++◌, ℕ, ◌+◌, ◌*◌, length, replicate, leb, eqb, Float, Ok, Err}
use Rattle.base.specs.Lists.{nought}
use Rattle.base.specs.All.{all}
use Rattle.base.specs.Answers.{holds, and_then, Asked}
use Rattle.base.specs.Limits.{max_entries, max_slots, rows_within}
use Rattle.matrix.specs.Input.{Input}
use Rattle.base.specs.declared.Form.{Form}
use Rattle.base.specs.declared.Form.TheVariants.{Plain, Shared, ByRow}
use Rattle.base.specs.declared.Side.{Side}
use Rattle.base.specs.declared.Side.TheVariants.{Lower, Upper}
use Rattle.base.specs.declared.SideSizes.{SideSizes}
use Rattle.base.specs.declared.Sizes.{Sizes}
use Rattle.base.specs.declared.Refusal.{Refusal}
use Rattle.base.specs.declared.Refusal.TheVariants.{Rows, Lengths}

-- "Lower and upper each have list starts (n + 1 slots), an index store and a value store; the shared form has n run starts besides for each"
pub record SideBuffers : Type 0 where
  pub starts : List ℕ
  pub runs : List ℕ
  pub index : List ℕ
  pub values : List Float

-- the scratch is `work` (binary64) and `marks` (32-bit)
pub record Buffers : Type 0 where
  pub lower : SideBuffers
  pub upper : SideBuffers
  pub d : List Float
  pub x : List Float
  pub work : List Float
  pub marks : List ℕ

abbrev pub side_sizes : SideBuffers → SideSizes
side_sizes s = record { starts = length s.starts; runs = length s.runs; index = length s.index; values = length s.values }

abbrev pub sizes : Buffers → Sizes
sizes s =
    record {
      lower = side_sizes s.lower;
      upper = side_sizes s.upper;
      d = length s.d;
      x = length s.x;
      work = length s.work;
      marks = length s.marks;
    }

abbrev pub side_of : Side → Sizes → SideSizes
side_of Lower z = z.lower
side_of Upper z = z.upper

abbrev pub buffers_of : Side → Buffers → SideBuffers
buffers_of Lower s = s.lower
buffers_of Upper s = s.upper

-- ---- the buffers as each call is lent them

abbrev pub side_buffers : List ℕ → List ℕ → List ℕ → List Float → SideBuffers
side_buffers starts runs index values = record { starts = starts; runs = runs; index = index; values = values }

abbrev pub no_side : SideBuffers
no_side = side_buffers [] [] [] []

abbrev pub all_buffers : SideBuffers → SideBuffers → List Float → List Float → List Float → List ℕ → Buffers
all_buffers l u d x w m = record { lower = l; upper = u; d = d; x = x; work = w; marks = m }

abbrev pub plain_buffers : List ℕ → List ℕ → List Float → List ℕ → List ℕ → List Float → List Float → List Float → List Float → List ℕ → Buffers
plain_buffers ls li lv us ui uv d x w m = all_buffers (side_buffers ls [] li lv) (side_buffers us [] ui uv) d x w m

abbrev pub shared_buffers : List ℕ → List ℕ → List ℕ → List Float → List ℕ → List ℕ → List ℕ → List Float → List Float → List Float → List Float → List ℕ → Buffers
shared_buffers ls lr li lv us ur ui uv d x w m = all_buffers (side_buffers ls lr li lv) (side_buffers us ur ui uv) d x w m

abbrev pub row_buffers : List ℕ → List ℕ → List ℕ → List Float → List Float → List Float → List Float → List ℕ → Buffers
row_buffers us ur ui uv d x w m = all_buffers no_side (side_buffers us ur ui uv) d x w m

-- ---- question 2, "Are all lent lengths as stated, e and stores at most their limits?"

abbrev pub order_tests : Input → List Bool
order_tests i = eqb (length i.r) i.n ∷ eqb (length i.c) i.n ∷ []

abbrev pub pattern_tests : Input → List Bool
pattern_tests i = eqb (length i.starts) (i.n + 1) ∷ leb (length i.columns) max_entries ∷ order_tests i

abbrev pub number_tests : Input → List Bool
number_tests i = eqb (length i.values) (length i.columns) ∷ eqb (length i.b) i.n ∷ []

abbrev pub matrix_tests : Input → List Bool
matrix_tests i = pattern_tests i ++ number_tests i

-- another right side is lent r, c and b only
abbrev pub right_tests : Input → List Bool
right_tests i = order_tests i ++ (eqb (length i.b) i.n ∷ [])

-- "the shared form has n run starts besides": the plain form none
abbrev pub run_tests : Form → ℕ → SideSizes → List Bool
run_tests Plain n z = []
run_tests Shared n z = eqb z.runs n ∷ []
run_tests ByRow n z = eqb z.runs n ∷ []

abbrev pub side_tests : Form → ℕ → SideSizes → List Bool
side_tests f n z = eqb z.starts (n + 1) ∷ leb z.index max_slots ∷ leb z.values max_slots ∷ run_tests f n z

-- "The row form is lent the shared form's upper side and d": no lower side
abbrev pub lower_tests : Form → ℕ → SideSizes → List Bool
lower_tests Plain n z = side_tests Plain n z
lower_tests Shared n z = side_tests Shared n z
lower_tests ByRow n z = []

abbrev pub list_tests : Form → ℕ → Sizes → List Bool
list_tests f n z = lower_tests f n z.lower ++ side_tests f n z.upper

abbrev pub vector_tests : ℕ → Sizes → List Bool
vector_tests n z = eqb z.d n ∷ eqb z.x n ∷ []

-- "Scratch: 3n binary64 and 8n + 8 32-bit slots"
abbrev pub scratch_tests : ℕ → Sizes → List Bool
scratch_tests n z = eqb z.work (3 * n) ∷ eqb z.marks (8 * n + 8) ∷ []

-- the structure call: "both sides and no d"
abbrev pub structure_tests : Form → ℕ → Sizes → List Bool
structure_tests f n z = list_tests f n z ++ scratch_tests n z

-- solve, refactor and another right side
abbrev pub buffer_tests : Form → ℕ → Sizes → List Bool
buffer_tests f n z = list_tests f n z ++ vector_tests n z ++ scratch_tests n z

-- questions 1 and 2
unfoldable pub ask_shape : ℕ → List Bool → Asked
ask_shape n tests = and_then (holds (rows_within n) Rows) (holds (all tests) Lengths)

-- ---- what the refusals leave

-- "scratch is zero and all else untouched"
unfoldable pub scratch_cleared : Buffers → Buffers
scratch_cleared s = all_buffers s.lower s.upper s.d s.x (replicate (length s.work) nought) (replicate (length s.marks) 0)

unfoldable pub side_cleared : SideSizes → SideBuffers
side_cleared z = side_buffers (replicate z.starts 0) (replicate z.runs 0) (replicate z.index 0) (replicate z.values nought)

-- "scratch is zero and so is every other buffer but x"
unfoldable pub cleared : Sizes → List Float → Buffers
cleared z x = all_buffers (side_cleared z.lower) (side_cleared z.upper) (replicate z.d nought) x (replicate z.work nought) (replicate z.marks 0)

-- ---- the end of a call: an answer, and what the buffers then hold

pub record Outcome (A : Type 0) : Type 0 where
  pub answer : A
  pub buffers : Buffers

abbrev pub ended : {A : Type 0} → A → Buffers → Outcome A
ended a s = record { answer = a; buffers = s }

-- questions, and what follows where they are passed
abbrev pub stop : {A : Type 0} → (Refusal → A) → Asked → Buffers → Outcome A → Outcome A
stop refuse (Err q) s rest = ended (refuse q) s
stop refuse (Ok _) s rest = rest
