-- The stages of another right side: what each asks for, and what it leaves. Definitions only.
use Rattle.base.specs.Answers.{Pass, Asked}
use Rattle.std.specs.Prelude.{◌≡◌, List, ◌++◌, ℕ, ◌+◌, ◌*◌, ◌≤◌, length, Float, Ok, Err}
use Rattle.base.specs.Limits.{max_rows}
use Rattle.base.specs.declared.Form.{Form}
use Rattle.base.specs.declared.Sizes.{Sizes}
use Rattle.matrix.specs.Input.{Input, own_order}
use Rattle.matrix.specs.Questions.{ask_right}
use Rattle.arithmetic.specs.Arith.{Out, ok, met}
use Rattle.arithmetic.specs.Stopping.{solved_again}
use Rattle.outcome.specs.Buffers.{SideBuffers, right_tests, buffer_tests, ask_shape}
use Rattle.outcome.specs.Solve.{fault_of}
use Rattle.outcome.specs.Resolve.{ask_factors, factors_of}
use Rattle.factors.specs.Presented.{FactorsLent, presented}
use Rattle.stages.specs.Shaped.{SideFits, LowerFits}
use Rattle.stages.specs.Asking.{Asking}

-- ---- questions 1, 2, 5 and 6

abbrev pub again_shape : Form → Input → Sizes → Asked
again_shape f i z = ask_shape i.n (right_tests i ++ buffer_tests f i.n z)

-- 1 and 2 are passed
pub record AgainShaped (f : Form) (i : Input) (z : Sizes) : Type 0 where
  pub few : i.n ≤ max_rows
  pub row-order : length i.r ≡ i.n
  pub column-order : length i.c ≡ i.n
  pub right : length i.b ≡ i.n
  pub lower : LowerFits f i.n z.lower
  pub upper : SideFits f i.n z.upper
  pub reciprocals : z.d ≡ i.n
  pub solution : z.x ≡ i.n
  pub work : z.work ≡ 3 * i.n
  pub marks : z.marks ≡ 8 * i.n + 8

-- and 5 and 6
pub record AgainDue (f : Form) (i : Input) (z : Sizes) : Type 0 where
  pub shaped : AgainShaped f i z
  pub passed : ask_right i.n i.r i.c i.b ≡ Pass

abbrev pub AgainAsking : Form → Input → Sizes → List Float → List ℕ → List Float → List ℕ → Asked → Type 0
AgainAsking f i z w m v t a = Asking (again_shape f i z) (ask_right i.n i.r i.c i.b) (AgainDue f i z) w m v t a

-- ---- questions 15 and 13, and x

-- the lengths of d, x and scratch besides what is lent
pub record AgainReady (f : Form) (i : Input) (ls lr us ur : List ℕ) (d x work : ℕ) : Type 0 where
  pub lent : FactorsLent f i.n ls lr us ur d
  pub row-order : length i.r ≡ i.n
  pub column-order : length i.c ≡ i.n
  pub right : length i.b ≡ i.n
  pub solution : x ≡ i.n
  pub scratch : work ≡ 3 * i.n
  pub passed : ask_right i.n i.r i.c i.b ≡ Pass

-- where 15 answers the first and the arithmetic comes to the second: the answer a, and x' over x
abbrev pub Settles : Input → List Float → Asked → Out (List Float) → Asked → List Float → Type 0
Settles i x (Err q) o a x' = (a ≡ Err q) × (x' ≡ x)
Settles i x (Ok _) (met q) a x' = (a ≡ Err (fault_of q)) × (x' ≡ x)
Settles i x (Ok _) (ok z) a x' = (a ≡ Pass) × (x' ≡ own_order i.c i.n z)

abbrev pub Again : Form → Input → SideBuffers → SideBuffers → List Float → List Float → Asked → List Float → Type 0
Again f i l u d x a x' = Settles i x (ask_factors f i.n (presented l u d)) (solved_again (factors_of f i (presented l u d))) a x'
