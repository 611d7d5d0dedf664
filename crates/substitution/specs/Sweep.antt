-- Forward substitution place by place: what each step asks for and leaves. A side's `runs` are the run starts as lent. Definitions only.
use Rattle.std.specs.Prelude.{◌≡◌, Bool, true, false, List, [], ℕ, ◌+◌, ◌-◌, ◌*◌, ◌<◌, ◌≤◌, length, get_or, take, drop, replicate, Float, Result, Ok, Err, ⊤}
use Rattle.std.specs.Float.{nan}
use Rattle.std.specs.Float.Ieee.Scale.{finite}
use Rattle.base.specs.Lists.{list_at, row_of, nought}
use Rattle.base.specs.Limits.{max_rows}
use Rattle.base.specs.Scratch.{z_from}
use Rattle.base.specs.declared.Form.{Form}
use Rattle.base.specs.declared.Form.TheVariants.{Plain, Shared, ByRow}
use Rattle.base.specs.declared.Side.TheVariants.{Lower}
use Rattle.lent.specs.Reading.{Below}
use Rattle.arithmetic.specs.Arith.{Out, ok, met, overflow}
use Rattle.arithmetic.specs.Again.{Factors}
use Rattle.arithmetic.specs.Stopping.{any, rest, subtract, again}
use Rattle.numeric.specs.Stores.{StoreShape}
use Rattle.numeric.specs.Right.{Summed}
use Rattle.base.specs.Answers.{spot, Pass, Asked}
use Rattle.base.specs.declared.Refusal.TheVariants.{Overflow}
use Rattle.outcome.specs.Buffers.{SideBuffers}
use Rattle.outcome.specs.Solve.{fault_of}
use Rattle.outcome.specs.Resolve.{given_lower}
use Rattle.factors.specs.Presented.{RunsLent, Sound}

-- ---- what is asked

-- b(r(k)) can be read
pub record RightLent (n : ℕ) (r : List ℕ) (right : ℕ) : Type 0 where
  pub few : n ≤ max_rows
  pub row-order : length r ≡ n
  pub rows : Below right r

-- the lists stand as question 15 wants them; d and scratch are as long as stated
pub record Ready (f : Form) (n : ℕ) (starts runs index : List ℕ) (values d work : ℕ) : Type 0 where
  pub few : n ≤ max_rows
  pub sound : Sound f Lower n starts runs index values
  pub reciprocals : d ≡ n
  pub scratch : work ≡ 3 * n

-- all that the substitution reads, as the questions leave it
pub record Solvable (f : Form) (n : ℕ) (r : List ℕ) (b : List Float) (l u : SideBuffers) (d work : ℕ) : Type 0 where
  pub ready : Ready f n l.starts l.runs l.index (length l.values) d work
  pub lower-runs : RunsLent f l.starts l.runs
  pub upper-runs : RunsLent f u.starts u.runs
  pub upper : StoreShape n u.starts u.runs u.index (length u.values)
  pub right : RightLent n r (length b)
  pub fine : (p : ℕ) → p < length b → finite (get_or b p nan) ≡ true

-- ---- a list of a side as lent, and its values

abbrev pub list_of : SideBuffers → ℕ → List ℕ
list_of b k = list_at b.starts b.runs b.index k

abbrev pub values_of : SideBuffers → ℕ → List Float
values_of b k = row_of b.starts b.values k

-- ---- steps at place k: scratch w

-- whether L stands by columns
abbrev pub by_columns : Form → Bool
by_columns Plain = false
by_columns Shared = true
by_columns ByRow = true

-- the sum, with no test of its results
abbrev pub SumAt : Form → ℕ → ℕ → SideBuffers → List Float → Float → Type 0
SumAt Plain n k b w s = rest any (get_or w k nan) (list_of b k) (values_of b k) (drop n w) ≡ ok s
SumAt Shared n k b w s = s ≡ get_or w k nan
SumAt ByRow n k b w s = s ≡ get_or w k nan

-- column k times y is subtracted from the sums of w, which leaves v
pub record ColumnSpread (n k : ℕ) (b : SideBuffers) (y : Float) (w v : List Float) : Type 0 where
  pub kept : drop n v ≡ drop n w
  pub column : subtract any y (list_of b k) (values_of b k) (take n w) ≡ ok (take n v)

abbrev pub Spread : Form → ℕ → ℕ → SideBuffers → Float → List Float → List Float → Type 0
Spread Plain n k b y w v = v ≡ w
Spread Shared n k b y w v = ColumnSpread n k b y w v
Spread ByRow n k b y w v = ColumnSpread n k b y w v

-- ---- the sweep before place k

-- F has the lower side b and the reciprocals d, and a finite right side
pub record Tied (f : Form) (n : ℕ) (F : Factors) (b : SideBuffers) (d : List Float) : Type 0 where
  pub lower-is : (k : ℕ) → F.lower k ≡ given_lower f b k
  pub runs-are : RunsLent f b.starts b.runs
  pub d-is : (k : ℕ) → F.d k ≡ get_or d k nan
  pub fine : (k : ℕ) → k < n → finite (F.rhs k) ≡ true

-- the sums: as the right side gives them, or less the columns before k
abbrev pub Sums : Form → ℕ → Factors → SideBuffers → ℕ → List Float → Type 0
Sums Plain n F b k w = (j : ℕ) → j < n → get_or w j nan ≡ F.rhs j
Sums Shared n F b k w = Summed (list_of b) (values_of b) F.rhs (drop n w) n k (take n w)
Sums ByRow n F b k w = Summed (list_of b) (values_of b) F.rhs (drop n w) n k (take n w)

-- y(0) to y(k - 1) stand in their slots, finite: what is left comes to the same as the whole
pub record Sweep (f : Form) (n : ℕ) (F : Factors) (b : SideBuffers) (k : ℕ) (w : List Float) : Type 0 where
  pub left : again F (n - k) k (take k (drop n w)) ≡ again F n 0 []
  pub fine : (j : ℕ) → j < k → finite (get_or w (n + j) nan) ≡ true
  pub sums : Sums f n F b k w
  pub zeros : drop (z_from n) w ≡ replicate n nought

-- place k is done, or its results are not all finite
abbrev pub RowSwept : Form → ℕ → Factors → SideBuffers → ℕ → Bool → List Float → Type 0
RowSwept f n F b k true w = Sweep f n F b (k + 1) w
RowSwept f n F b k false w = again F n 0 [] ≡ met (overflow k)

abbrev pub Swept : Form → ℕ → Factors → SideBuffers → Result ⊤ ℕ → List Float → Type 0
Swept f n F b (Ok t) w = Sweep f n F b n w
Swept f n F b (Err k) w = (k < n) × (again F n 0 [] ≡ met (overflow k))

-- a stop names a place below n
abbrev pub StoppedBelow : ℕ → Result ⊤ ℕ → Type 0
StoppedBelow n (Ok t) = Unit {0}
StoppedBelow n (Err k) = k < n

-- ---- question 13

abbrev pub back_asked : Result ⊤ ℕ → Asked
back_asked (Ok t) = Pass
back_asked (Err k) = Err (Overflow (spot k))

-- the answer a to 13, and z where it passes, if the arithmetic comes to o
abbrev pub Solved : Out (List Float) → Asked → List Float → Type 0
Solved (ok y) a z = (a ≡ Pass) × (z ≡ y)
Solved (met q) a z = a ≡ Err (fault_of q)
