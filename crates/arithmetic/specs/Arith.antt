-- The arithmetic of the elimination: "The arithmetic" and questions 12 and 13 of the paper, over IEEE 754's binary64 as lib.Ieee has it. Definitions only.
-- A step is a run: the results of its rounded operations and the pivots asked for, in the order listed, whatever they are, and what it comes to.
-- The answer is judged by the first of them that is bad.
use Rattle.std.specs.Prelude.{ℕ, zero, suc, Bool, true, false, not, cond, List, [], ◌∷◌, ◌++◌, get_or, set, replicate, pos, Float}
use Rattle.std.specs.Float.{nan, fin, binary64}
use Rattle.std.specs.Float.Ieee.{add, sub, mul, div}
use Rattle.std.specs.Float.Ieee.Scale.{finite}
use Rattle.base.specs.Lists.{nought, has, pairs}
use Rattle.base.specs.Magnitude.{at_most}

-- ---- runs

-- at place k: "a result is that of each rounded operation listed", and a pivot before it is divided by
pub data Event : Type 0 where
  result : ℕ → Float → Event
  pivoted : ℕ → Float → Event

pub record Run (A : Type 0) : Type 0 where
  pub events : List Event
  pub value : A

abbrev pub give : {A : Type 0} → A → Run A
give a = record { events = []; value = a }

infixl 20 ◌▸◌
-- a run, and then the run that goes on from its value
abbrev pub ◌▸◌ : {A B : Type 0} → Run A → (A → Run B) → Run B
◌▸◌ m f = record { events = m.events ++ (f m.value).events; value = (f m.value).value }

abbrev pub op : ℕ → Float → Run Float
op k v = record { events = result k v ∷ []; value = v }

abbrev pub asked : ℕ → Float → Run Float
asked k v = record { events = pivoted k v ∷ []; value = v }

-- ---- questions 12 and 13
pub data Fault : Type 0 where
  zero_pivot : ℕ → Fault
  overflow : ℕ → Fault

-- under the floor f: "a pivot is refused with 12 when its magnitude is at most f"
abbrev pub bad : Float → Event → Bool
bad f (result k v) = not (finite v)
bad f (pivoted k v) = at_most v f

abbrev pub fault : Event → Fault
fault (result k v) = overflow k
fault (pivoted k v) = zero_pivot k

-- a value, or the fault that the operations meet first
pub data Out (A : Type 0) : Type 0 where
  ok : A → Out A
  met : Fault → Out A

abbrev pub first_bad : {A : Type 0} → Float → List Event → A → Out A
first_bad f [] a = ok a
first_bad f (e ∷ es) a = cond (bad f e) (met (fault e)) (first_bad f es a)

-- "of 12 and 13, whichever the arithmetic meets first"
unfoldable pub judged : {A : Type 0} → Float → Run A → Out A
judged f m = first_bad f m.events m.value

-- ---- the structure and the values, by elimination place
pub record System : Type 0 where
  pub n : ℕ
  pub lower : ℕ → List ℕ  -- lower row k
  pub upper : ℕ → List ℕ  -- T(k)
  pub entries : ℕ → List (ℕ × Float)  -- row k of M'
  pub rhs : ℕ → Float  -- b(r(k))
  pub floor : Float  -- f, by which the pivots are judged

-- what is kept of row k: L along lower row k, u along T(k)
pub record Row : Type 0 where
  pub l : List Float
  pub d : Float
  pub y : Float
  pub u : List Float

abbrev pub none : Row
none = record { l = []; d = nought; y = nought; u = [] }

-- what step 2 and the back steps read of finished rows: T(i), u(i, j) along T(i), and y(i)
pub record Given : Type 0 where
  pub upper : ℕ → List ℕ
  pub u : ℕ → List Float
  pub y : ℕ → Float

abbrev pub given : System → List Row → Given
given S rows = record { upper = S.upper; u = λ i. (get_or rows i none).u; y = λ i. (get_or rows i none).y }

-- the multipliers so far, the working row and its sum
pub record Work : Type 0 where
  pub l : List Float
  pub w : List Float
  pub s : Float

-- ---- place k

-- v − a·b: "Multiply and subtract are two roundings"
abbrev pub less_run : ℕ → Float → Float → Float → Run Float
less_run k v a b = op k (mul binary64 a b) ▸ λ p. op k (sub binary64 v p)

-- a value at a place: the first there is taken as it is, each further one "added .., each addition rounded once"
abbrev pub enter_run : ℕ → Bool → Float → Float → Run Float
enter_run k false s v = give v
enter_run k true s v = op k (add binary64 s v)

-- "the entries of M'", over w, "in stored order"; `seen` are the places that have a value
unfoldable pub load_run : ℕ → List ℕ → List (ℕ × Float) → List Float → Run (List Float)
load_run k seen [] w = give w
load_run k seen (e ∷ es) w = enter_run k (has seen e.0) (get_or w e.0 nan) e.1 ▸ λ v. load_run k (e.0 ∷ seen) es (set w e.0 v)

-- "1. w = +0 at each filled position of row k, then the entries of M'. s = b(r(k))." The additions "belong to step 1 of place k and count among the listed operations"
unfoldable pub step1 : System → ℕ → Run Work
unfolding load_run
step1 S k = load_run k [] (S.entries k) (replicate S.n nought) ▸ λ w. give (record { l = []; w = w; s = S.rhs k })

-- "for j in T(i), ascending, w(j) = w(j) − m·u(i, j)": j and u(i, j)
unfoldable pub subtract_run : ℕ → Float → List (ℕ × Float) → List Float → Run (List Float)
subtract_run k m [] w = give w
subtract_run k m (e ∷ es) w = less_run k (get_or w e.0 nan) m e.1 ▸ λ v. subtract_run k m es (set w e.0 v)

-- "m = w(i), kept as L(k, i); s = s − m·y(i); for j in T(i) .."
unfoldable pub step_run : ℕ → Given → ℕ → Work → Run Work
unfolding subtract_run
step_run k G i a =
    let m = get_or a.w i nan in
    less_run k a.s m (G.y i) ▸ λ s.
    subtract_run k m (pairs (G.upper i) (G.u i)) a.w ▸ λ w.
    give (record { l = a.l ++ (m ∷ []); w = w; s = s })

-- "2. For i in lower row k, ascending: .."
unfoldable pub step2 : ℕ → Given → List ℕ → Work → Run Work
unfolding step_run
step2 k G [] a = give a
step2 k G (i ∷ is) a = step_run k G i a ▸ step2 k G is

-- "u(k, j) = w(j)·d(k), ascending"
unfoldable pub scaled_run : ℕ → Float → List Float → List ℕ → Run (List Float)
scaled_run k d w [] = give []
scaled_run k d w (j ∷ js) = op k (mul binary64 (get_or w j nan) d) ▸ λ u. scaled_run k d w js ▸ λ us. give (u ∷ us)

abbrev pub one : Float
one = fin false 1 (pos 0)

-- "3. Zero pivot if .. d(k) = 1 / w(k), y(k) = s·d(k), then u(k, j) ..": whether the pivot is refused, `bad` says
unfoldable pub step3 : ℕ → List ℕ → Work → Run Row
unfolding scaled_run
step3 k above a =
    asked k (get_or a.w k nan) ▸ λ p.
    op k (div binary64 one p) ▸ λ d.
    op k (mul binary64 a.s d) ▸ λ y.
    scaled_run k d a.w above ▸ λ u.
    give (record { l = a.l; d = d; y = y; u = u })

-- "Place k, in this order"
unfoldable pub row_run : System → List Row → ℕ → Run Row
unfolding step1 step2 step3
row_run S rows k = step1 S k ▸ λ a. step2 k (given S rows) (S.lower k) a ▸ step3 k (S.upper k)

-- places k, k + 1, .., as many as f
unfoldable pub forward_run : System → ℕ → ℕ → List Row → Run (List Row)
unfolding row_run
forward_run S zero k rows = give rows
forward_run S (suc f) k rows = row_run S rows k ▸ λ r. forward_run S f (suc k) (rows ++ (r ∷ []))

-- "t = t − u(k, j)·z(j)" for the listed j and u(k, j)
unfoldable pub rest_run : ℕ → Float → List (ℕ × Float) → List Float → Run Float
rest_run k t [] z = give t
rest_run k t (e ∷ es) z = less_run k t e.1 (get_or z e.0 nan) ▸ λ t. rest_run k t es z

-- "Back, from k = n − 1: t = y(k); for j in T(k), ascending, t = t − u(k, j)·z(j); z(k) = t": places k − 1, .., 0
unfoldable pub back_run : Given → ℕ → List Float → Run (List Float)
unfolding rest_run
back_run G zero z = give z
back_run G (suc k) z = rest_run k (G.y k) (pairs (G.upper k) (G.u k)) z ▸ λ t. back_run G k (set z k t)

-- the factors, row by row, and z: "x(c(k)) = t"
pub record Result : Type 0 where
  pub rows : List Row
  pub z : List Float

-- all listed operations, "in the order listed, back steps included"
unfoldable pub whole_run : System → Run Result
unfolding forward_run back_run
whole_run S =
    forward_run S S.n 0 [] ▸ λ rows.
    back_run (given S rows) S.n (replicate S.n nought) ▸ λ z.
    give (record { rows = rows; z = z })
