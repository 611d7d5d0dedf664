-- Row k of a system, and the rows above it, as the stores hold them. Definitions only.
use Rattle.std.specs.Prelude.{◌≡◌, Bool, true, false, cond, List, [], ◌∷◌, ◌++◌, map, ℕ, zero, suc, ◌+◌, ◌-◌, ◌<◌, length, get_or, take, drop, set, replicate, eqb, Result, Ok, Float}
use Rattle.std.proofs.lemmas.List.Edits.{sets}
use Rattle.std.specs.Float.{nan}
use Rattle.std.specs.Float.Ieee.Scale.{finite}
use Rattle.base.specs.Lists.{list_at, row_of, has, count, pairs, nought}
use Rattle.base.specs.declared.RowSums.{RowSums}
use Rattle.arithmetic.specs.Arith.{ok, System, Row, none}
use Rattle.arithmetic.specs.Stopping.{row, forward}
use Rattle.numeric.specs.Stores.{Ascending, numbered, gathered, zeroed}
use Rattle.numeric.specs.declared.RowFault.{RowFault}
use Rattle.base.specs.Scratch.{z_from}

-- the filled places of row k
abbrev pub filled_row : System → ℕ → List ℕ
filled_row S k = S.lower k ++ k ∷ S.upper k

-- what the fill gives of row k: its lists are on their sides of the diagonal, and what step 2 writes is filled
pub record Closed (S : System) (k : ℕ) : Type 0 where
  pub ascending : Ascending (S.lower k)
  pub left : (i : ℕ) → has (S.lower k) i ≡ true → i < k
  pub right : (i j : ℕ) → has (S.lower k) i ≡ true → has (S.upper i) j ≡ true → i < j
  pub range : (j : ℕ) → has (S.upper k) j ≡ true → j < S.n
  pub within : (i j : ℕ) → has (S.lower k) i ≡ true → has (S.upper i) j ≡ true → has (filled_row S k) j ≡ true

-- row k as it is lent: its entries, finite, at filled places, its right side, the floor, and its lower row
pub record RowLent (S : System) (k : ℕ) (lower places : List ℕ) (values : List Float) (b floor : Float) : Type 0 where
  pub entries : S.entries k ≡ pairs places values
  pub right : S.rhs k ≡ b
  pub under : S.floor ≡ floor
  pub below : S.lower k ≡ lower
  pub filled : (p : ℕ) → p < length places → has (filled_row S k) (get_or places p 0) ≡ true
  pub sum : finite b ≡ true
  pub fine : (p : ℕ) → p < length values → finite (get_or values p nan) ≡ true

-- lists 0 to k - 1 one after another in a store, and zeros behind them
pub record Stacked {A : Type 0} (z : A) (lists : ℕ → List A) (k : ℕ) (starts : List ℕ) (v : List A) : Type 0 where
  pub each : (i : ℕ) → i < k → row_of starts v i ≡ lists i
  pub rest : drop (get_or starts k 0) v ≡ replicate (length v - get_or starts k 0) z

abbrev pub u_of : List Row → ℕ → List Float
u_of rows i = (get_or rows i none).u

abbrev pub l_of : List Row → ℕ → List Float
l_of rows i = (get_or rows i none).l

-- the stores before row k: the rows above are done, their u and y stand in their slots, the working row and z are +0
pub record RowsHeld (S : System) (rows : List Row) (n k : ℕ) (f : List Float) (starts runs upper : List ℕ) (u : List Float) : Type 0 where
  pub size : S.n ≡ n
  pub lists : (i : ℕ) → i < n → S.upper i ≡ list_at starts runs upper i
  pub done : forward S k 0 [] ≡ ok rows
  pub us : Stacked nought (u_of rows) k starts u
  pub ys : take k (drop n f) ≡ map (λ r. r.y) rows
  pub clear : take n f ≡ replicate n nought
  pub zs : drop (z_from n) f ≡ replicate n nought

-- the working row holds +0 but at the filled places of row k
abbrev pub ZeroOutside : System → ℕ → ℕ → List Float → Type 0
ZeroOutside S n k g = (j : ℕ) → j < n → has (filled_row S k) j ≡ false → get_or g j nan ≡ nought

-- what steps 1 to 3 leave: the row's answer, with its multipliers in the working row and its u in their slots; nothing else is written
pub record Reduced (S : System) (rows : List Row) (n k : ℕ) (starts : List ℕ) (f g u v : List Float) (r : Result RowSums RowFault) : Type 0 where
  pub answer : numbered k (gathered (S.lower k) (take n g)) (row_of starts v k) r ≡ row S rows k
  pub kept : drop n g ≡ drop n f
  pub stored : (t : RowSums) → r ≡ Ok t → v ≡ sets u (get_or starts k 0) (row_of starts v k)
  pub outside : ZeroOutside S n k g

-- row k's y and reciprocal in their slots, and +0 at the filled places of the working row
pub record Shut (n k : ℕ) (lower above : List ℕ) (f g d e : List Float) (t : RowSums) : Type 0 where
  pub scratch : g ≡ set (zeroed above (zeroed lower (set f k nought))) (n + k) t.y
  pub reciprocals : e ≡ set d k t.reciprocal

-- the row that is kept
abbrev pub kept_row : List Float → List Float → RowSums → Row
kept_row l u t = record { l = l; d = t.reciprocal; y = t.y; u = u }

-- ---- L by columns

abbrev pub only : {A : Type 0} → Bool → A → List A
only true a = a ∷ []
only false a = []

-- the value that stands beside i in a list of places
unfoldable pub beside : List ℕ → List Float → ℕ → Float
beside [] ls i = nan
beside (j ∷ js) [] i = nan
beside (j ∷ js) (l ∷ ls) i = cond (eqb j i) l (beside js ls i)

-- L along column i, from those of the rows 0 to k - 1 that have it, ascending
unfoldable pub column_of : (ℕ → List ℕ) → List Row → ℕ → ℕ → List Float
column_of lower rows zero i = []
column_of lower rows (suc k) i = column_of lower rows k i ++ only (has (lower k) i) (beside (lower k) (l_of rows k) i)

-- columns in their slots: the cursors say how many are used, and behind the last column all is +0
pub record InColumns (n : ℕ) (starts cursors : List ℕ) (l : List Float) (column : ℕ → List Float) : Type 0 where
  pub used : (i : ℕ) → i < n → get_or cursors i 0 ≡ length (column i)
  pub held : (i : ℕ) → i < n → take (length (column i)) (drop (get_or starts i 0) l) ≡ column i
  pub behind : drop (get_or starts n 0) l ≡ replicate (length l - get_or starts n 0) nought

-- each column's slots are as many as rows have it
abbrev pub Fitting : System → List ℕ → Type 0
Fitting S starts = (i : ℕ) → i < S.n → get_or starts (i + 1) 0 ≡ get_or starts i 0 + count (λ j. has (S.lower j) i) S.n
