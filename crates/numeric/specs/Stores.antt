-- What the steps' contracts say of slices: where lists stand, and what each step leaves. Definitions only.
use Rattle.std.specs.Prelude.{◌≡◌, List, [], ◌∷◌, ℕ, ◌+◌, ◌*◌, ◌<◌, ◌≤◌, length, get_or, take, drop, set, Result, Ok, Err, ⊤, Float}
use Rattle.std.proofs.lemmas.List.Edits.{sets}
use Rattle.std.specs.Float.{nan, binary64}
use Rattle.std.specs.Float.Ieee.{sub, mul, eq}
use Rattle.base.specs.Lists.{list_at, row_of, nought}
use Rattle.base.specs.Limits.{max_rows}
use Rattle.base.specs.Scratch.{blocks_from}
use Rattle.base.specs.declared.RowSums.{RowSums}
use Rattle.lent.specs.Reading.{ListIn, Below, order_of}
use Rattle.arithmetic.specs.Arith.{Out, ok, met, zero_pivot, overflow, Row, Given, Work}
use Rattle.arithmetic.specs.Stopping.{any, subtract, steps}
use Rattle.arithmetic.specs.RowEnd.{products, row_end}
use Rattle.arithmetic.specs.Sticky.{entered}
use Rattle.numeric.specs.declared.RowFault.{RowFault}
use Rattle.numeric.specs.declared.RowFault.TheVariants.{Zero, Overflow}

-- ---- where lists stand

-- the lists of places 0 to n - 1 stand inside the index store, their values inside a store of that size, and they hold places below n
pub record StoreShape (n : ℕ) (starts runs upper : List ℕ) (size : ℕ) : Type 0 where
  pub list : (i : ℕ) → i < n → ListIn starts runs (length upper) i
  pub values : (i : ℕ) → i < n → ListIn starts starts size i
  pub below : (i : ℕ) → i < n → Below n (list_at starts runs upper i)

-- T(i), u(i, j) along T(i) and y(i) as the stores and the scratch hold them
abbrev pub store_given : ℕ → List Float → List ℕ → List ℕ → List ℕ → List Float → Given
store_given n f starts runs upper u = record { upper = list_at starts runs upper; u = row_of starts u; y = λ i. get_or f (n + i) nan }

-- ---- step 1

-- own columns whose places are below n by the inverse order in scratch
pub record Placeable (n : ℕ) (marks columns : List ℕ) : Type 0 where
  pub few : n ≤ max_rows
  pub slots : blocks_from n ≤ length marks
  pub known : Below n columns
  pub inside : (p : ℕ) → p < length columns → get_or (order_of n marks) (get_or columns p 0) 0 < n

-- with their values
pub record Loadable (n : ℕ) (marks columns : List ℕ) (values : List Float) : Type 0 where
  pub placeable : Placeable n marks columns
  pub paired : length columns ≡ length values

-- v at the listed places
abbrev pub set_all : Float → List ℕ → List Float → List Float
set_all v [] w = w
set_all v (i ∷ is) w = set_all v is (set w i v)

-- the sum at a place with one value more, NaN standing for none yet
abbrev pub with_value : Float → Float → Float
with_value s v = entered (eq s s) s v

unfoldable pub entering : List (ℕ × Float) → List Float → List Float
entering [] w = w
entering (e ∷ es) w = entering es (set w e.0 (with_value (get_or w e.0 nan) e.1))

-- ---- steps 2 and 3

abbrev pub work : List Float → List Float → Float → Work
work l w s = record { l = l; w = w; s = s }

-- what one i leaves: the scratch from n on as it was, the working row and the sum as listed, the record's other fields as they were
pub record Stepped (n i : ℕ) (G : Given) (f g : List Float) (row r : RowSums) : Type 0 where
  pub kept : drop n g ≡ drop n f
  pub working : subtract any (get_or f i nan) (G.upper i) (G.u i) (take n f) ≡ ok (take n g)
  pub sums : r ≡ record { sum = sub binary64 row.sum (mul binary64 (get_or f i nan) (G.y i)); reciprocal = row.reciprocal; y = row.y }

-- what step 2 leaves, l being the multipliers
pub record Eliminated (n : ℕ) (lower : List ℕ) (G : Given) (f g : List Float) (row r : RowSums) : Type 0 where
  pub l : List Float
  pub working : steps any G lower (work [] (take n f) row.sum) ≡ ok (work l (take n g) r.sum)
  pub kept : drop n g ≡ drop n f

-- questions 12 and 13 for each of a row's answers, and what is kept of the row: l and u are its multipliers and its u
abbrev pub numbered : ℕ → List Float → List Float → Result RowSums RowFault → Out Row
numbered k l u (Ok s) = ok (record { l = l; d = s.reciprocal; y = s.y; u = u })
numbered k l u (Err Zero) = met (zero_pivot k)
numbered k l u (Err Overflow) = met (overflow k)

-- what step 3 leaves: its answer, with the u that stand in their slots, and in a row that is kept nothing else is written
pub record Finished (k : ℕ) (floor : Float) (above : List ℕ) (from : ℕ) (w u v : List Float) (s : Float) (r : Result RowSums RowFault) : Type 0 where
  pub answer : (l : List Float) → numbered k l (take (length above) (drop from v)) r ≡ row_end k floor [] above (work l w s)
  pub stored : (t : RowSums) → r ≡ Ok t → v ≡ sets u from (products t.reciprocal w above)

-- w at the listed places
abbrev pub gathered : List ℕ → List Float → List Float
gathered [] w = []
gathered (i ∷ is) w = get_or w i nan ∷ gathered is w

-- +0 at the listed places
abbrev pub zeroed : List ℕ → List Float → List Float
zeroed = set_all nought

-- ---- a row as a whole

abbrev pub Ascending : List ℕ → Type 0
Ascending l = (p q : ℕ) → p < q → q < length l → get_or l p 0 < get_or l q 0

-- what row k's steps ask of lengths and places: size is the scratch's, slots the value store's
pub record Reducible (n k size : ℕ) (marks columns : List ℕ) (values : List Float) (lower starts runs upper : List ℕ) (slots : ℕ) : Type 0 where
  pub place : k < n
  pub scratch : size ≡ 3 * n
  pub row : Loadable n marks columns values
  pub below : Below n lower
  pub lists : StoreShape n starts runs upper slots

-- and its closing: slots are those of d
pub record Closable (n k size : ℕ) (lower starts runs upper : List ℕ) (slots : ℕ) : Type 0 where
  pub place : k < n
  pub scratch : size ≡ 3 * n
  pub reciprocals : slots ≡ n
  pub below : Below n lower
  pub list : ListIn starts runs (length upper) k
  pub above : Below n (list_at starts runs upper k)

-- ---- L by columns

-- slots used of each column, and the values
pub record Columns : Type 0 where
  pub cursors : List ℕ
  pub l : List Float

abbrev pub columns : List ℕ → List Float → Columns
columns c l = record { cursors = c; l = l }

-- w at the listed places, each in the next slot of its column
unfoldable pub keep_columns : List ℕ → List Float → List ℕ → Columns → Columns
keep_columns starts w [] a = a
keep_columns starts w (i ∷ is) a =
    keep_columns starts w is
    (columns (set a.cursors i (get_or a.cursors i 0 + 1)) (set a.l (get_or starts i 0 + get_or a.cursors i 0) (get_or w i nan)))

-- ---- the back steps

-- question 13 for each of their answers, and z
abbrev pub numbered_back : List Float → Result ⊤ ℕ → Out (List Float)
numbered_back z (Ok t) = ok z
numbered_back z (Err k) = met (overflow k)
