-- What is lent and only read, and M': M with its rows and columns at their elimination places. Definitions only.
use Rattle.base.specs.Answers.{Found}
use Rattle.std.specs.Prelude.{ℕ, Bool, List, [], map, get_or, eqb, Float, Some, None}
use Rattle.std.specs.Float.{nan}
use Rattle.matrix.specs.declared.System as declared
use Rattle.fill.specs.Fill.{Pattern}
use Rattle.base.specs.Lists.{has, table, row_of, pairs, nought}
use Rattle.base.specs.First.{first}

-- a matrix, its orders, a right side, and a floor under pivots
pub record Input : Type 0 where
  pub n : ℕ
  pub starts : List ℕ
  pub columns : List ℕ
  pub values : List Float
  pub r : List ℕ
  pub c : List ℕ
  pub b : List Float
  pub floor : Float

-- the input of a call that takes no floor: its floor is +0
abbrev pub input_of : ℕ → List ℕ → List ℕ → List Float → List ℕ → List ℕ → List Float → Input
input_of n s j v r c b = record { n = n; starts = s; columns = j; values = v; r = r; c = c; b = b; floor = nought }

-- "Each call that factors takes a floor f"
abbrev pub with_floor : Float → Input → Input
with_floor f i = record { n = i.n; starts = i.starts; columns = i.columns; values = i.values; r = i.r; c = i.c; b = i.b; floor = f }

-- the input that a system lends
abbrev pub lent : declared.System → Input
lent i = with_floor i.floor (input_of i.n i.starts.now i.columns.now i.values.now i.r.now i.c.now i.b.now)

-- the same for a call that reads no numbers
abbrev pub lent_pattern : declared.System → Input
lent_pattern i = input_of i.n i.starts.now i.columns.now [] i.r.now i.c.now []

-- both for a call that is not told the column order, but only its inverse in scratch
abbrev pub lent_by : declared.System → List ℕ → Input
lent_by i c = with_floor i.floor (input_of i.n i.starts.now i.columns.now i.values.now i.r.now c i.b.now)

abbrev pub pattern_by : declared.System → List ℕ → Input
pattern_by i c = input_of i.n i.starts.now i.columns.now [] i.r.now c []

-- the order has v at index j
unfoldable pub is_of : List ℕ → ℕ → ℕ → Bool
is_of o v j = eqb (get_or o j 0) v

-- an index, and 0 for none
abbrev pub index_of : Found → ℕ
index_of (Some k) = k
index_of None = 0

-- "inverse ic: ic(c(k)) = k": the place at which the order has j
unfoldable pub ic : List ℕ → ℕ → ℕ → ℕ
ic o n j = index_of (first (is_of o j) n)

-- "M' is M with entry (k, ic(j)) where M has (r(k), j)": the places of row k's entries, in stored order
abbrev pub places : Input → ℕ → List ℕ
places i k = map (ic i.c i.n) (row_of i.starts i.columns (get_or i.r k 0))

-- M' has (k, p)
unfoldable pub stored : Input → Pattern
stored i k p = has (places i k) p

-- row k of M' in stored order: place and value of each entry
unfoldable pub entries : Input → ℕ → List (ℕ × Float)
entries i k = pairs (places i k) (row_of i.starts i.values (get_or i.r k 0))

-- b(r(k))
unfoldable pub right_at : Input → ℕ → Float
right_at i k = get_or i.b (get_or i.r k 0) nan

-- "x(c(k)) = t": z by own column
unfoldable pub own_order : List ℕ → ℕ → List Float → List Float
own_order c n z = table (λ j. get_or z (ic c n j) nan) n
