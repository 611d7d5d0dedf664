-- The columns of M', which is lent by rows, handed out in turn as stamps.
-- Scratch has eight regions of n slots: marks, inverse column order, block stamps, cuts, heads (from slot 4n on), a list, and in the last two (from slot 6n on) n nodes.
-- A node is a row and the rest of its list. The head of a column counts its rows until its window is opened, and leads to its list then.
-- A column has a row once, however often the row names it. While columns are counted, slot 6n + j holds the last row of column j, plus one.
-- The heads of columns handed out are not spoken of. Definitions only.
use Rattle.std.specs.Prelude.{List, [], ◌∷◌, Bool, true, false, cond, ◌≡◌, ℕ, zero, suc, ◌+◌, ◌-◌, ◌<◌, ◌≤◌, length, get_or, set, eqb}
use Rattle.base.specs.Lists.{sum, row_of}
use Rattle.lent.specs.Reading.{ListIn, Below, order_of, placed, Outside}
use Rattle.marks.specs.Marks.{Room, Order, stamped}
use Rattle.base.specs.Scratch.{upper_cuts, heads_from, list_from, nodes_from, lasts_from, regions_end}

-- ---- scratch

-- only heads of columns lo to hi, and nodes, are written
abbrev pub HeadsKept : ℕ → ℕ → ℕ → List ℕ → List ℕ → Type 0
HeadsKept n lo hi s₀ s = Outside (heads_from n + lo) (heads_from n + hi) (nodes_from n) (regions_end n) s₀ s

-- what others keep in scratch is the same: the order, cuts and heads up to column k, the list
pub record Untouched (n k : ℕ) (s₀ s : List ℕ) : Type 0 where
  pub size : length s ≡ length s₀
  pub order : order_of n s ≡ order_of n s₀
  pub cuts : (x : ℕ) → upper_cuts n ≤ x → x < heads_from n + k → get_or s x 0 ≡ get_or s₀ x 0
  pub list : (x : ℕ) → list_from n ≤ x → x < nodes_from n → get_or s x 0 ≡ get_or s₀ x 0

-- the heads of the columns from k on, and the nodes, are the same
pub record Steady (n k : ℕ) (s₀ s : List ℕ) : Type 0 where
  pub heads : (j : ℕ) → k ≤ j → j < n → get_or s (heads_from n + j) 0 ≡ get_or s₀ (heads_from n + j) 0
  pub nodes : (x : ℕ) → nodes_from n ≤ x → x < regions_end n → get_or s x 0 ≡ get_or s₀ x 0

-- ---- rows and columns of M'

-- "M' is M with entry (k, ic(j)) where M has (r(k), j)": the places of the entries of row k of M'
unfoldable pub places_by_row : List ℕ → List ℕ → List ℕ → List ℕ → ℕ → List ℕ
places_by_row ic starts columns r k = placed ic (row_of starts columns (get_or r k 0))

-- whether i stands in front of l
abbrev pub leads : ℕ → List ℕ → Bool
leads i [] = false
leads i (h ∷ l) = eqb h i

-- where told, i in front of l, unless it stands there already
abbrev pub cons_if : Bool → ℕ → List ℕ → List ℕ
cons_if true i l = cond (leads i l) l (i ∷ l)
cons_if false i l = l

-- column j's list with i in front, once, however often row i's places xs name j
unfoldable pub hits : ℕ → List ℕ → (ℕ → List ℕ) → ℕ → List ℕ
hits i [] f j = f j
hits i (x ∷ xs) f j = cons_if (eqb x j) i (hits i xs f j)

-- nothing yet
unfoldable pub bare : ℕ → List ℕ
bare j = []

-- column j over the first i rows: the rows with an entry there, the last in front
unfoldable pub column : (ℕ → List ℕ) → ℕ → ℕ → List ℕ
column R zero = bare
column R (suc i) = hits i (R i) (column R i)

-- row i's places xs were added to the lists of columns lo to hi: Q holds of them where P held of them before
pub record Added (n lo hi i : ℕ) (xs s₀ s : List ℕ) (P Q : (ℕ → List ℕ) → Type 0) : Type 0 where
  pub kept : HeadsKept n lo hi s₀ s
  pub grow : (f : ℕ → List ℕ) → P f → Q (hits i xs f)

-- what the questions and the inverse order settle: the rows of M' can be read
pub record Given (n : ℕ) (starts columns r s : List ℕ) : Type 0 where
  pub space : Room n s
  pub order : Order n s
  pub long : n ≤ length r
  pub read : (k : ℕ) → k < n → ListIn starts starts (length columns) (get_or r k 0)
  pub below : (k : ℕ) → k < n → Below n (row_of starts columns (get_or r k 0))

-- ---- counts

-- the heads from column lo on count the rows of the lists f
pub record Counts (n lo : ℕ) (s : List ℕ) (f : ℕ → List ℕ) : Type 0 where
  pub slot : (j : ℕ) → lo ≤ j → j < n → get_or s (heads_from n + j) 0 ≡ length (f j)

-- the heads count the lists f, and the last row of column j is held as i + 1 exactly where i leads f j
pub record Counting (n : ℕ) (s : List ℕ) (f : ℕ → List ℕ) : Type 0 where
  pub counts : Counts n 0 s f
  pub lasts : (j : ℕ) → j < n → (i : ℕ) → eqb (get_or s (lasts_from n + j) 0) (i + 1) ≡ leads i (f j)

-- some lists, of at most i rows each, are counted
pub record Countable (n i : ℕ) (s : List ℕ) : Type 0 where
  pub f : ℕ → List ℕ
  pub counting : Counting n s f
  pub few : (j : ℕ) → length (f j) ≤ i

-- the places xs of row i were counted
abbrev pub Counted : ℕ → ℕ → List ℕ → List ℕ → List ℕ → Type 0
Counted n i xs s₀ s = Added n 0 n i xs s₀ s (Counting n s₀) (Counting n s)

-- the lists f are counted, and nothing else changed
pub record Tally (n : ℕ) (f : ℕ → List ℕ) (s₀ s : List ℕ) : Type 0 where
  pub kept : HeadsKept n 0 n s₀ s
  pub counting : Counting n s f

-- ---- lists

-- from the head h, nodes hold the list l; each node's rest stands lower
pub data Chain (n : ℕ) (s : List ℕ) : ℕ → List ℕ → Type 0 where
  none : Chain n s 0 []
  node : {q h i : ℕ} {l : List ℕ} → i < n → h ≤ q → get_or s (nodes_from n + (q + q)) 0 ≡ i → get_or s (nodes_from n + (q + q) + 1) 0 ≡ h → Chain n s h l → Chain n s (suc q) (i ∷ l)

-- some list stands at the head h
pub record HasChain (n : ℕ) (s : List ℕ) (h : ℕ) : Type 0 where
  pub room : h ≤ n
  pub list : List ℕ
  pub chain : Chain n s h list

-- b says whether row i stands in front of the list at column j's head
pub record Leading (n i j : ℕ) (s : List ℕ) (b : Bool) : Type 0 where
  pub told : (l : List ℕ) → Chain n s (get_or s (heads_from n + j) 0) l → leads i l ≡ b

-- the heads of columns lo to hi lead to the lists f, in the first p nodes
pub record ColumnLists (n lo hi : ℕ) (s : List ℕ) (p : ℕ) (f : ℕ → List ℕ) : Type 0 where
  pub chain : (j : ℕ) → lo ≤ j → j < hi → Chain n s (get_or s (heads_from n + j) 0) (f j)
  pub heads : (j : ℕ) → lo ≤ j → j < hi → get_or s (heads_from n + j) 0 ≤ p

unfoldable pub length_at : (ℕ → List ℕ) → ℕ → ℕ → ℕ
length_at f lo m = length (f (lo + m))

-- the rows of the columns lo to hi
unfoldable pub held : ℕ → ℕ → (ℕ → List ℕ) → ℕ
held lo hi f = sum (hi - lo) (length_at f lo)

-- the lists f of columns lo to hi take up p nodes
pub record Listed (n lo hi : ℕ) (s : List ℕ) (p : ℕ) (f : ℕ → List ℕ) : Type 0 where
  pub lists : ColumnLists n lo hi s p f
  pub count : p ≡ held lo hi f

-- some lists take up p nodes, and with the places xs of row i at most n
pub record Roomy (n lo hi i : ℕ) (xs s : List ℕ) (p : ℕ) : Type 0 where
  pub f : ℕ → List ℕ
  pub listed : Listed n lo hi s p f
  pub room : held lo hi (hits i xs f) ≤ n

-- the buffer with node p, row i and column j's list behind it, in front of column j's list
abbrev pub push_at : ℕ → ℕ → ℕ → ℕ → List ℕ → List ℕ
push_at n p i j s = set (set (set s (nodes_from n + (p + p)) i) (nodes_from n + (p + p) + 1) (get_or s (heads_from n + j) 0)) (heads_from n + j) (p + 1)

-- the places xs of row i went into the lists of lo to hi
abbrev pub Offered : ℕ → ℕ → ℕ → ℕ → List ℕ → List ℕ → List ℕ → ℕ → ℕ → Type 0
Offered n lo hi i xs s₀ s p₀ p = Added n lo hi i xs s₀ s (Listed n lo hi s₀ p₀) (Listed n lo hi s p)

-- ---- windows

unfoldable pub head_at : ℕ → List ℕ → ℕ → ℕ → ℕ
head_at n s lo m = get_or s (heads_from n + (lo + m)) 0

-- the heads of columns lo to hi are zero, what they counted is at most n, and column lo is among them if its count is
pub record Emptied (n lo hi : ℕ) (s₀ s : List ℕ) : Type 0 where
  pub kept : HeadsKept n lo hi s₀ s
  pub least : lo ≤ hi
  pub most : hi ≤ n
  pub zero : (j : ℕ) → lo ≤ j → j < hi → get_or s (heads_from n + j) 0 ≡ 0
  pub total : sum (hi - lo) (head_at n s₀ lo) ≤ n
  pub some : lo < n → get_or s₀ (heads_from n + lo) 0 ≤ n → lo < hi

-- the lists f of the columns lo to hi were made
pub record Filled (n lo hi : ℕ) (f : ℕ → List ℕ) (s₀ s : List ℕ) : Type 0 where
  pub kept : HeadsKept n lo hi s₀ s
  pub lists : ColumnLists n lo hi s n f

-- columns k on can be handed out: the lists of k to hi are at hand, and the counts of those from hi on
pub record Ready (n k hi : ℕ) (R : ℕ → List ℕ) (s : List ℕ) : Type 0 where
  pub least : k ≤ hi
  pub most : hi ≤ n
  pub lists : ColumnLists n k hi s n (column R n)
  pub counts : Counts n hi s (column R n)

-- before the first column
pub record Started (n : ℕ) (R : ℕ → List ℕ) (s₀ s : List ℕ) : Type 0 where
  pub kept : HeadsKept n 0 n s₀ s
  pub ready : Ready n 0 0 R s

-- column k is in the window up to hi
pub record Windowed (n k hi : ℕ) (R : ℕ → List ℕ) (s₀ s : List ℕ) : Type 0 where
  pub kept : HeadsKept n k n s₀ s
  pub has : k < hi
  pub ready : Ready n k hi R s

-- column k was handed out, as the buffer before with its rows stamped, and those after it can be
pub record Loaded (n t k hi : ℕ) (R : ℕ → List ℕ) (s₀ s : List ℕ) : Type 0 where
  pub marks : HeadsKept n k n (stamped n t s₀ (column R n k)) s
  pub ready : Ready n (k + 1) hi R s
