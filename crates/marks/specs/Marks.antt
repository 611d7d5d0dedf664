-- A set of places below n, kept as marks: place j is a member where slot j holds the stamp t of the row or column at work.
-- Scratch has eight regions of n slots: marks, the inverse column order, block stamps, cuts of the upper and of the lower lists,
-- a list, nodes. Slot 2n + b holds t where block b, the 64 places from 64 b on, may have a member. Definitions only.
use Rattle.std.specs.Prelude.{List, [], ◌∷◌, Bool, true, false, ◌&&◌, ◌≡◌, ℕ, zero, suc, ◌+◌, ◌<◌, ◌≤◌, ◌/◌, length, get_or, take, drop, set, eqb, leb}
use Rattle.std.proofs.lemmas.List.Edits.{sets}
use Rattle.base.specs.Lists.{asc}
use Rattle.lent.specs.Reading.{Below, order_of, Outside}
use Rattle.base.specs.Scratch.{blocks_from, upper_cuts, lower_cuts, list_from, regions_end}
use Rattle.base.specs.Limits.{max_rows}

-- each entry of the list l is above i
abbrev pub Above : ℕ → List ℕ → Type 0
Above i l = (p : ℕ) → p < length l → i < get_or l p 0

-- scratch has its eight regions
pub record Room (n : ℕ) (s : List ℕ) : Type 0 where
  pub small : n ≤ max_rows
  pub long : regions_end n ≤ length s

-- ---- marks

-- scratch with the stamp t at place j and at its block
abbrev pub mark_at : ℕ → ℕ → List ℕ → ℕ → List ℕ
mark_at n t s j = set (set s j t) (blocks_from n + j / 64) t

-- scratch with the stamp t at each place of the list
unfoldable pub stamped : ℕ → ℕ → List ℕ → List ℕ → List ℕ
stamped n t s [] = s
stamped n t s (j ∷ l) = stamped n t (mark_at n t s j) l

-- is place j a member?
abbrev pub marked : ℕ → List ℕ → ℕ → Bool
marked t s j = eqb (get_or s j 0) t

-- every member's block is stamped
abbrev pub Blocks : ℕ → ℕ → List ℕ → Type 0
Blocks n t s = (j : ℕ) → j < n → get_or s j 0 ≡ t → get_or s (blocks_from n + j / 64) 0 ≡ t

-- r is above j and at most e, and no block of a place from j up to r is stamped
pub record Bare (n t : ℕ) (s : List ℕ) (j e r : ℕ) : Type 0 where
  pub above : j < r
  pub within : r ≤ e
  pub none : (i : ℕ) → j ≤ i → i < r → get_or s (blocks_from n + i / 64) 0 ≡ t → ⊥

-- every mark is older than t
abbrev pub Fresh : ℕ → ℕ → List ℕ → Type 0
Fresh n t s = (j : ℕ) → j < n → get_or s j 0 < t

-- the marks with the stamp t are the set p: `members` of it can be found, and every later stamp is fresh
pub record Holds (n t : ℕ) (s : List ℕ) (p : ℕ → Bool) : Type 0 where
  pub blocks : Blocks n t s
  pub exact : (j : ℕ) → j < n → marked t s j ≡ p j
  pub last : Fresh n (suc t) s

-- only marks and block stamps are written
abbrev pub Unmarked : ℕ → List ℕ → List ℕ → Type 0
Unmarked n s₀ s = Outside 0 n (blocks_from n) (upper_cuts n) s₀ s

-- place j is a member, and at or above `from`
unfoldable pub chosen : ℕ → List ℕ → ℕ → ℕ → Bool
chosen t s from j = leb from j && marked t s j

-- the members from `from` up to `end`, ascending
unfoldable pub members : ℕ → List ℕ → ℕ → ℕ → List ℕ
members t s from end = asc (chosen t s from) end

-- the places of the inverse order are below n
abbrev pub Order : ℕ → List ℕ → Type 0
Order n s = (c : ℕ) → c < n → get_or (order_of n s) c 0 < n

-- ---- the members in turn

-- scratch, or the other one, by a test
abbrev pub pick : Bool → List ℕ → List ℕ → List ℕ
pick true a b = a
pick false a b = b

-- the m places from i on, in turn: where place i is a member, it is visited
unfoldable pub visited : ℕ → (ℕ → List ℕ → List ℕ) → ℕ → ℕ → List ℕ → List ℕ
visited t f i zero s = s
visited t f i (suc m) s = visited t f (suc i) m (pick (marked t s i) (f i s) s)

-- the list of place i is united with the set
unfoldable pub unite : ℕ → ℕ → (ℕ → List ℕ) → ℕ → List ℕ → List ℕ
unite n t T i s = stamped n t s (T i)

-- the lists of the members below k are united with the set; these members, r of them, stand in the list region
pub record Merged (n t k : ℕ) (T : ℕ → List ℕ) (s₀ s : List ℕ) (r : ℕ) : Type 0 where
  pub size : r ≡ length (members t (visited t (unite n t T) 0 k s₀) 0 k)
  pub slots : s ≡ sets (visited t (unite n t T) 0 k s₀) (list_from n) (members t (visited t (unite n t T) 0 k s₀) 0 k)

-- ---- lists in a store, and their cuts

-- where a side's cuts stand: in one of the two regions behind the block stamps
pub record Base (n cuts : ℕ) : Type 0 where
  pub low : upper_cuts n ≤ cuts
  pub high : cuts ≤ lower_cuts n

-- the entries of list i that a later place merges, its first ones: slot cuts + i says how many
unfoldable pub part_at : List ℕ → ℕ → List ℕ → List ℕ → ℕ → List ℕ
part_at s cuts runs index i = take (get_or s (cuts + i) 0) (drop (get_or runs i 0) index)

-- that part of list i can be read
pub record PartIn (n : ℕ) (s : List ℕ) (cuts : ℕ) (runs index : List ℕ) (i : ℕ) : Type 0 where
  pub place : i < n
  pub has-run : i < length runs
  pub inside : get_or runs i 0 + get_or s (cuts + i) 0 ≤ length index

-- the parts of the first k lists can be read, and hold places below n and above their own
pub record Parts (n k : ℕ) (s : List ℕ) (cuts : ℕ) (runs index : List ℕ) : Type 0 where
  pub read : (i : ℕ) → i < k → PartIn n s cuts runs index i
  pub below : (i : ℕ) → i < k → Below n (part_at s cuts runs index i)
  pub above : (i : ℕ) → i < k → Above i (part_at s cuts runs index i)

-- the list region holds the places below k with some stamp, `below` of them
pub record Walk (n k below : ℕ) (s : List ℕ) : Type 0 where
  pub stamp : ℕ
  pub list : take below (drop (list_from n) s) ≡ members stamp s 0 k

-- no more, or what is left
abbrev pub unless : Bool → ℕ → ℕ
unless true m = 0
unless false m = m

-- how many entries of a list go as far as place k; all, if it has no k
unfoldable pub upto : ℕ → List ℕ → ℕ
upto k [] = 0
upto k (x ∷ l) = suc (unless (eqb x k) (upto k l))

-- place k meets list i: if it is not yet cut and has k, it is cut behind k
unfoldable pub cut_one : ℕ → ℕ → (ℕ → List ℕ) → ℕ → List ℕ → List ℕ
cut_one cuts k T i s = pick (eqb (get_or s (cuts + i) 0) (length (T i))) (set s (cuts + i) (upto k (T i))) s

-- the cuts after place k, whose own list has c entries and is not cut
unfoldable pub new_cuts : ℕ → ℕ → ℕ → (ℕ → List ℕ) → ℕ → List ℕ → List ℕ
new_cuts t cuts k T c s = set (visited t (cut_one cuts k T) 0 k s) (cuts + k) c
