-- "A list is asked for by side and place, and is handed back as a part of the store that holds it." Definitions only.
use Rattle.std.specs.Prelude.{◌≡◌, Bool, true, cond, ◌&&◌, List, ℕ, ◌+◌, ◌-◌, ◌*◌, ◌≤◌, length, get_or, take, drop, leb, ltb, eqb}
use Rattle.std.specs.Borrow.{Bor}
use Rattle.base.specs.declared.Form.{Form}
use Rattle.base.specs.declared.Form.TheVariants.{Plain, Shared, ByRow}
use Rattle.base.specs.declared.Place.{Place}
use Rattle.base.specs.declared.Side.{Side}
use Rattle.base.specs.declared.Side.TheVariants.{Lower, Upper}
use Rattle.base.specs.Index.{index_bytes}
use Rattle.base.specs.Limits.{rows_within, max_slots}
use Rattle.lookup.specs.declared.Span.{Span}
use Rattle.lookup.specs.declared.StoredLists.{StoredLists}

-- what is lent of one side; the plain form's runs start where its lists do
pub record SideLists : Type 0 where
  pub starts : List ℕ
  pub runs : List ℕ
  pub index : List ℕ

abbrev pub side_lists : List ℕ → List ℕ → List ℕ → SideLists
side_lists s r i = record { starts = s; runs = r; index = i }

-- as the code holds them
abbrev pub lists_of : StoredLists → SideLists
lists_of l = side_lists l.starts.now l.runs.now l.index.now

abbrev pub of_side : {A : Type 0} → Side → A → A → A
of_side Lower l u = l
of_side Upper l u = u

-- "n run starts"; the plain form's are its list starts
abbrev pub run_starts : Form → ℕ → ℕ
run_starts Plain n = n + 1
run_starts Shared n = n
run_starts ByRow n = n

-- "An n out of its limits, wrong lengths": n + 1 list starts, the form's run starts, an index store within its limit
unfoldable pub sized : Form → ℕ → SideLists → Bool
sized f n l = rows_within n && (eqb (length l.starts) (n + 1) && eqb (length l.runs) (run_starts f n) && leb (length l.index) max_slots)

-- of either side
unfoldable pub both_fit : Form → ℕ → SideLists → SideLists → Bool
both_fit f n l u = sized f n l && sized f n u

abbrev pub span_from : ℕ → ℕ → Span
span_from a b = record { from = a; to = b }

-- "list starts that fall there, or a run outside its store get the empty part at that store's start"
unfoldable pub run_span : ℕ → ℕ → ℕ → ℕ → Span
run_span a b run slots = cond (leb a b && leb (run + (b - a)) slots) (span_from run (run + (b - a))) (span_from 0 0)

-- "a place not below n" too
unfoldable pub span_of : Bool → Place → ℕ → SideLists → Span
span_of fit k n l =
    cond (fit && ltb k.0 n) (run_span (get_or l.starts k.0 0) (get_or l.starts (k.0 + 1) 0) (get_or l.runs k.0 0) (length l.index)) (span_from 0 0)

-- where the list of a side at a place stands in that side's store
unfoldable pub span_in : Form → Side → Place → ℕ → SideLists → SideLists → Span
span_in f side k n l u = span_of (both_fit f n l u) k n (of_side side l u)

-- the slots of a span
unfoldable pub within : List ℕ → Span → List ℕ
within l s = take (s.to - s.from) (drop s.from l)

unfoldable pub lookup : Form → Side → Place → ℕ → SideLists → SideLists → List ℕ
lookup f side k n l u = within (of_side side l u).index (span_in f side k n l u)

-- a span within a store
pub record Inside (s : Span) (slots : ℕ) : Type 0 where
  pub up : s.from ≤ s.to
  pub end : s.to ≤ slots

-- the part of a lent store from one slot to before another: what it holds, and where it stands in the store's memory
pub record PartOf (store : Bor (List ℕ)) (s : Span) (l : Bor (List ℕ)) : Type 0 where
  pub holds : l.now ≡ within store.now s
  pub count : length l.now ≡ s.to - s.from
  pub block : l.ref_ptr.0 ≡ store.ref_ptr.0
  pub offset : l.ref_ptr.1 ≡ store.ref_ptr.1 + s.from * index_bytes

-- what fitting lengths give the code
pub record SideLent (fit : Bool) (n : ℕ) (s runs : List ℕ) : Type 0 where
  pub lists : fit ≡ true → length s ≡ n + 1
  pub places : fit ≡ true → n ≤ length runs
