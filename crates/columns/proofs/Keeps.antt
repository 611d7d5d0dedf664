-- What stores leave as it was, and the rows that are read.
use mathlib.Core.Path.{◌≡◌}
use mathlib.Core.List.{List}
use Prim.Native.Nat.{ℕ, ◌+◌, ◌≤◌}
use native.Mathlib.Omega.{arith}
use lib.ListN.{length, get_or}
use Rattle.base.specs.Lists.{row_of}
use Rattle.lent.specs.Reading.{Below, order_of, placed}
use Rattle.lent.specs.ReadingLaws.{order-outside}
use Rattle.marks.specs.Marks.{Unmarked}
use Rattle.marks.specs.MarkLaws.{room-kept}
use Rattle.columns.specs.Columns.{HeadsKept, Steady, Given, places_by_row}
use Rattle.base.specs.Scratch.{heads_from}

-- ---- slots that are not written

pub order-kept : (n lo hi : ℕ) {s u : List ℕ} → HeadsKept n lo hi s u → order_of n u ≡ order_of n s
order-kept n lo hi k = order-outside n (λ x a b. ((λ h. omega arith), (λ h. omega arith))) k

pub kept-wider : (n lo hi lo' hi' : ℕ) {s u : List ℕ} → lo' ≤ lo → hi ≤ hi' → HeadsKept n lo hi s u → HeadsKept n lo' hi' s u
kept-wider n lo hi lo' hi' l h k = record { size = k.size; slots = λ x p q. k.slots x (λ g. omega (arith, p (omega arith))) q }

pub steady-unmarked : (n k : ℕ) {s u : List ℕ} → Unmarked n s u → Steady n k s u
steady-unmarked n k h = record {
  heads = λ j a b. h.slots (heads_from n + j) (λ g. omega arith) (λ g. omega arith);
  nodes = λ x a b. h.slots x (λ g. omega arith) (λ g. omega arith);
}

-- ---- what the lengths and the order settle

pub given-kept : {n : ℕ} {starts columns r s u : List ℕ} → length u ≡ length s → order_of n u ≡ order_of n s → Given n starts columns r s → Given n starts columns r u
given-kept e o g = record {
  space = room-kept _ _ _ e g.space;
  order = rw o g.order;
  long = g.long;
  read = g.read;
  below = g.below;
}

-- ---- rows at their places

-- the row read at place k, while the order stands
pub row_is : (n k : ℕ) (starts columns r s₀ s cols : List ℕ) → cols ≡ row_of starts columns (get_or r k 0) → order_of n s ≡ order_of n s₀
    → placed (order_of n s) cols ≡ places_by_row (order_of n s₀) starts columns r k
unfolding places_by_row
row_is n k starts columns r s₀ s cols ec eo = rw (ec, eo)

pub rows_same : (n : ℕ) (starts columns r s₀ s : List ℕ) → order_of n s ≡ order_of n s₀ → places_by_row (order_of n s) starts columns r ≡ places_by_row (order_of n s₀) starts columns r
rows_same n starts columns r s₀ s e = rw e

pub row_below : {n : ℕ} {row cols : List ℕ} → cols ≡ row → Below n row → Below n cols
row_below e b = rw e b
