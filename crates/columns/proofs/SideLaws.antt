-- What a side loads.
use mathlib.Core.Path.{◌≡◌, refl, ◌∙◌}
use mathlib.Core.List.{List}
use Prim.Native.Nat.{ℕ, ◌<◌}
use Rattle.base.specs.declared.Side.{Side}
use Rattle.base.specs.declared.Side.TheVariants.{Lower, Upper}
use Rattle.marks.specs.MarkLaws.{order-unmarked, below-placed, unmarked-stamped}
use Rattle.lent.specs.ReadingLaws.{same}
use Rattle.lent.specs.Reading.{Below, order_of}
use Rattle.marks.specs.Marks.{stamped, Unmarked}
use Rattle.columns.specs.Columns.{HeadsKept, Untouched, Given, places_by_row, Ready, Loaded}
use Rattle.base.specs.Lists.{row_of}
use lib.ListN.{get_or}
use native.Mathlib.Omega.{arith}
use Rattle.columns.specs.Sides.{side_row, SideReady, SideLoaded}
use Rattle.columns.proofs.Keeps.{order-kept}
use Rattle.columns.proofs.ColumnLaws.{below-column}

-- what a side is due, once it is known which it is
pub lower-ready : {side : Side} (n k hi : ℕ) (R : ℕ → List ℕ) (s : List ℕ) → side ≡ Lower → SideReady side n k hi R s → Ready n k hi R s
lower-ready n k hi R s e r = rw e at r

pub lower-loaded : (side : Side) (hi₀ : ℕ) {n t k hi : ℕ} {R : ℕ → List ℕ} {s₀ s : List ℕ} → side ≡ Lower → Loaded n t k hi R s₀ s → SideLoaded side n t k hi₀ hi R s₀ s
lower-loaded side hi₀ e l = rw e l

pub upper-loaded : (side : Side) (n t k hi : ℕ) (R : ℕ → List ℕ) (xs s₀ s : List ℕ) → side ≡ Upper → xs ≡ R k → s ≡ stamped n t s₀ xs → SideLoaded side n t k hi hi R s₀ s
upper-loaded side n t k hi R xs s₀ s e r h = rw e (rw r at h, refl)

-- on either side the buffer is that before with the side's row stamped, but for heads from k on and nodes
pub side-marks : (side : Side) (n t k hi₀ hi : ℕ) (R : ℕ → List ℕ) (s₀ s : List ℕ) → SideLoaded side n t k hi₀ hi R s₀ s → HeadsKept n k n (stamped n t s₀ (side_row side R n k)) s
side-marks Lower n t k hi₀ hi R s₀ s l = l.marks
side-marks Upper n t k hi₀ hi R s₀ s l = rw l.0 (same (stamped n t s₀ (R k)))

pub side-below : (side : Side) (n k : ℕ) (starts columns r s : List ℕ) → Given n starts columns r s → k < n → Below n (side_row side (places_by_row (order_of n s) starts columns r) n k)
unfolding places_by_row
side-below Lower n k starts columns r s g h = below-column n (places_by_row (order_of n s) starts columns r) n k (omega arith)
side-below Upper n k starts columns r s g h = below-placed n s (row_of starts columns (get_or r k 0)) g.order (g.below k h)

-- ---- what a load leaves to others

module _ (side : Side) (n t k hi₀ hi : ℕ) (starts columns r s₀ s : List ℕ) (given : Given n starts columns r s₀) (place : k < n)
    (loaded : SideLoaded side n t k hi₀ hi (places_by_row (order_of n s₀) starts columns r) s₀ s) where
  abbrev list : List ℕ
  list = side_row side (places_by_row (order_of n s₀) starts columns r) n k

  marks : HeadsKept n k n (stamped n t s₀ list) s
  marks = side-marks side n t k hi₀ hi (places_by_row (order_of n s₀) starts columns r) s₀ s loaded

  others : Unmarked n s₀ (stamped n t s₀ list)
  others = unmarked-stamped n t s₀ list (side-below side n k starts columns r s₀ given place)

  pub side-untouched : Untouched n k s₀ s
  side-untouched = record {
    size = marks.size ∙ others.size;
    order = order-kept n k n marks ∙ order-unmarked n others;
    cuts = λ x a b. marks.slots x (λ v. omega arith) (λ v. omega arith) ∙ others.slots x (λ v. omega arith) (λ v. omega arith);
    list = λ x a b. marks.slots x (λ v. omega arith) (λ v. omega arith) ∙ others.slots x (λ v. omega arith) (λ v. omega arith);
  }
