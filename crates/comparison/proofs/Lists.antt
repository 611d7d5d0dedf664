-- One list, and one side, of a place: what comparing tells of it.
use Rattle.std.specs.Prelude.{Option, Some, None}
use mathlib.Core.Path.{◌≡◌, refl}
use mathlib.Core.Bool.{Bool, true, false, ◌&&◌}
use mathlib.Core.List.{List}
use Prim.Native.Nat.{ℕ}
use native.Mathlib.Numerals.{add-one}
use lib.ListN.{length}
use Rattle.base.specs.Tests.{and_cases}
use Rattle.base.specs.declared.Side.{Side}
use Rattle.fill.specs.Fill.{Pattern, upper_row, lower_row, flip}
use Rattle.matrix.specs.Input.{Input}
use Rattle.placement.specs.PlacingLaws.{room}
use Rattle.marks.specs.Rows.{Renewed}
use Rattle.storing.specs.Ways.{way_of}
use Rattle.storing.specs.Held.{RowIs, presented, Checked}
use Rattle.storing.specs.declared.Way.{Way}
use Rattle.storing.specs.declared.Way.TheVariants.{OneAfterAnother, Sharing}
use Rattle.storing.specs.declared.Extent.{Extent}
use Rattle.symbolic.specs.Places.{pattern_of, cuts_of, RowFound, Keep, SideAt}
use Rattle.symbolic.specs.declared.OpenRow.{OpenRow}
use Rattle.symbolic.proofs.Keeping.{kept_next}
use Rattle.symbolic.proofs.Sides.{side-next}
use Rattle.comparison.specs.Comparing.{ListSame, LowerEnds, SideSame}

-- the row that is lent is the place's, whether it is read or not
pub row_by : (way : Way) (own row : List ℕ) → row ≡ own → RowIs way own row
row_by OneAfterAnother own row e = tt
row_by Sharing own row e = e

-- what is presented has room
room-presented : (way : Way) (T R : ℕ → List ℕ) (values k : ℕ) (starts runs index : List ℕ) → presented way T R values k starts runs index ≡ true → room (way_of way) T R (length index) values k ≡ true
unfolding presented
room-presented way T R values k starts runs index e = (and_cases (room (way_of way) T R (length index) values k) _ e).0

pub list_same : {way : Way} {P : Pattern} {n k t cuts values : ℕ} {starts runs index s : List ℕ} {o : OpenRow} {e : Extent} → Keep way P n k t cuts index values starts runs index s o e
    → (next : Extent) → Checked way (upper_row P n) (lower_row P) values k starts runs index (Some next) → (s' : List ℕ) → Renewed n t k cuts starts runs index s s'
    → ListSame way P n k cuts values starts runs index s s' next
list_same {way} {P} {n} {k} {values = values} {starts = starts} {runs = runs} {index = index} h next c s' r = record {
  same = c.0;
  kept = kept_next h next starts runs index c.1 (room-presented way (upper_row P n) (lower_row P) values k starts runs index c.0) refl refl s' r;
}

pub lower-told : (P : Pattern) (values k : ℕ) (starts index : List ℕ) (r : Option Extent) → Checked OneAfterAnother (lower_row P) (lower_row (flip P)) values k starts starts index r → LowerEnds P values k starts index r
lower-told P values k starts index (Some e) h = (h.0, rw add-one h.1)
lower-told P values k starts index None h = h

-- ---- a side

pub side_same : {way : Way} {side : Side} {i : Input} {values k t window : ℕ} {starts runs index s : List ℕ} {e : Extent} → SideAt way side i index values k t window starts runs index s e
    → {s₁ : List ℕ} {o : OpenRow} → RowFound side i k t s s₁ o → (cuts : ℕ) → cuts ≡ cuts_of side i.n → {s₂ : List ℕ} {next : Extent}
    → ListSame way (pattern_of side i) i.n k cuts values starts runs index s₁ s₂ next → length s₂ ≡ length s₁
    → SideSame way side i values k t starts runs index s s₂ (record { below = o.below; window = o.window; extent = next })
side_same h found cuts c l size = record { same = l.same; next = side-next h found cuts c l.kept size }

pub side-differs : (a b : Bool) → a ≡ true → b ≡ false → (a && b) ≡ false
side-differs a b e f = rw (e, f)
