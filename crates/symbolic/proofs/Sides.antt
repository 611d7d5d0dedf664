-- A side at place k: what opening it and keeping its list ask for, and what they leave. One law for both sides and both ways of placing.
use mathlib.Core.Path.{◌≡◌, ◌∙◌}
use mathlib.Core.List.{List}
use Prim.Native.Nat.{ℕ, suc, ◌+◌, ◌<◌}
use native.Mathlib.Omega.{arith}
use lib.ListN.{length, take, drop}
use Rattle.base.specs.declared.Side.{Side}
use Rattle.base.specs.declared.Side.TheVariants.{Lower, Upper}
use Rattle.fill.specs.Fill.{lower_row}
use Rattle.matrix.specs.Input.{Input}
use Rattle.marks.specs.Marks.{Room, Fresh}
use Rattle.marks.specs.MarkLaws.{room-kept}
use Rattle.lent.specs.Reading.{But}
use Rattle.columns.specs.Sides.{SideReady, rows_in}
use Rattle.storing.specs.declared.Way.{Way}
use Rattle.storing.specs.declared.Extent.{Extent}
use Rattle.symbolic.specs.Places.{pattern_of, cuts_of, Apart, Begun, Open, RowFound, ListsAt, Keep, ListKept, SideAt, SideNext}
use Rattle.symbolic.specs.declared.OpenRow.{OpenRow}
use Rattle.symbolic.proofs.Opening.{apart-then, apart-cuts, base-of, part-kept, rows_apart, ready-kept}
use Rattle.symbolic.proofs.Keeping.{stored-held}
use Rattle.base.specs.Scratch.{list_from}

-- ---- before

module _ {way : Way} {side : Side} {i : Input} {k : ℕ} {store : List ℕ} {values : ℕ} {starts runs index s : List ℕ} {e : Extent} (begun : Begun i s) (place : k < i.n)
    (at : ListsAt way (pattern_of side i) i.n k (cuts_of side i.n) store values starts runs index s e) where
  pub lists-open : {t window : ℕ} → Fresh i.n t s → SideReady side i.n k window (rows_in i s) s → Open side i k t window starts runs index s
  lists-open f r = record {
    begun = begun;
    below = place;
    held = record { fresh = f; store = stored-held (omega arith) at.held; cut = at.cut };
    ready = r;
  }

  pub room-found : {t : ℕ} {s₁ : List ℕ} {o : OpenRow} → RowFound side i k t s s₁ o → Room i.n s₁
  room-found {t} {s₁} found = room-kept i.n s s₁ found.apart.size begun.space

  pub lists-keep : {t : ℕ} {s₁ : List ℕ} {o : OpenRow} → RowFound side i k t s s₁ o → Keep way (pattern_of side i) i.n k t (cuts_of side i.n) store values starts runs index s₁ o e
  lists-keep found = record {
    below = place;
    few = begun.few;
    space = room-found found;
    base = base-of side i.n;
    lists = found.lists;
    at = record { held = at.held; cut = found.cut; stores = at.stores };
  }

-- ---- after

module _ (side : Side) (i : Input) (k t : ℕ) (s₀ s₁ s₂ : List ℕ) (o : OpenRow) (found : RowFound side i k t s₀ s₁ o) (place : k < i.n) (size : length s₂ ≡ length s₁)
    (but : But (cuts_of side i.n) (cuts_of side i.n + k + 1) s₁ s₂) where
  pub side-apart : Apart side i.n s₀ s₂
  side-apart = apart-then found.apart (apart-cuts side i.n k s₁ s₂ size place but)

  -- every later stamp may be next
  pub side-last : Fresh i.n (suc t) s₂
  side-last j l = let b = (base-of side i.n).low in rw (but j (λ w. absurd (omega arith))) (found.lists.marks.last j l)

  -- the lower row still stands in scratch
  side-lower : take o.below (drop (list_from i.n) s₂) ≡ lower_row (pattern_of side i) k
  side-lower =
      let b = (base-of side i.n).high in
      part-kept (list_from i.n) o.below s₁ s₂ size (λ q a c. but q (λ w. omega arith)) ∙ found.lists.lower

  side-ready : SideReady side i.n (k + 1) o.window (rows_in i s₂) s₂
  side-ready = go side but found.ready (rows_apart side i s₁ s₂ (apart-cuts side i.n k s₁ s₂ size place but))
    where
      go : (side : Side) → But (cuts_of side i.n) (cuts_of side i.n + k + 1) s₁ s₂ → SideReady side i.n (k + 1) o.window (rows_in i s₁) s₁ → rows_in i s₂ ≡ rows_in i s₁
          → SideReady side i.n (k + 1) o.window (rows_in i s₂) s₂
      go Upper b r e = tt
      go Lower b r e = rw e (ready-kept (λ q a c d. b q (λ w. omega arith)) r)

-- ---- by what the code finds

module _ {way : Way} {side : Side} {i : Input} {store : List ℕ} {values k t window : ℕ} {starts runs index s : List ℕ} {e : Extent} (h : SideAt way side i store values k t window starts runs index s e) where
  pub side-open : Open side i k t window starts runs index s
  side-open = lists-open h.begun h.below h.at h.fresh h.ready

  module _ {s₁ : List ℕ} {o : OpenRow} (found : RowFound side i k t s s₁ o) (cuts : ℕ) (c : cuts ≡ cuts_of side i.n) where
    pub side-keep : Keep way (pattern_of side i) i.n k t cuts store values starts runs index s₁ o e
    side-keep = rw c (lists-keep h.begun h.below h.at found)

    pub side-next : {starts' runs' index' s₂ : List ℕ} {e' : Extent} → ListKept way (pattern_of side i) i.n k cuts store values starts' runs' index' s₁ s₂ e' → length s₂ ≡ length s₁
        → SideNext way side i store values k t starts' runs' index' s s₂ (record { below = o.below; window = o.window; extent = e' })
    side-next {s₂ = s₂} kept' size =
        let kept = rw c at kept' in
        record {
          diagonal = found.diagonal;
          fits = kept.fits;
          at = kept.at;
          ready = side-ready side i k t s s₁ s₂ o found h.below size kept.but;
          last = side-last side i k t s s₁ s₂ o found h.below size kept.but;
          apart = side-apart side i k t s s₁ s₂ o found h.below size kept.but;
          size = found.lists.below-is;
          lower = side-lower side i k t s s₁ s₂ o found h.below size kept.but;
        }
