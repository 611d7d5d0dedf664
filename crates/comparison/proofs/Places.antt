-- One place of both sides: from what it finds to what place k + 1 finds, or that it differs.
use Rattle.std.specs.Prelude.{Option, Some, None}
use mathlib.Core.Path.{◌≡◌, refl, sym, ap, ◌∙◌}
use mathlib.Core.Bool.{Bool, true, false, not, ◌&&◌}
use mathlib.Core.List.{List}
use Prim.Native.Nat.{ℕ, suc, ◌+◌, ◌<◌}
use native.Mathlib.Omega.{arith}
use native.Mathlib.Numerals.{add-one}
use Rattle.base.specs.FirstLaws.{first_more}
use Rattle.base.specs.declared.Side.TheVariants.{Lower, Upper}
use Rattle.fill.specs.Fill.{filled, flip}
use Rattle.fill.proofs.RowRule.{filled-flip}
use Rattle.matrix.specs.Input.{Input, stored}
use Rattle.storing.specs.declared.Way.{Way}
use Rattle.storing.specs.declared.Way.TheVariants.{OneAfterAnother, Sharing}
use Rattle.storing.specs.declared.Extent.{Extent}
use Rattle.symbolic.specs.Places.{Begun, KeepLower, SideAt}
use Rattle.symbolic.specs.declared.SidePlace.{SidePlace}
use Rattle.symbolic.proofs.Opening.{begun-apart}
use Rattle.symbolic.proofs.Sharing.{upper-cuts, shared-lower}
use Rattle.comparison.specs.Comparing.{presented_lower, presented_side, LowerEnds, SideSame, other_at, Met, PlaceEnds}
use Rattle.comparison.specs.declared.Reached.{Reached}

-- one fault is enough
pub upper-fault : (a l u : Bool) → (a && u) ≡ false → not (a && l && u) ≡ true
upper-fault false l u e = refl
upper-fault true false u e = refl
upper-fault true true u e = rw e

pub lower-fault : (a l u : Bool) → (a && l) ≡ false → not (a && l && u) ≡ true
lower-fault a l u e = rw e

no-fault : (a l u : Bool) → a ≡ true → l ≡ true → u ≡ true → not (a && l && u) ≡ false
no-fault a l u e f g = rw (e, f, g)

-- ---- the plain form: the upper side is compared first, since it finds the lower row

module _ {way : Way} (w : way ≡ OneAfterAnother) {i : Input} {lv uv k : ℕ} {ls lr li us ur ui s : List ℕ} {g : Reached} (met : Met way i lv uv k ls lr li us ur ui s g) (place : k < i.n) where
  plain-met : Met OneAfterAnother i lv uv k ls lr li us ur ui s g
  plain-met = rw w at met

  pub plain-due : SideAt way Upper i ui uv k (k + 1) 0 us ur ui s g.upper
  plain-due = let h = plain-met in rw w (record { begun = h.begun; below = place; fresh = h.fresh; ready = tt; at = h.upper })

  pub plain-upper : (filled (stored i) k k && presented_side way Upper i uv k us ur ui) ≡ false → other_at way i lv uv ls lr li us ur ui k ≡ true
  unfolding other_at
  plain-upper e = rw w (upper-fault (filled (stored i) k k) (presented_lower (stored i) lv k ls li) (presented_side OneAfterAnother Upper i uv k us ur ui) (rw w at e))

  module _ {s₁ : List ℕ} {p : SidePlace} (same : SideSame way Upper i uv k (k + 1) us ur ui s s₁ p) where
    plain-same : SideSame OneAfterAnother Upper i uv k (k + 1) us ur ui s s₁ p
    plain-same = rw w at same

    plain-begun : Begun i s₁
    plain-begun = begun-apart plain-same.next.apart plain-met.begun

    pub plain-keep : KeepLower (stored i) i.n k li lv ls li s₁ p.below g.lower
    plain-keep = record {
      below = place;
      few = plain-met.begun.few;
      space = plain-begun.space;
      size = plain-same.next.size;
      list = plain-same.next.lower;
      held = plain-met.lower.0;
      stores = plain-met.lower.1;
    }

    pub plain-lower : presented_lower (stored i) lv k ls li ≡ false → other_at way i lv uv ls lr li us ur ui k ≡ true
    unfolding other_at
    plain-lower e = rw w (lower-fault (filled (stored i) k k) _ (presented_side OneAfterAnother Upper i uv k us ur ui) (rw (plain-same.next.diagonal, e)))

    next-plain : (e : Extent) → LowerEnds (stored i) lv k ls li (Some e) → Met OneAfterAnother i lv uv (k + 1) ls lr li us ur ui s₁ (record { lower = e; upper = p.extent; window = 0 })
    unfolding other_at
    next-plain e low =
        let h = plain-met in
        let up = plain-same in
        record {
          same = first_more (other_at OneAfterAnother i lv uv ls lr li us ur ui) k h.same (no-fault (filled (stored i) k k) (presented_lower (stored i) lv k ls li) _ up.next.diagonal low.0 up.same);
          most = omega arith;
          begun = plain-begun;
          fresh = rw add-one up.next.last;
          lower = (low.1, h.lower.1);
          upper = up.next.at;
        }

    pub plain-next : (e : Extent) → LowerEnds (stored i) lv k ls li (Some e) → Met way i lv uv (k + 1) ls lr li us ur ui s₁ (record { lower = e; upper = p.extent; window = 0 })
    plain-next e low = rw w (next-plain e low)

-- no run starts of a lower side are read
met-plain : {i : Input} {lv uv k : ℕ} {ls lr li us ur ui s : List ℕ} {g : Reached} → Met OneAfterAnother i lv uv k ls lr li us ur ui s g → (lr' : List ℕ) → Met OneAfterAnother i lv uv k ls lr' li us ur ui s g
unfolding other_at
met-plain h lr' = record { same = h.same; most = h.most; begun = h.begun; fresh = h.fresh; lower = h.lower; upper = h.upper }

pub plain_back : (i : Input) (lv uv k : ℕ) (ls lr li us ur ui s : List ℕ) (o : Option Reached) → PlaceEnds OneAfterAnother i lv uv k ls ls li us ur ui s o → PlaceEnds OneAfterAnother i lv uv k ls lr li us ur ui s o
unfolding other_at
plain_back i lv uv k ls lr li us ur ui s None h = h
plain_back i lv uv k ls lr li us ur ui s (Some g) h = met-plain h lr

-- ---- the shared form: the lower side goes first

module _ {way : Way} (w : way ≡ Sharing) {i : Input} {lv uv k : ℕ} {ls lr li us ur ui s : List ℕ} {g : Reached} (met : Met way i lv uv k ls lr li us ur ui s g) (place : k < i.n) where
  shared-met : Met Sharing i lv uv k ls lr li us ur ui s g
  shared-met = rw w at met

  pub lower-due : SideAt way Lower i li lv k (k + k + 1) g.window ls lr li s g.lower
  lower-due = let h = shared-met in rw w (record { begun = h.begun; below = place; fresh = h.fresh; ready = h.lower.1; at = h.lower.0 })

  pub shared-lower-other : (filled (flip (stored i)) k k && presented_side way Lower i lv k ls lr li) ≡ false → other_at way i lv uv ls lr li us ur ui k ≡ true
  unfolding other_at
  shared-lower-other e =
      rw w (lower-fault (filled (stored i) k k) _ (presented_side Sharing Upper i uv k us ur ui) (ap (λ b. b && presented_side Sharing Lower i lv k ls lr li) (sym (filled-flip (stored i) k k)) ∙ (rw w at e)))

  module _ {s₁ : List ℕ} {l : SidePlace} (same : SideSame way Lower i lv k (k + k + 1) ls lr li s s₁ l) where
    lower-same : SideSame Sharing Lower i lv k (k + k + 1) ls lr li s s₁ l
    lower-same = rw w at same

    lower-begun : Begun i s₁
    lower-begun = begun-apart lower-same.next.apart shared-met.begun

    due-upper : SideAt Sharing Upper i ui uv k (k + k + 1 + 1) 0 us ur ui s₁ g.upper
    due-upper =
        let u = shared-met.upper in
        record {
          begun = lower-begun;
          below = place;
          fresh = rw add-one lower-same.next.last;
          ready = tt;
          at = record { held = u.held; cut = upper-cuts (stored i) i.n k s s₁ place lower-same.next.apart u.cut; stores = u.stores };
        }

    pub upper-due : SideAt way Upper i ui uv k (k + k + 1 + 1) 0 us ur ui s₁ g.upper
    upper-due = rw w due-upper

    pub shared-upper-other : (filled (stored i) k k && presented_side way Upper i uv k us ur ui) ≡ false → other_at way i lv uv ls lr li us ur ui k ≡ true
    unfolding other_at
    shared-upper-other e = rw w (upper-fault (filled (stored i) k k) (presented_side Sharing Lower i lv k ls lr li) (presented_side Sharing Upper i uv k us ur ui) (rw w at e))

    module _ {s₂ : List ℕ} {u : SidePlace} where
      next-shared : SideSame Sharing Upper i uv k (k + k + 1 + 1) us ur ui s₁ s₂ u
          → Met Sharing i lv uv (k + 1) ls lr li us ur ui s₂ (record { lower = l.extent; upper = u.extent; window = l.window })
      unfolding other_at
      next-shared up =
          let t : k + 1 + (k + 1) + 1 ≡ suc (k + k + 1 + 1) = omega arith in
          let h = shared-met in
          let low = lower-same in
          record {
            same = first_more (other_at Sharing i lv uv ls lr li us ur ui) k h.same (no-fault (filled (stored i) k k) (presented_side Sharing Lower i lv k ls lr li) _ up.next.diagonal low.same up.same);
            most = omega arith;
            begun = begun-apart up.next.apart lower-begun;
            fresh = rw t up.next.last;
            lower = shared-lower place low.next up.next.apart;
            upper = up.next.at;
          }

      pub shared-next : SideSame way Upper i uv k (k + k + 1 + 1) us ur ui s₁ s₂ u → Met way i lv uv (k + 1) ls lr li us ur ui s₂ (record { lower = l.extent; upper = u.extent; window = l.window })
      shared-next up = rw w (next-shared (rw w at up))
