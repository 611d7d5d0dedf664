-- One place of the plain form: from what it finds to what place k + 1 finds.
use Rattle.std.specs.Prelude.{Err}
use mathlib.Core.Path.{◌≡◌, ◌∙◌}
use mathlib.Core.Bool.{true, false}
use mathlib.Core.List.{List}
use Prim.Native.Nat.{ℕ, ◌+◌, ◌<◌}
use native.Mathlib.Omega.{arith}
use native.Mathlib.Numerals.{add-one}
use lib.ListN.{length}
use Rattle.base.specs.Lists.{sum}
use Rattle.base.specs.Answers.{spot}
use Rattle.base.specs.declared.Form.TheVariants.{Plain}
use Rattle.base.specs.declared.Side.TheVariants.{Upper}
use Rattle.base.specs.declared.Refusal.TheVariants.{NullPivot, LowerSlots, UpperSlots}
use Rattle.fill.specs.Fill.{Pattern, filled, upper_row, lower_row, flip}
use Rattle.matrix.specs.Input.{Input, stored}
use Rattle.placement.specs.Placing.{plain}
use Rattle.placement.specs.PlacingLaws.{room}
use Rattle.marks.specs.Marks.{Room}
use Rattle.marks.specs.Rows.{row_steps}
use Rattle.outcome.specs.Structure.{ask_places}
use Rattle.storing.specs.Held.{Holding}
use Rattle.storing.specs.declared.Way.TheVariants.{OneAfterAnother}
use Rattle.storing.specs.declared.Extent.{Extent}
use Rattle.symbolic.specs.Places.{Open, RowFound, Keep, ListKept, KeepLower, Adding}
use Rattle.symbolic.specs.Pass.{slots_of, At}
use Rattle.symbolic.specs.declared.OpenRow.{OpenRow}
use Rattle.symbolic.specs.declared.Progress.{Progress}
use Rattle.symbolic.proofs.Opening.{begun-apart}
use Rattle.symbolic.proofs.Keeping.{stored-held}
use Rattle.symbolic.proofs.Sides.{lists-open, room-found, lists-keep, side-apart, side-last}
use Rattle.symbolic.proofs.Asking.{fits-upper, fits-plain, stop-null, stop-lower, stop-upper, goes_on}
use Rattle.base.specs.Scratch.{upper_cuts}

module _ (i : Input) (low : List ℕ) (lv : ℕ) (up : List ℕ) (uv k : ℕ) (ls li us ui s : List ℕ) (g : Progress) (h : At Plain i low lv up uv k ls ls li us us ui s g) (place : k < i.n) where
  abbrev n : ℕ
  n = i.n

  abbrev P : Pattern
  P = stored i

  pub plain-open : Open Upper i k (k + 1) 0 us us ui s
  plain-open = lists-open h.begun place h.upper h.fresh tt

  pub plain-null : filled P k k ≡ false → ask_places Plain P n (slots_of (length low) lv (length up) uv) n ≡ Err (NullPivot (spot k))
  plain-null a = stop-null Plain P n _ k place h.passed a

  module _ (s₁ : List ℕ) (o : OpenRow) (found : RowFound Upper i k (k + 1) s s₁ o) where
    space : Room n s₁
    space = room-found h.begun place h.upper found

    pub plain-lower : KeepLower P n k low lv ls li s₁ o.below g.lower
    plain-lower = record {
      below = place;
      few = h.begun.few;
      space = space;
      size = found.lists.below-is;
      list = found.lists.lower;
      held = h.lower.0;
      stores = h.lower.1;
    }

    pub plain-short : room plain (lower_row P) (lower_row (flip P)) (length low) lv k ≡ false → ask_places Plain P n (slots_of (length low) lv (length up) uv) n ≡ Err (LowerSlots (spot k))
    plain-short b = stop-lower Plain P n _ k place h.passed found.diagonal (fits-plain P n (length low) lv (length up) uv k ∙ b)

    pub plain-adding : Adding P n k us us ui s₁ o.below g.products
    plain-adding = record {
      below = place;
      few = h.begun.few;
      space = space;
      size = found.lists.below-is;
      list = found.lists.lower;
      store = stored-held h.most h.upper.held;
      before = h.products-are;
    }

    pub plain-keep : Keep OneAfterAnother P n k (k + 1) (upper_cuts n) up uv us us ui s₁ o g.upper
    plain-keep = lists-keep h.begun place h.upper found

    module _ (fits : room plain (lower_row P) (lower_row (flip P)) (length low) lv k ≡ true) where
      pub plain-full : room plain (upper_row P n) (lower_row P) (length up) uv k ≡ false → ask_places Plain P n (slots_of (length low) lv (length up) uv) n ≡ Err (UpperSlots (spot k))
      plain-full c =
          stop-upper Plain P n _ k place h.passed found.diagonal (fits-plain P n (length low) lv (length up) uv k ∙ fits) (fits-upper P n (length low) lv (length up) uv k Plain ∙ c)

      pub plain-next : (ls' li' : List ℕ) (e : Extent) → Holding OneAfterAnother (lower_row P) (lower_row (flip P)) lv (k + 1) low ls' ls' li' e → length ls' ≡ length ls
          → (p : ℕ) → p ≡ sum (k + 1) (row_steps P n) → (us' ui' s₂ : List ℕ) (u : Extent) → length s₂ ≡ length s₁ → ListKept OneAfterAnother P n k (upper_cuts n) up uv us' us' ui' s₁ s₂ u
          → At Plain i low lv up uv (k + 1) ls' ls' li' us' us' ui' s₂ (record { lower = e; upper = u; products = p; window = 0 })
      plain-next ls' li' e held size p sums us' ui' s₂ u same kept =
          let z = h.lower.1 in
          record {
            passed = goes_on Plain P n _ k place h.passed found.diagonal (fits-plain P n (length low) lv (length up) uv k ∙ fits) (fits-upper P n (length low) lv (length up) uv k Plain ∙ kept.fits);
            most = omega arith;
            begun = begun-apart (side-apart Upper i k (k + 1) s s₁ s₂ o found place same kept.but) h.begun;
            fresh = rw add-one (side-last Upper i k (k + 1) s s₁ s₂ o found place same kept.but);
            lower = (held, record { starts-size = size ∙ z.starts-size; runs-size = size ∙ z.runs-size; slots-fit = z.slots-fit; values-fit = z.values-fit });
            upper = kept.at;
            products-are = sums;
          }
