-- One place of the two forms whose lists share runs: from what it finds to what place k + 1 finds. The upper side's laws are one for both.
use Rattle.std.specs.Prelude.{Err}
use mathlib.Core.Path.{◌≡◌, refl, sym, ◌∙◌}
use mathlib.Core.Bool.{Bool, true, false}
use mathlib.Core.List.{List, []}
use Prim.Native.Nat.{ℕ, suc, ◌+◌, ◌*◌, ◌<◌, ◌≤◌}
use native.Mathlib.Omega.{arith}
use native.Mathlib.Numerals.{add-one}
use lib.ListN.{length}
use Rattle.base.specs.Lists.{sum}
use Rattle.base.specs.AscLaws.{sum-le}
use Rattle.base.specs.Answers.{spot}
use Rattle.base.specs.declared.Form.{Form}
use Rattle.base.specs.declared.Form.TheVariants.{Shared, ByRow}
use Rattle.base.specs.declared.Side.TheVariants.{Lower, Upper}
use Rattle.base.specs.declared.Refusal.TheVariants.{NullPivot, LowerSlots, UpperSlots}
use Rattle.fill.specs.Fill.{Pattern, filled, upper_row, lower_row, flip}
use Rattle.fill.proofs.RowRule.{filled-flip}
use Rattle.matrix.specs.Input.{Input, stored}
use Rattle.placement.specs.PlacingLaws.{room}
use Rattle.marks.specs.Marks.{Fresh}
use Rattle.marks.specs.Rows.{Stored, Cuts, row_steps}
use Rattle.marks.specs.RenewLaws.{cuts-kept}
use Rattle.marks.specs.ListLaws.{lower-le}
use Rattle.outcome.specs.Structure.{fits, ask_places}
use Rattle.storing.specs.Ways.{way_of}
use Rattle.storing.specs.declared.Way.TheVariants.{Sharing}
use Rattle.storing.specs.declared.Extent.{Extent}
use Rattle.symbolic.specs.Places.{Apart, Begun, Adding, SideAt, SideNext, SideFails, refusal_of}
use Rattle.symbolic.specs.declared.SideError.{SideError}
use Rattle.symbolic.specs.declared.SideError.TheVariants.{NoDiagonal, NoRoom}
use Rattle.symbolic.specs.Pass.{slots_of, placing_of, stamp_at, LowerAt, At}
use Rattle.symbolic.specs.declared.SidePlace.{SidePlace}
use Rattle.symbolic.specs.declared.Progress.{Progress}
use Rattle.symbolic.proofs.Opening.{begun-apart, rows_apart, ready-kept}
use Rattle.symbolic.proofs.Keeping.{stored-held}
use Rattle.symbolic.proofs.Asking.{fits-upper, fits-shared, stop-null, stop-lower, stop-upper, goes_on}
use Rattle.base.specs.Scratch.{upper_cuts, lower_cuts}
use Rattle.base.specs.Limits.{max_rows}

stored-before : {P : Pattern} {n k : ℕ} {starts runs index : List ℕ} → Stored P n (k + 1) starts runs index → Stored P n k starts runs index
stored-before h = record { list = λ i b. h.list i (omega arith); read = λ i b. h.read i (omega arith) }

-- ---- the upper side: s₁ is scratch once the lower side is done, t the upper side's stamp

module _ (f : Form) (sharing : placing_of f ≡ Sharing) (i : Input) (low : List ℕ) (lv : ℕ) (up : List ℕ) (uv k : ℕ) (ls lr li us ur ui s : List ℕ) (g : Progress)
    (h : At f i low lv up uv k ls lr li us ur ui s g) (place : k < i.n) where
  abbrev n : ℕ
  n = i.n

  abbrev P : Pattern
  P = stored i

  pub upper-null : filled P k k ≡ false → ask_places f P n (slots_of (length low) lv (length up) uv) n ≡ Err (NullPivot (spot k))
  upper-null a = stop-null f P n _ k place h.passed a

  pub upper-due : (t : ℕ) (s₁ : List ℕ) → Begun i s₁ → Fresh n t s₁ → Cuts P n k (upper_cuts n) s₁ → SideAt Sharing Upper i up uv k t 0 us ur ui s₁ g.upper
  upper-due t s₁ begun fresh cut =
      let l = h.upper in
      record { begun = begun; below = place; fresh = fresh; ready = tt; at = rw (← sharing) (record { held = l.held; cut = cut; stores = l.stores }) }

  module _ (lower : fits f Lower P n (slots_of (length low) lv (length up) uv) k ≡ true) where
    upper_fits : (b : Bool) → room (way_of Sharing) (upper_row P n) (lower_row P) (length up) uv k ≡ b → fits f Upper P n (slots_of (length low) lv (length up) uv) k ≡ b
    upper_fits b e = fits-upper P n (length low) lv (length up) uv k f ∙ rw sharing e

    pub upper-full : (filled P k k ≡ true) × (room (way_of Sharing) (upper_row P n) (lower_row P) (length up) uv k ≡ false)
        → ask_places f P n (slots_of (length low) lv (length up) uv) n ≡ Err (UpperSlots (spot k))
    upper-full e = stop-upper f P n _ k place h.passed e.0 lower (upper_fits false e.1)

    -- the list is not placed: the pass ends
    pub upper-stop : (e : SideError) → SideFails Sharing Upper i up uv k e
        → ask_places f P n (slots_of (length low) lv (length up) uv) n ≡ Err (refusal_of e Upper (spot k))
    upper-stop NoDiagonal d = upper-null d
    upper-stop NoRoom d = upper-full d

    module _ (t : ℕ) (s₁ : List ℕ) (begun : Begun i s₁) (us' ur' ui' s₂ : List ℕ) (p : SidePlace) (next : SideNext Sharing Upper i up uv k t us' ur' ui' s₁ s₂ p) where
      begun-next : Begun i s₂
      begun-next = begun-apart next.apart begun

      pub upper-adding : Adding P n k us' ur' ui' s₂ p.below g.products
      upper-adding = record {
        below = place;
        few = begun.few;
        space = begun-next.space;
        size = next.size;
        list = next.lower;
        store = stored-before (stored-held (omega arith) next.at.held);
        before = h.products-are;
      }

      pub upper-next : (ls' lr' li' : List ℕ) (e : Extent) (products window : ℕ) → products ≡ sum (k + 1) (row_steps P n) → stamp_at f (k + 1) ≡ suc t
          → LowerAt f i low lv (k + 1) ls' lr' li' s₂ e window
          → At f i low lv up uv (k + 1) ls' lr' li' us' ur' ui' s₂ (record { lower = e; upper = p.extent; products = products; window = window })
      upper-next ls' lr' li' e products window sums stamp l = record {
        passed = goes_on f P n _ k place h.passed next.diagonal lower (upper_fits true next.fits);
        most = omega arith;
        begun = begun-next;
        fresh = rw stamp next.last;
        lower = l;
        upper = rw sharing next.at;
        products-are = sums;
      }

-- ---- the row form: its lower entries are counted

module _ (i : Input) (low : List ℕ) (lv : ℕ) (up : List ℕ) (uv k : ℕ) (us ur ui s : List ℕ) (g : Progress) (h : At ByRow i low lv up uv k [] [] [] us ur ui s g) (place : k < i.n) where
  pub row-due : SideAt Sharing Upper i up uv k (k + 1) 0 us ur ui s g.upper
  row-due = upper-due ByRow refl i low lv up uv k [] [] [] us ur ui s g h place (k + 1) s h.begun h.fresh h.upper.cut

  module _ (below : ℕ) (size : below ≡ length (lower_row (stored i) k)) where
    pub row_counts : g.lower.entries + below ≡ sum (k + 1) (λ j. length (lower_row (stored i) j))
    unfolding sum
    row_counts = rw (add-one, size, h.lower)

    -- they fit a word
    pub row_small : g.lower.entries + below ≤ 4294967296
    row_small =
        let few = h.begun.few in
        let a = sum-le (k + 1) max_rows (λ j. length (lower_row (stored i) j)) (λ j l. omega (arith, lower-le (stored i) j)) in
        let b : (k + 1) * max_rows ≤ max_rows * max_rows = omega arith in
        omega (arith, row_counts)

-- ---- the shared form: the lower side goes first

-- it leaves the cuts of the upper lists as they are
pub upper-cuts : (P : Pattern) (n k : ℕ) (s s₁ : List ℕ) → k < n → Apart Lower n s s₁ → Cuts P n k (upper_cuts n) s → Cuts P n k (upper_cuts n) s₁
upper-cuts P n k s s₁ place a c = cuts-kept P n k (upper_cuts n) s s₁ (λ j l. a.foreign (upper_cuts n + j) (omega arith, omega arith)) c

-- and the upper side what the lower one has left
pub shared-lower : {i : Input} {low : List ℕ} {lv k t : ℕ} {ls lr li s s₁ : List ℕ} {p : SidePlace} → k < i.n → SideNext Sharing Lower i low lv k t ls lr li s s₁ p → {s₂ : List ℕ} → Apart Upper i.n s₁ s₂
    → LowerAt Shared i low lv (k + 1) ls lr li s₂ p.extent p.window
shared-lower {i} {k = k} {s₁ = s₁} place next {s₂} a =
    let l = next.at in (
      record {
        held = l.held;
        cut = cuts-kept (flip (stored i)) i.n (k + 1) (lower_cuts i.n) s₁ s₂ (λ j b. a.foreign (lower_cuts i.n + j) (omega arith, λ w. absurd (omega arith))) l.cut;
        stores = l.stores;
      },
      rw (rows_apart Upper i s₁ s₂ a) (ready-kept (λ q b c d. a.foreign q (omega arith, d)) next.ready),
    )

module _ (i : Input) (low : List ℕ) (lv : ℕ) (up : List ℕ) (uv k : ℕ) (ls lr li us ur ui s : List ℕ) (g : Progress) (h : At Shared i low lv up uv k ls lr li us ur ui s g) (place : k < i.n) where
  pub lower-due : SideAt Sharing Lower i low lv k (k + k + 1) g.window ls lr li s g.lower
  lower-due = record { begun = h.begun; below = place; fresh = h.fresh; ready = h.lower.1; at = h.lower.0 }

  pub lower-null : filled (flip (stored i)) k k ≡ false → ask_places Shared (stored i) i.n (slots_of (length low) lv (length up) uv) i.n ≡ Err (NullPivot (spot k))
  lower-null a = stop-null Shared (stored i) i.n _ k place h.passed (sym (filled-flip (stored i) k k) ∙ a)

  pub lower-full : (filled (flip (stored i)) k k ≡ true) × (room (way_of Sharing) (upper_row (flip (stored i)) i.n) (lower_row (flip (stored i))) (length low) lv k ≡ false)
      → ask_places Shared (stored i) i.n (slots_of (length low) lv (length up) uv) i.n ≡ Err (LowerSlots (spot k))
  lower-full e =
      stop-lower Shared (stored i) i.n _ k place h.passed (sym (filled-flip (stored i) k k) ∙ e.0) (fits-shared (stored i) i.n (length low) lv (length up) uv k ∙ e.1)

  pub lower-stop : (e : SideError) → SideFails Sharing Lower i low lv k e
      → ask_places Shared (stored i) i.n (slots_of (length low) lv (length up) uv) i.n ≡ Err (refusal_of e Lower (spot k))
  lower-stop NoDiagonal d = lower-null d
  lower-stop NoRoom d = lower-full d

  module _ (ls' lr' li' s₁ : List ℕ) (p : SidePlace) (next : SideNext Sharing Lower i low lv k (k + k + 1) ls' lr' li' s s₁ p) where
    pub lower-begun : Begun i s₁
    lower-begun = begun-apart next.apart h.begun

    pub lower-fits : fits Shared Lower (stored i) i.n (slots_of (length low) lv (length up) uv) k ≡ true
    lower-fits = fits-shared (stored i) i.n (length low) lv (length up) uv k ∙ next.fits

    pub shared_due : SideAt Sharing Upper i up uv k (k + k + 1 + 1) 0 us ur ui s₁ g.upper
    shared_due =
        upper-due Shared refl i low lv up uv k ls lr li us ur ui s g h place (k + k + 1 + 1) s₁ lower-begun (rw add-one next.last)
        (upper-cuts (stored i) i.n k s s₁ place next.apart h.upper.cut)
