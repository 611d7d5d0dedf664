-- Keeping T(k): the stores hold it, and the cuts are those of place k + 1. One law for both ways of placing and both sides.
use mathlib.Core.Path.{◌≡◌, sym, ap, ◌∙◌, subst}
use mathlib.Core.Bool.{true, false}
use mathlib.Core.List.{List, map}
use Prim.Native.Nat.{ℕ, suc, ◌+◌, ◌-◌, ◌<◌, ◌≤◌}
use native.Mathlib.Omega.{arith}
use native.Mathlib.Nat.{add-sub_cancel_left}
use native.Mathlib.Numerals.{add-one}
use lib.ListN.{length, get_or, take, drop}
use lib.Seq.{length-take-le}
use Rattle.base.specs.Lists.{sum, total}
use Rattle.base.specs.AscLaws.{asc-at, length-asc}
use Rattle.fill.specs.Fill.{Pattern, filled, upper_row, lower_row, flip}
use Rattle.placement.specs.PlacingLaws.{room}
use Rattle.lent.specs.Reading.{length_in, ListIn}
use Rattle.marks.specs.Marks.{members}
use Rattle.marks.specs.Rows.{Stored, Renewed, row_steps, Countable}
use Rattle.marks.specs.FillLaws.{upper-below}
use Rattle.marks.specs.ListLaws.{lower-members, lower-le, upper-le, row-products-is, held-countable, products-fit}
use Rattle.storing.specs.Ways.{way_of, Suited}
use Rattle.storing.specs.Slices.{Ready}
use Rattle.storing.specs.Held.{Holding, RowIs, Turn, Stepped}
use Rattle.storing.specs.HeldLaws.{index-long, list_held, list-readable}
use Rattle.storing.specs.StepLaws.{turn-ready}
use Rattle.storing.specs.FillNested.{fill-suited}
use Rattle.storing.specs.declared.Way.{Way}
use Rattle.storing.specs.declared.Way.TheVariants.{OneAfterAnother, Sharing}
use Rattle.storing.specs.declared.Extent.{Extent}
use Rattle.std.specs.Prelude.{Option, Some, None}
use Rattle.symbolic.specs.Places.{run_count, Keep, ListKept, KeepLower, LowerEnds, Adding}
use Rattle.symbolic.specs.declared.OpenRow.{OpenRow}
use Rattle.base.specs.Scratch.{list_from, regions_end}
use Rattle.base.specs.Limits.{max_products}

-- what is told of a value is told of the case that it is
pub told : {A : Type 0} (Q : A → Type 0) {r a : A} → r ≡ a → Q r → Q a
told Q e h = subst Q e h

-- a fill's lists suit both ways
pub suited-of : (way : Way) (P : Pattern) (n : ℕ) → Suited way (upper_row P n) (lower_row P) n
suited-of way P n = fill-suited way P n

-- the lists that are placed can be read
pub stored-held : {way : Way} {P : Pattern} {n values k : ℕ} {index₀ starts runs index : List ℕ} {e : Extent} → k ≤ n
    → Holding way (upper_row P n) (lower_row P) values k index₀ starts runs index e → Stored P n k starts runs index
stored-held {way} {P} {n} {values} {k} {index₀} {starts} {runs} {index} {e} l h = record {
  list = λ i b. list_held h n (suited-of way P n) l i b;
  read = λ i b.
      let r = list-readable h n (suited-of way P n) l i b in
      record { has-run = r.has-run; has-start = r.has-start; rise = r.rise; inside = omega (arith, r.inside, length-take-le e.used index (omega (arith, h.used-in, index-long h)), h.used-in, index-long h) };
}

-- a part of scratch, by its ends
part-is : (a b : ℕ) (s : List ℕ) → take (a + b - a) (drop a s) ≡ take b (drop a s)
part-is a b s = rw add-sub_cancel_left

run-count : (way : Way) (n : ℕ) → n ≤ run_count way n
run-count OneAfterAnother n = omega arith
run-count Sharing n = omega arith

module _ {way : Way} {P : Pattern} {n k t cuts : ℕ} {store : List ℕ} {values : ℕ} {starts runs index s : List ℕ} {o : OpenRow} {e : Extent}
    (h : Keep way P n k t cuts store values starts runs index s o e) where
  -- both lists lie in scratch
  pub keep-fits : list_from n + o.below + o.above < regions_end n
  keep-fits = omega (arith, h.below, h.lists.below-is, h.lists.above-is, lower-le P k, upper-le P n k h.below)

  -- they are read from there
  pub keep_row : take (list_from n + o.below - list_from n) (drop (list_from n) s) ≡ lower_row P k
  keep_row = part-is (list_from n) o.below s ∙ h.lists.lower

  pub keep-list : take (list_from n + o.below + o.above - (list_from n + o.below)) (drop (list_from n + o.below) s) ≡ upper_row P n k
  keep-list = part-is (list_from n + o.below) o.above s ∙ h.lists.upper

  -- lower row k is what cutting walks along
  pub keep-members : take o.below (drop (list_from n) s) ≡ members t s 0 k
  keep-members = h.lists.lower ∙ sym (lower-members P n t k s h.below h.lists.marks)

  pub keep-turn : (row list : List ℕ) → RowIs way (lower_row P k) row → list ≡ upper_row P n k
      → Turn way (upper_row P n) (lower_row P) n values k store starts runs index row list e
  keep-turn row list r l = record { suited = suited-of way P n; below = h.below; row_is = r; list-is = l; held = h.at.held }

  pub keep-ready : (row list : List ℕ) → RowIs way (lower_row P k) row → list ≡ upper_row P n k → Ready way starts runs index values row list k e
  keep-ready row list r l =
      let z = h.at.stores in
      turn-ready (keep-turn row list r l) (omega (arith, h.below, z.runs-size, run-count way n)) (omega (arith, h.below, z.starts-size))
      (omega (arith, z.slots-fit)) (omega (arith, z.values-fit))
      (rw l (λ j b. let u = upper-below P n k j b in omega (arith, h.few)))

  module _ (e' : Extent) (starts' runs' index' : List ℕ) (held : Holding way (upper_row P n) (lower_row P) values (suc k) store starts' runs' index' e') where
    next-store : Stored P n (k + 1) starts' runs' index'
    next-store = let b = h.below in rw add-one (stored-held (omega arith) held)

    -- what renewing the cuts asks for
    pub next-lists : (i : ℕ) → i < k + 1 → ListIn starts' runs' (length index') i
    next-lists = next-store.read

    pub kept_next : room (way_of way) (upper_row P n) (lower_row P) (length store) values k ≡ true → length starts' ≡ length starts → length runs' ≡ length runs
        → (s' : List ℕ) → Renewed n t k cuts starts' runs' index' s s' → ListKept way P n k cuts store values starts' runs' index' s s' e'
    kept_next f a b s' r =
        let z = h.at.stores in
        record {
          fits = f;
          at = record {
            held = rw add-one held;
            cut = (r.held P h.lists.marks next-store h.at.cut (suc t) (omega arith)).cut;
            stores = record { starts-size = a ∙ z.starts-size; runs-size = b ∙ z.runs-size; slots-fit = z.slots-fit; values-fit = z.values-fit };
          };
          but = r.kept;
        }

-- what a step of placing told
pub stepped-done : (way : Way) (T R : ℕ → List ℕ) (values k : ℕ) (index₀ starts runs index : List ℕ) (r : Option Extent) (e : Extent) → r ≡ Some e
    → Stepped way T R values k index₀ starts runs index r → (room (way_of way) T R (length index₀) values k ≡ true) × Holding way T R values (suc k) index₀ starts runs index e
stepped-done way T R values k index₀ starts runs index r e q h = rw q at h

pub stepped-full : (way : Way) (T R : ℕ → List ℕ) (values k : ℕ) (index₀ starts runs index : List ℕ) (r : Option Extent) → r ≡ None
    → Stepped way T R values k index₀ starts runs index r → room (way_of way) T R (length index₀) values k ≡ false
stepped-full way T R values k index₀ starts runs index r q h = rw q at h

-- ---- lower row k in the plain form

lower-below : (P : Pattern) (k j : ℕ) → j < length (lower_row P k) → get_or (lower_row P k) j 0 < k
unfolding lower_row
lower-below P k j l = (asc-at (filled P k) k j (omega (arith, length-asc (filled P k) k))).below

module _ {P : Pattern} {n k : ℕ} {store : List ℕ} {values : ℕ} {starts index s : List ℕ} {count : ℕ} {e : Extent} (h : KeepLower P n k store values starts index s count e) where
  pub lower-fits : list_from n + count < regions_end n
  lower-fits = omega (arith, h.below, h.size, lower-le P k)

  pub lower-turn : (list : List ℕ) → list ≡ take (list_from n + count - list_from n) (drop (list_from n) s)
      → Turn OneAfterAnother (lower_row P) (lower_row (flip P)) n values k store starts starts index list list e
  lower-turn list l = record { suited = tt; below = h.below; row_is = tt; list-is = l ∙ part-is (list_from n) count s ∙ h.list; held = h.held }

  pub lower-ready : (list : List ℕ) → list ≡ take (list_from n + count - list_from n) (drop (list_from n) s) → Ready OneAfterAnother starts starts index values list list k e
  lower-ready list l =
      let z = h.stores in
      turn-ready (lower-turn list l) (omega (arith, h.below, z.starts-size)) (omega (arith, h.below, z.starts-size))
      (omega (arith, z.slots-fit)) (omega (arith, z.values-fit))
      (rw (l, part-is (list_from n) count s, h.list) (λ j b. omega (arith, lower-below P k j b, h.below, h.few)))

-- what a step of placing told of it
pub lower-stepped : (P : Pattern) (values k : ℕ) (store starts index : List ℕ) (r : Option Extent)
    → Stepped OneAfterAnother (lower_row P) (lower_row (flip P)) values k store starts starts index r → LowerEnds P k store values starts index r
lower-stepped P values k store starts index (Some e) h = (h.0, rw add-one h.1)
lower-stepped P values k store starts index None h = h

-- ---- products

module _ {P : Pattern} {n k : ℕ} {starts runs index s : List ℕ} {count products : ℕ} (a : Adding P n k starts runs index s count products) where
  pub adding-fits : list_from n + count < regions_end n
  adding-fits = omega (arith, a.below, a.size, lower-le P k)

  pub adding-countable : (list : List ℕ) → list ≡ take (list_from n + count - list_from n) (drop (list_from n) s) → Countable list starts
  adding-countable list e = held-countable P n k starts runs index a.store (omega (arith, a.below, a.few)) list (e ∙ part-is (list_from n) count s ∙ a.list)

  pub products-next : (r : ℕ) → r ≡ total (map (length_in starts) (take (list_from n + count - list_from n) (drop (list_from n) s))) → products + r ≡ sum (k + 1) (row_steps P n)
  unfolding sum
  products-next r e =
      let q : r ≡ row_steps P n k = e ∙ ap (λ l. total (map (length_in starts) l)) (part-is (list_from n) count s ∙ a.list) ∙ row-products-is P n k starts runs index a.store in
      rw (add-one, q, a.before)

  pub products-small : (r : ℕ) → r ≡ total (map (length_in starts) (take (list_from n + count - list_from n) (drop (list_from n) s))) → products + r ≤ max_products
  products-small r e = rw (products-next r e) (products-fit P n (k + 1) (omega (arith, a.few)) (omega (arith, a.below)))
