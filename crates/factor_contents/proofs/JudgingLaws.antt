-- Question 15 and the products of a file, by the numbers that the code reads where they stand.
use mathlib.Core.Path.{◌≡◌, refl, sym, ap, ap₂, ◌∙◌}
use mathlib.Core.Bool.{Bool, true, false, not, ◌&&◌, ◌||◌}
use mathlib.Core.Bool as bools
use mathlib.Core.List.{List, [], ◌∷◌}
use Prim.Native.Nat.{ℕ, zero, suc, ◌+◌, ◌-◌, ◌*◌, ◌<◌, ◌≤◌}
use native.Mathlib.Omega.{arith}
use lib.ListN.{length, get_or, drop, get_or-eq_default}
use lib.Dec.{leb, ltb, eqb}
use lib.Ieee.{Float, binary64, of_bits, nan}
use lib.Ieee.Scale.{finite}
use borrow.Author.Tests.{lt-ltb, le-ltb, ltb-false}
use Rattle.std.specs.List.{list_all, sum_by, range_with_len}
use Rattle.std.proofs.lemmas.List.Sums.{sum_by-cons}
use Rattle.base.specs.Lists.{list_at, total}
use Rattle.base.specs.Tests.{or-false}
use Rattle.base.specs.declared.Form.TheVariants.{Plain}
use Rattle.base.specs.declared.Side.{Side}
use Rattle.base.specs.declared.Side.TheVariants.{Lower, Upper}
use Rattle.arithmetic.specs.RowEnd.{finite_all}
use Rattle.lent.specs.Reading.{length_in}
use Rattle.outcome.specs.Buffers.{SideBuffers, side_buffers}
use Rattle.outcome.specs.Resolve.{given_list, given_values, rises_in, right_side, misplaced, bad_list, bad_at, ask_factors}
use Rattle.factors.specs.Presented.{presented}
use Rattle.factors.specs.PresentedLaws as presented-laws
use Rattle.factors.specs.PresentedLaws.{place-good}
use Rattle.fields.specs.Numbers.{le}
use Rattle.fields.specs.Payload.{payload, fields_at, floats_at}
use Rattle.fields.proofs.PartLaws.{length-fields_at}
use Rattle.fields.proofs.WindowLaws.{field-at, fields-part, fields-none, fields-first, length-floats_at, float-at, floats-part, floats-none, floats-first}
use Rattle.factor_contents.specs.FactorFile.{upper_starts_at, lower_index_at, upper_index_at, lower_values_at, d_at, upper_values_at, lists_at, products_of}
use Rattle.factor_contents.specs.Judging.{side_at, presented_lists}

-- ---- a list, asked from number i on: j is that number, t whether it is in its range

module _ (file : List ℕ) (at count lo hi i j : ℕ) (t : Bool) (e : j ≡ le 2 (payload file) (at + 2 * i)) (b : t ≡ (leb lo j && ltb j hi)) (h : i < count) where
  abbrev list : List ℕ
  list = fields_at 2 file at count

  abbrev there : j ≡ get_or list i 0
  there = e ∙ sym (field-at 2 file at count i h)

  abbrev inside : i < length list
  inside = rw (length-fields_at 2 file at count) h

  pub rises-more : t ≡ true → rises_in (j + 1) hi (drop (i + 1) list) ≡ rises_in lo hi (drop i list)
  rises-more = presented-laws.rises-more lo hi list i j t there b inside

  pub rises-stop : t ≡ false → rises_in lo hi (drop i list) ≡ false
  rises-stop = presented-laws.rises-stop lo hi list i j t there b inside

pub rises-end : (file : List ℕ) (at count lo hi i : ℕ) → count ≤ i → rises_in lo hi (drop i (fields_at 2 file at count)) ≡ true
rises-end file at count lo hi i h = presented-laws.rises-end lo hi (fields_at 2 file at count) i (rw (length-fields_at 2 file at count) h)

-- ---- numbers, each asked where it stands

module _ (file : List ℕ) (at : ℕ) where
  abbrev float_at : ℕ → Float
  float_at i = of_bits binary64 (le 8 (payload file) (at + 8 * i))

  finite-from : (k n : ℕ) → list_all (λ i. finite (float_at i)) (range_with_len k n) ≡ finite_all (floats_at file (at + 8 * k) n)
  finite-from k zero = sym (ap finite_all (floats-none file (at + 8 * k)))
  finite-from k (suc n) =
      let m : floats_at file (at + 8 * k) (suc n) ≡ float_at k ∷ floats_at file (at + 8 * (k + 1)) n =
      floats-first file (at + 8 * k) (suc n) (omega arith) ∙ ap₂ (λ (p : ℕ) (m : ℕ). float_at k ∷ floats_at file p m) (omega arith) (omega arith) in
      ap (λ b. finite (float_at k) && b) (finite-from (k + 1) n) ∙ sym (ap finite_all m)

  pub finite-all-at : (n : ℕ) → list_all (λ i. finite (float_at i)) (range_with_len 0 n) ≡ finite_all (floats_at file at n)
  finite-all-at n = finite-from 0 n ∙ ap (λ (p : ℕ). finite_all (floats_at file p n)) (omega arith)

-- ---- a side at place k, whose list begins at lo and ends at hi

or-twice : (a c : Bool) → (a || false || c || c) ≡ (a || c)
or-twice true c = refl
or-twice false true = refl
or-twice false false = refl

pub within : (k begin entries hi : ℕ) → ((eqb k 0 && not (eqb begin 0)) || ltb entries hi) ≡ false → hi ≤ entries
within k begin entries hi t = ltb-false entries hi (or-false (eqb k 0 && not (eqb begin 0)) (ltb entries hi) t).1

module _ (file : List ℕ) (n s : ℕ) where
  pub start_is : (k x : ℕ) → k ≤ n → x ≡ le 4 (payload file) (s + 4 * k) → get_or (fields_at 4 file s (n + 1)) k 0 ≡ x
  start_is k x l e = field-at 4 file s (n + 1) k (omega arith) ∙ sym e

  module _ (w : Side) (k i v entries begin lo hi : ℕ) (inside : k < n)
      (eb : begin ≡ le 4 (payload file) (s + 4 * 0)) (el : lo ≡ le 4 (payload file) (s + 4 * k)) (eh : hi ≡ le 4 (payload file) (s + 4 * (k + 1))) where
    abbrev side : SideBuffers
    side = side_at file n s i v entries

    first-is : get_or side.starts 0 0 ≡ begin
    first-is = start_is 0 begin (omega arith) eb

    lo-is : get_or side.starts k 0 ≡ lo
    lo-is = start_is k lo (omega arith) el

    hi-is : get_or side.starts (k + 1) 0 ≡ hi
    hi-is = start_is (k + 1) hi (omega arith) eh

    pub good-falls : hi < lo → false ≡ not (bad_list Plain w n side k)
    unfolding bad_list misplaced
    good-falls h = rw (lo-is, hi-is, lt-ltb hi lo h, bools.or-true)

    module _ (rise : lo ≤ hi) where
      misplaced-is : misplaced Plain side k ≡ ((eqb k 0 && not (eqb begin 0)) || ltb entries hi)
      unfolding misplaced
      misplaced-is =
          let e : lo + (hi - lo) ≡ hi = omega arith in
          rw (first-is, lo-is, hi-is, length-fields_at 2 file i entries, length-floats_at file v entries, le-ltb hi lo rise, e) (or-twice (eqb k 0 && not (eqb begin 0)) (ltb entries hi))

      pub good-outside : ((eqb k 0 && not (eqb begin 0)) || ltb entries hi) ≡ true → false ≡ not (bad_list Plain w n side k)
      unfolding bad_list
      good-outside t = rw (misplaced-is, t)

      module _ (t : ((eqb k 0 && not (eqb begin 0)) || ltb entries hi) ≡ false) where
        list-is : given_list Plain side k ≡ fields_at 2 file (i + 2 * lo) (hi - lo)
        unfolding given_list list_at
        list-is = rw (lo-is, hi-is) (fields-part 2 file i lo (hi - lo) entries (omega (arith, within k begin entries hi t)))

        values-are : given_values side k ≡ floats_at file (v + 8 * lo) (hi - lo)
        unfolding given_values list_at
        values-are = rw (lo-is, hi-is) (floats-part file v lo (hi - lo) entries (omega (arith, within k begin entries hi t)))

        module _ (u : Bool) (eu : u ≡ right_side Plain w n k (fields_at 2 file (i + 2 * lo) (hi - lo))) where
          placed : right_side Plain w n k (given_list Plain side k) ≡ u
          placed = ap (right_side Plain w n k) list-is ∙ sym eu

          pub good-aside : u ≡ false → false ≡ not (bad_list Plain w n side k)
          unfolding bad_list
          good-aside g = rw (misplaced-is, t, placed, g)

          pub good-values : (z : Bool) → z ≡ finite_all (floats_at file (v + 8 * lo) (hi - lo)) → u ≡ true → z ≡ not (bad_list Plain w n side k)
          unfolding bad_list
          good-values z ez g = rw (misplaced-is, t, placed, g, values-are, ← ez) (sym (bools.not-not z))

-- a start, where s is spelt otherwise
pub start-there : (file : List ℕ) (n s t k x : ℕ) → s ≡ t → k ≤ n → x ≡ le 4 (payload file) (s + 4 * k) → get_or (fields_at 4 file t (n + 1)) k 0 ≡ x
start-there file n s t k x es l e = rw (← es) (start_is file n s k x l e)

-- d(k)
pub pivot-is : (file : List ℕ) (d n k w : ℕ) (x : Float) (t : Bool) → k < n → w ≡ le 8 (payload file) (d + 8 * k) → x ≡ of_bits binary64 w → t ≡ finite x
    → t ≡ finite (get_or (floats_at file d n) k nan)
pivot-is file d n k w x t l ew ex et = rw (float-at file d n k nan l, ← ew, ← ex) et

-- a place, by where its parts begin
module _ (file : List ℕ) (n lower upper k s i j v d w : ℕ) (below above pivot : Bool) (es : s ≡ upper_starts_at n) (ei : i ≡ lower_index_at n) (ej : j ≡ upper_index_at n lower)
    (ev : v ≡ lower_values_at n lower upper) (ed : d ≡ d_at n lower upper) (ew : w ≡ upper_values_at n lower upper) where
  pub place_is : below ≡ not (bad_list Plain Lower n (side_at file n 20 i v lower) k) → above ≡ not (bad_list Plain Upper n (side_at file n s j w upper) k)
      → pivot ≡ finite (get_or (floats_at file d n) k nan) → (below && above && pivot) ≡ not (bad_at Plain n (presented_lists (lists_at file n lower upper)) k)
  unfolding lists_at
  place_is hb ha hd =
      place-good Plain n (presented_lists (lists_at file n lower upper)) k below above pivot
      (hb ∙ ap₂ (λ (i : ℕ) (v : ℕ). not (bad_list Plain Lower n (side_at file n 20 i v lower) k)) ei ev)
      (ha ∙ (λ t. not (bad_list Plain Upper n (side_at file n (es t) (ej t) (ew t) upper) k)))
      (hd ∙ ap (λ (d : ℕ). finite (get_or (floats_at file d n) k nan)) ed)

-- ---- the length of list j, and the sum of them

module _ (file : List ℕ) (s n j : ℕ) where
  pub length-beyond : n ≤ j → 0 ≡ length_in (fields_at 4 file s (n + 1)) j
  length-beyond h =
      let e : get_or (fields_at 4 file s (n + 1)) (j + 1) 0 ≡ 0 = get_or-eq_default (fields_at 4 file s (n + 1)) 0 {n = j + 1} (rw (length-fields_at 4 file s (n + 1)) (omega arith)) in
      rw e (omega arith)

  module _ (lo hi : ℕ) (l : j < n) (el : lo ≡ le 4 (payload file) (s + 4 * j)) (eh : hi ≡ le 4 (payload file) (s + 4 * (j + 1))) where
    pub length-is : (r : ℕ) → r ≡ hi - lo → r ≡ length_in (fields_at 4 file s (n + 1)) j
    length-is r e = rw (start_is file n s j lo (omega arith) el, start_is file n s (j + 1) hi (omega arith) eh) e

-- the lengths of the lists that numbers name, each read where it stands
module _ (file S : List ℕ) (at : ℕ) where
  abbrev named : ℕ → ℕ
  named i = length_in S (le 2 (payload file) (at + 2 * i))

  products-from : (k n : ℕ) → sum_by named (range_with_len k n) ≡ products_of (fields_at 2 file (at + 2 * k) n) S
  unfolding products_of total
  products-from k zero = sym (ap (λ (l : List ℕ). products_of l S) (fields-none 2 file (at + 2 * k)))
  products-from k (suc n) =
      let m : fields_at 2 file (at + 2 * k) (suc n) ≡ le 2 (payload file) (at + 2 * k) ∷ fields_at 2 file (at + 2 * (k + 1)) n =
      fields-first 2 file (at + 2 * k) (suc n) (omega arith) ∙ ap₂ (λ (p : ℕ) (m : ℕ). le 2 (payload file) (at + 2 * k) ∷ fields_at 2 file p m) (omega arith) (omega arith) in
      sum_by-cons named k (range_with_len (k + 1) n) ∙ (ap (λ (r : ℕ). named k + r) (products-from (k + 1) n) ∙ sym (ap (λ (l : List ℕ). products_of l S) m))

  pub products-at : (n : ℕ) → sum_by named (range_with_len 0 n) ≡ products_of (fields_at 2 file at n) S
  products-at n = products-from 0 n ∙ ap (λ (p : ℕ). products_of (fields_at 2 file p n) S) (omega arith)

-- ---- the same of lent lists

pub length_none : (starts : List ℕ) (j : ℕ) → length starts ≤ j + 1 → 0 ≡ length_in starts j
length_none starts j h = let e : get_or starts (j + 1) 0 ≡ 0 = get_or-eq_default starts 0 {n = j + 1} h in rw e (omega arith)

pub products-all : (index starts : List ℕ) → sum_by (length_in starts) index ≡ products_of index starts
unfolding products_of total
products-all [] starts = refl
products-all (x ∷ xs) starts = sum_by-cons (length_in starts) x xs ∙ ap (λ (r : ℕ). length_in starts x + r) (products-all xs starts)

-- the plain form's list starts are its run starts
pub runs-alike : (n : ℕ) (ls li : List ℕ) (lv : List Float) (us ui : List ℕ) (uv d : List Float)
    → ask_factors Plain n (presented (side_buffers ls ls li lv) (side_buffers us us ui uv) d) ≡ ask_factors Plain n (presented (side_buffers ls [] li lv) (side_buffers us [] ui uv) d)
unfolding ask_factors bad_at bad_list misplaced given_list given_values
runs-alike n ls li lv us ui uv d = refl
