-- The system of an input that passed its questions: the fill closes each row, and a row of M is lent as the steps ask for it.
use Rattle.std.specs.Prelude.{◌≡◌, refl, true, ◌&&◌, ◌||◌, List, ◌∷◌, ◌++◌, map, ℕ, ◌+◌, ◌<◌, ◌≤◌, length, get_or, take, drop, eqb, Float}
use Rattle.std.proofs.Math.Path.{sym}
use Rattle.std.proofs.Common.{ap, ◌∙◌, length-take, length-drop}
use native.Mathlib.Omega.{arith}
use Rattle.std.proofs.Math.Decide.{dec_lt}
use Rattle.std.proofs.Math.Dec.{ltb}
use Rattle.std.specs.Float.Ieee.{nan}
use Rattle.std.specs.Float.Ieee.Scale.{finite}
use borrow.Author.Tests.{lt-ltb, ltb-true, eq-eqb}
use Rattle.base.specs.Lists.{has, asc, list_at, row_of}
use Rattle.base.specs.Tests.{and_cases, or_right}
use Rattle.base.specs.AscLaws.{has-asc, has-append, asc-ascends, length-asc}
use Rattle.base.specs.declared.Form.{Form}
use Rattle.base.specs.declared.Side.TheVariants.{Upper}
use Rattle.fill.specs.Fill.{Pattern, filled, upper, upper_row, lower_row}
use Rattle.fill.proofs.RowRule.{filled-stored, filled-through}
use Rattle.matrix.specs.Input.{Input, ic, stored, entries, right_at}
use Rattle.matrix.proofs.OrderLaws.{place-hits}
use Rattle.outcome.specs.Solve.{system}
use Rattle.outcome.specs.Placed.{PlacedSide, starts-long, size-at, values-at, run_at, run_inside, list_at-is}
use Rattle.questions.specs.Settled.{Finite, places_at}
use Rattle.questions.specs.SettledLaws.{columns-under, places-under}
use Rattle.marks.specs.FillLaws.{upper-below}
use Rattle.lent.specs.Reading.{Below, own_at, order_of, placed}
use Rattle.numeric.specs.Stores.{Ascending, StoreShape, Reducible}
use Rattle.lent.specs.ReadingLaws.{list_length, list-entry, placed-is}
use Rattle.numeric.specs.Rows.{filled_row, Closed, RowLent}
use Rattle.numeric.specs.RowLaws.{has-at}
use Rattle.factor.specs.Factoring.{RowAt}
use Rattle.base.specs.Scratch.{list_from}
use Rattle.base.specs.declared.OwnNumber.{OwnNumber}

-- ---- the fill

module _ (P : Pattern) (n k : ℕ) where
  lower-has : (j : ℕ) → has (lower_row P k) j ≡ true → (j < k) × (filled P k j ≡ true)
  unfolding lower_row
  lower-has j m =
      let q = and_cases (ltb j k) (filled P k j) (sym (has-asc (filled P k) k j) ∙ m) in
      (ltb-true j k q.0, q.1)

  upper-has : (j : ℕ) → has (upper_row P n k) j ≡ true → (j < n) × (k < j) × (filled P k j ≡ true)
  unfolding upper_row upper
  upper-has j m =
      let q = and_cases (ltb j n) (ltb k j && filled P k j) (sym (has-asc (upper P k) n j) ∙ m) in
      let u = and_cases (ltb k j) (filled P k j) q.1 in
      (ltb-true j n q.0, ltb-true k j u.0, u.1)

  -- a filled place of row k is in one of its lists
  row_has : (j : ℕ) → j < n → filled P k j ≡ true → has (lower_row P k ++ k ∷ upper_row P n k) j ≡ true
  unfolding lower_row upper_row upper has
  row_has j h f =
      has-append (lower_row P k) (k ∷ upper_row P n k) j
      ∙ elim (dec_lt j k) [
        | yes q ↦ rw (has-asc (filled P k) k j, lt-ltb j k q, f)
        | no q ↦ or_right (has (asc (filled P k) k) j) (eqb k j || has (asc (λ m. ltb k m && filled P k m) n) j)
            (elim (dec_lt k j) [
              | yes g ↦ or_right (eqb k j) (has (asc (λ m. ltb k m && filled P k m) n) j) (rw (has-asc (λ m. ltb k m && filled P k m) n j, lt-ltb j n h, lt-ltb k j g, f))
              | no g ↦ (let e : k ≡ j = omega arith in rw (eq-eqb k j e))
            ])
      ]

pub lower-below : (P : Pattern) (n k : ℕ) → k ≤ n → Below n (lower_row P k)
lower-below P n k h p g = let q = lower-has P n k (get_or (lower_row P k) p 0) (has-at (lower_row P k) p g) in omega arith

pub lower-ascends : (P : Pattern) (k : ℕ) → Ascending (lower_row P k)
unfolding lower_row
lower-ascends P k p q g l = asc-ascends (filled P k) k p q g (omega (arith, length-asc (filled P k) k))

pub system-closed : (i : Input) (k : ℕ) → k < i.n → Closed (system i) k
unfolding system
system-closed i k h =
    let P = stored i in
    record {
      ascending = lower-ascends P k;
      left = λ j m. (lower-has P i.n k j m).0;
      right = λ j m a b. (upper-has P i.n j m b).1;
      range = λ j m. (upper-has P i.n k j m).0;
      within = λ j m a b.
          let l = lower-has P i.n k j a in
          let u = upper-has P i.n j m b in
          row_has P i.n k m u.0 (filled-through P k j m l.0 u.1 l.1 u.2);
    }

-- ---- the lists in their stores

pub placed-shape : (f : Form) (P : Pattern) (n : ℕ) (starts runs index : List ℕ) (size : ℕ) → PlacedSide f Upper P n starts runs index size → StoreShape n starts runs index size
placed-shape f P n starts runs index size h = record {
  list = λ i l. record {
    has-run = (run_at f Upper P n starts runs index size h i l).0;
    has-start = omega (arith, starts-long f Upper P n starts runs index size h);
    rise = omega (arith, size-at f Upper P n starts runs index size h i l);
    inside = run_inside f Upper P n starts runs index size h i l;
  };
  values = λ i l. record {
    has-run = omega (arith, starts-long f Upper P n starts runs index size h);
    has-start = omega (arith, starts-long f Upper P n starts runs index size h);
    rise = omega (arith, size-at f Upper P n starts runs index size h i l);
    inside = omega (arith, size-at f Upper P n starts runs index size h i l, values-at f Upper P n starts runs index size h i l);
  };
  below = λ i l. rw (list_at-is f Upper P n starts runs index size h i l) (upper-below P n i);
}

-- ---- a row of M

pub lower-is : (i : Input) (k : ℕ) {lower : List ℕ} → lower ≡ lower_row (stored i) k → (system i).lower k ≡ lower
unfolding system
lower-is i k e = sym e

module _ (i : Input) (k below : ℕ) (us ur ui marks : List ℕ) (upper work : ℕ) (R : RowAt i k below us ur ui marks upper work) where
  abbrev own : ℕ
  own = get_or i.r k 0

  -- what the code reads: own row r(k), its columns and values, b(r(k)) and lower row k
  module _ (row : OwnNumber) (columns lower : List ℕ) (values : List Float) (b : Float) (er : row ≡ own_at i.r (record { 0 = k })) (rc : columns ≡ row_of i.starts i.columns row.0)
      (rv : values ≡ row_of i.starts i.values row.0) (rb : b ≡ get_or i.b row.0 nan) (el : lower ≡ take below (drop (list_from i.n) marks)) where
    ec : columns ≡ row_of i.starts i.columns own
    ec = rc ∙ ap (λ (x : OwnNumber). row_of i.starts i.columns x.0) er

    ev : values ≡ row_of i.starts i.values own
    ev = rv ∙ ap (λ (x : OwnNumber). row_of i.starts i.values x.0) er

    eb : b ≡ get_or i.b own nan
    eb = rb ∙ ap (λ (x : OwnNumber). get_or i.b x.0 nan) er

    columns-below : Below i.n columns
    columns-below = rw ec (columns-under i R.settled.structured.readable k)

    places-are : placed (order_of i.n marks) columns ≡ places_at i k
    places-are = placed-is (order_of i.n marks) columns i.n (ic i.c i.n) R.inverse.place columns-below ∙ ap (map (ic i.c i.n)) ec

    long : length columns ≡ length values
    long = rw (ec, ev) (list_length i.starts i.starts i.columns own R.columns ∙ sym (list_length i.starts i.starts i.values own R.values))

    pub row-reducible : Reducible i.n k work marks columns values lower us ur ui upper
    row-reducible = record {
      place = R.place;
      scratch = R.scratch;
      row = record {
        placeable = record {
          few = omega (arith, R.lent.lent.orders.few);
          slots = omega (arith, R.slots);
          known = columns-below;
          inside = λ p g. rw (R.inverse.place (get_or columns p 0) (columns-below p g))
              (place-hits i.c i.n R.settled.structured.readable.column-order (get_or columns p 0) (columns-below p g)).0;
        };
        paired = long;
      };
      below = rw (el ∙ R.lower) (lower-below (stored i) i.n k (omega (arith, R.place)));
      lists = R.shape;
    }

    value-at : (p : ℕ) → p < length (row_of i.starts i.values own) → finite (get_or (row_of i.starts i.values own) p nan) ≡ true
    unfolding list_at Finite
    value-at p g =
        let s = i.starts in
        let c = rw (length-take, length-drop) at g in
        rw (list-entry s s i.values own p nan (omega arith)) (R.settled.values (get_or s own 0 + p) (omega arith))

    place-filled : (p : ℕ) → p < length (places_at i k) → has (filled_row (system i) k) (get_or (places_at i k) p 0) ≡ true
    unfolding system stored
    place-filled p g =
        let b = places-under i R.settled.structured.readable k p g in
        row_has (stored i) i.n k (get_or (places_at i k) p 0) b
        (filled-stored (stored i) k (get_or (places_at i k) p 0) (has-at (places_at i k) p g))

    pub row-lent : RowLent (system i) k lower (placed (order_of i.n marks) columns) values b i.floor
    unfolding system entries right_at Finite
    row-lent = record {
      entries = rw (places-are, ev);
      right = sym eb;
      under = refl;
      below = sym (el ∙ R.lower);
      filled = rw places-are place-filled;
      sum = rw eb (R.settled.right own R.right);
      fine = rw ev value-at;
    }
