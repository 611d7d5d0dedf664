-- The lists are those of M': a row of places is a row of `stored`, a column of rows is one of its columns.
use mathlib.Core.Path.{◌≡◌, refl, ap, ◌∙◌}
use mathlib.Core.Bool.{Bool, true, false, ◌&&◌, ◌||◌, or_self, or_assoc}
use mathlib.Core.List.{List, [], ◌∷◌}
use Prim.Native.Nat.{ℕ, zero, suc, ◌<◌}
use native.Mathlib.Omega.{arith}
use native.Mathlib.Decide.{ℕ_discrete, dec_lt}
use lib.ListN.{get_or}
use lib.Dec.{eqb, ltb}
use borrow.Author.Tests.{eqb-true, eq-eqb, ne_eqb, lt-ltb, le-ltb}
use Rattle.base.specs.Tests.{by-test}
use Rattle.base.specs.Lists.{has, row_of}
use Rattle.base.specs.declared.Side.{Side}
use Rattle.base.specs.declared.Side.TheVariants.{Lower, Upper}
use Rattle.lent.specs.Reading.{Below, order_of}
use Rattle.lent.specs.ReadingLaws.{placed-is}
use Rattle.questions.specs.Lent.{Inverse}
use Rattle.questions.specs.SettledLaws.{columns-under}
use Rattle.matrix.specs.Input.{Input, ic, stored}
use Rattle.matrix.proofs.OrderLaws.{order_below, place-hits}
use Rattle.marks.specs.Marks.{Room, stamped, Fresh, Holds}
use Rattle.marks.specs.MarkLaws.{holds_kept, holds_same, holds-list}
use Rattle.columns.specs.Columns.{Given, places_by_row, cons_if, bare, column}
use Rattle.columns.specs.Sides.{side_pattern, side_row, SideLoaded, Sound, rows_in}
use Rattle.columns.proofs.ColumnLaws.{hits-is}
use Rattle.columns.proofs.SideLaws.{side-marks, side-below}

-- ---- a column's members

has-cons_if : (b : Bool) (i j : ℕ) (l : List ℕ) → has (cons_if b i l) j ≡ ((b && eqb i j) || has l j)
unfolding has
has-cons_if true i j [] = refl
has-cons_if true i j (h ∷ l) = by-test (eqb h i) (λ e. rw (e, eqb-true h i e, ← or_assoc (eqb i j) (eqb i j) (has l j), or_self)) (λ e. rw e)
has-cons_if false i j l = refl

row-joins : (R : ℕ → List ℕ) (m k j : ℕ) → ((has (R m) k && eqb m j) || (ltb j m && has (R j) k)) ≡ (ltb j (suc m) && has (R j) k)
row-joins R m k j = go (ℕ_discrete m j) (dec_lt j m)
  where
    last : (b : Bool) → ((b && true) || (false && b)) ≡ (true && b)
    last true = refl
    last false = refl

    other : (b c d : Bool) → ((b && false) || (c && d)) ≡ (c && d)
    other true c d = refl
    other false c d = refl

    go : Dec (m ≡ j) → Dec (j < m) → ((has (R m) k && eqb m j) || (ltb j m && has (R j) k)) ≡ (ltb j (suc m) && has (R j) k)
    go (yes q) d = rw (eq-eqb m j q, le-ltb j m (omega arith), lt-ltb j (suc m) (omega arith), q) (last (has (R j) k))
    go (no q) (yes d) = rw (ne_eqb m j q, lt-ltb j m d, lt-ltb j (suc m) (omega arith)) (other (has (R m) k) true (has (R j) k))
    go (no q) (no d) = rw (ne_eqb m j q, le-ltb j m (omega arith), le-ltb j (suc m) (omega arith)) (other (has (R m) k) false (has (R j) k))

-- a row is in column k exactly if it has an entry there
has-column : (R : ℕ → List ℕ) (n k j : ℕ) → has (column R n k) j ≡ (ltb j n && has (R j) k)
unfolding column bare has
has-column R zero k j = rw (le-ltb j 0 (omega arith))
has-column R (suc m) k j =
    ap (λ l. has l j) (hits-is m (R m) (column R m) k) ∙ has-cons_if (has (R m) k) m j (column R m k) ∙ ap (λ v. (has (R m) k && eqb m j) || v) (has-column R m k j) ∙ row-joins R m k j

-- ---- M'

module _ (i : Input) (s : List ℕ) (sound : Sound i) (inverse : Inverse i s) where
  row_under : (k : ℕ) → Below i.n (row_of i.starts i.columns (get_or i.r k 0))
  row_under = columns-under i sound.structured.readable

  -- row k of M'
  row-stored : (k p : ℕ) → has (rows_in i s k) p ≡ stored i k p
  unfolding stored places_by_row
  row-stored k p = ap (λ l. has l p) (placed-is (order_of i.n s) (row_of i.starts i.columns (get_or i.r k 0)) i.n (ic i.c i.n) inverse.place (row_under k))

  -- the questions and the inverse order settle what the columns need
  pub given-sound : Room i.n s → Given i.n i.starts i.columns i.r s
  given-sound sp = record {
    space = sp;
    order = λ c h. omega (arith, inverse.place c h, (place-hits i.c i.n sound.structured.readable.column-order c h).0);
    long = omega (arith, sound.order-long);
    read = λ k h. sound.structured.readable.rows sound.starts-long (get_or i.r k 0) (order_below i.r i.n sound.structured.readable.row-order k h);
    below = λ k h. row_under k;
  }

  -- what a side loads is row k of the side's pattern
  side-stored : (side : Side) (k j : ℕ) → k < i.n → j < i.n
      → has (side_row side (rows_in i s) i.n k) j ≡ side_pattern side (stored i) k j
  side-stored Upper k j h g = row-stored k j
  side-stored Lower k j h g = has-column (rows_in i s) i.n k j ∙ rw (lt-ltb j i.n g) (row-stored j k)

-- after a load the marks are row k of the side's pattern
pub side-holds : (i : Input) (side : Side) (t k hi₀ hi : ℕ) (s₀ s : List ℕ) → Sound i → Inverse i s₀ → Room i.n s₀ → k < i.n
    → Fresh i.n t s₀ → SideLoaded side i.n t k hi₀ hi (rows_in i s₀) s₀ s → Holds i.n t s (side_pattern side (stored i) k)
side-holds i side t k hi₀ hi s₀ s sound inverse space place fresh loaded =
    let n = i.n in
    let list = side_row side (rows_in i s₀) n k in
    let under = side-below side n k i.starts i.columns i.r s₀ (given-sound i s₀ sound inverse space) place in
    holds_kept n t (stamped n t s₀ list) s (side_pattern side (stored i) k)
    (λ x h. (side-marks side n t k hi₀ hi (rows_in i s₀) s₀ s loaded).slots x (λ a. omega arith) (λ a. omega arith))
    (holds_same n t (stamped n t s₀ list) (has list) (side_pattern side (stored i) k) (λ j h. side-stored i s₀ sound inverse side k j place h) (holds-list n t s₀ list under space fresh))
