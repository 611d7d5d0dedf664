-- The sweep goes on from place to place, or stops; and after it the back steps come to what another right side is defined to come to.
use Rattle.std.specs.Prelude.{◌≡◌, refl, Bool, true, false, List, [], ◌∷◌, ◌++◌, length, get_or, set, take, drop, replicate, Float}
use Rattle.std.proofs.Common.{sym, ap, ◌∙◌, true≢false, add-one, length-drop, get_or-take, get_or-drop, get_or-set_same, get_or-set_other, take-suc-set, take_at, drop_at, drop-set-lt, length-take-le}
use Prim.Native.Nat.{ℕ, suc, ◌+◌, ◌-◌, ◌*◌, ◌<◌}
use Rattle.std.proofs.Math.Nat.{sub-zero}
use native.Mathlib.Omega.{arith}
use Rattle.std.proofs.Math.Decide.{dec_lt}
use Rattle.std.proofs.lemmas.List.{take-set-le, drop-set-add}
use Rattle.std.specs.Float.{nan, binary64}
use Rattle.std.specs.Float.Ieee.{mul}
use Rattle.std.specs.Float.Ieee.Scale.{finite}
use Rattle.base.specs.Lists.{has, asc, pairs, table, nought}
use Rattle.base.specs.TableLaws.{get_or-table, length-table}
use Rattle.base.specs.Scratch.{z_from}
use Rattle.base.specs.ScratchLaws.{drop-twice}
use Rattle.base.specs.declared.Form.{Form}
use Rattle.base.specs.declared.Form.TheVariants.{Plain, Shared, ByRow}
use Rattle.base.specs.declared.Side.TheVariants.{Lower}
use Rattle.arithmetic.specs.Arith.{Fault, Out, ok, met, overflow}
use Rattle.arithmetic.specs.Again.{Factors, given_by}
use Rattle.arithmetic.specs.Stopping.{Check, any, at, less, rest, back, sum_less, y_at, again, solved_again}
use Rattle.arithmetic.specs.Sticky.{rest_at}
use Rattle.numeric.specs.Stores.{store_given, numbered_back}
use Rattle.base.specs.ZerosLaws.{drop-replicate}
use Rattle.numeric.specs.StoreLaws.{ready}
use Rattle.numeric.specs.RowLaws.{bind-same}
use Rattle.numeric.specs.PassLaws.{back-same}
use Rattle.numeric.specs.Right.{across, Summed, rest-same, summed-more}
use Rattle.std.specs.Prelude.{Result, ⊤}
use Rattle.outcome.specs.Buffers.{SideBuffers}
use Rattle.factors.specs.Presented.{Sound}
use Rattle.substitution.specs.Sweep.{by_columns, list_of, values_of, SumAt, Spread, ColumnSpread, Tied, Sums, Sweep}
use Rattle.substitution.specs.LowerLaws.{plain-lower, shared-lower, row-lower, has-below, asc-below}

-- ---- the two steps in which the forms differ, by the test of the form

module _ (f : Form) (t : Bool) (e : t ≡ by_columns f) (n k : ℕ) (b : SideBuffers) (w : List Float) where
  pub sum-columns : t ≡ true → SumAt f n k b w (get_or w k nan)
  sum-columns h = by_form f (sym e ∙ h)
    where
      by_form : (f : Form) → by_columns f ≡ true → SumAt f n k b w (get_or w k nan)
      by_form Plain g = absurd (true≢false (sym g))
      by_form Shared g = refl
      by_form ByRow g = refl

  pub sum_rows : (s : Float) → t ≡ false → rest any (get_or w k nan) (list_of b k) (values_of b k) (drop n w) ≡ ok s → SumAt f n k b w s
  sum_rows s h r = by_form f (sym e ∙ h)
    where
      by_form : (f : Form) → by_columns f ≡ false → SumAt f n k b w s
      by_form Plain g = r
      by_form Shared g = absurd (true≢false g)
      by_form ByRow g = absurd (true≢false g)

  pub spread-columns : (y : Float) (v : List Float) → t ≡ true → ColumnSpread n k b y w v → Spread f n k b y w v
  spread-columns y v h C = by_form f (sym e ∙ h)
    where
      by_form : (f : Form) → by_columns f ≡ true → Spread f n k b y w v
      by_form Plain g = absurd (true≢false (sym g))
      by_form Shared g = C
      by_form ByRow g = C

  pub spread-rows : (y : Float) → t ≡ false → Spread f n k b y w w
  spread-rows y h = by_form f (sym e ∙ h)
    where
      by_form : (f : Form) → by_columns f ≡ false → Spread f n k b y w w
      by_form Plain g = refl
      by_form Shared g = absurd (true≢false g)
      by_form ByRow g = absurd (true≢false g)

-- ---- the sum of place k, tested once

sum-pairs : (c : Check) (t : Float) (js : List ℕ) (us z : List Float) → sum_less c t (pairs js us) z ≡ rest c t js us z
unfolding sum_less rest pairs
sum-pairs c t [] us z = refl
sum-pairs c t (j ∷ js) [] z = refl
sum-pairs c t (j ∷ js) (u ∷ us) z = bind-same (less c t u (get_or z j nan)) (λ s. sum_less c s (pairs js us) z) (λ s. rest c s js us z) (λ s. sum-pairs c s js us z)

-- y stands in z, of which the places below k are read
sum-tested : (k : ℕ) (t s : Float) (es : List (ℕ × Float)) (js : List ℕ) (us z : List Float) → es ≡ pairs js us → ((j : ℕ) → has js j ≡ true → j < k) → finite t ≡ true → rest any t js us z ≡ ok s
    → sum_less (at k) t es (take k z) ≡ at k s
sum-tested k t s es js us z e below f h =
    rw e (sum-pairs (at k) t js us (take k z) ∙ rest_at k t js us (take k z) s f (sym (rest-same t js us z (take k z) (λ j g. sym (get_or-take k z j nan (below j g)))) ∙ h))

module _ (n k : ℕ) (F : Factors) (b : SideBuffers) (d w : List Float) (s : Float) (l : k < n) where
  -- L by columns
  column-sum : F.lower k ≡ pairs (asc (λ i. has (list_of b i) k) k) (across (list_of b) (values_of b) k k) → finite (F.rhs k) ≡ true
      → Summed (list_of b) (values_of b) F.rhs (drop n w) n k (take n w) → s ≡ get_or w k nan → sum_less (at k) (F.rhs k) (F.lower k) (take k (drop n w)) ≡ at k s
  column-sum e f I h =
      sum-tested k (F.rhs k) s (F.lower k) _ _ (drop n w) e (λ j g. asc-below (λ i. has (list_of b i) k) k j g) f (I k l ∙ ap ok (get_or-take n w k nan l ∙ sym h))

  pub sum-found : (f : Form) → Sound f Lower n b.starts b.runs b.index (length b.values) → Tied f n F b d → Sums f n F b k w → SumAt f n k b w s
      → sum_less (at k) (F.rhs k) (F.lower k) (take k (drop n w)) ≡ at k s
  sum-found Plain S T I h =
      sum-tested k (F.rhs k) s (F.lower k) (list_of b k) (values_of b k) (drop n w) (T.lower-is k ∙ plain-lower b k T.runs-are) (has-below k (list_of b k) (S.to k l)) (T.fine k l)
      (ap (λ (t : Float). rest any t (list_of b k) (values_of b k) (drop n w)) (sym (I k l)) ∙ h)
  sum-found Shared S T I h = column-sum (T.lower-is k ∙ shared-lower b k) (T.fine k l) I h
  sum-found ByRow S T I h = column-sum (T.lower-is k ∙ row-lower b k) (T.fine k l) I h

-- ---- y(k)

module _ (F : Factors) (ys : List Float) (k : ℕ) (s : Float) (e : sum_less (at k) (F.rhs k) (F.lower k) ys ≡ at k s) where
  pub y-sum : finite s ≡ false → y_at F ys k ≡ met (overflow k)
  unfolding y_at
  y-sum f = rw (e, f)

  pub y-product : finite s ≡ true → finite (mul binary64 s (F.d k)) ≡ false → y_at F ys k ≡ met (overflow k)
  unfolding y_at
  y-product f g = rw (e, f, g)

  pub y-good : finite s ≡ true → finite (mul binary64 s (F.d k)) ≡ true → y_at F ys k ≡ ok (mul binary64 s (F.d k))
  unfolding y_at
  y-good f g = rw (e, f, g)

module _ (F : Factors) (n k : ℕ) (ys : List Float) (l : k < n) where
  again-met : (q : Fault) → y_at F ys k ≡ met q → again F (n - k) k ys ≡ met q
  unfolding again
  again-met q h = let e : n - k ≡ suc (n - suc k) = omega arith in rw (e, h)

  again-more : (y : Float) → y_at F ys k ≡ ok y → again F (n - k) k ys ≡ again F (n - (k + 1)) (k + 1) (ys ++ (y ∷ []))
  unfolding again
  again-more y h = let e : n - k ≡ suc (n - suc k) = omega arith in rw (add-one, e, h)

again-end : (F : Factors) (n : ℕ) (ys : List Float) → again F (n - n) n ys ≡ ok ys
unfolding again
again-end F n ys = let e : n - n ≡ 0 = omega arith in rw e

-- ---- one place

module _ (f : Form) (n k : ℕ) (F : Factors) (b : SideBuffers) (w : List Float) (l : k < n) (I : Sweep f n F b k w) where
  pub row-stops : (q : Fault) → y_at F (take k (drop n w)) k ≡ met q → again F n 0 [] ≡ met q
  row-stops q h = sym I.left ∙ again-met F n k (take k (drop n w)) l q h

  module _ (v : List Float) (y : Float) (size : length w ≡ 3 * n) (S : Sound f Lower n b.starts b.runs b.index (length b.values)) (sp : Spread f n k b y (set w (n + k) y) v) where
    -- what is written lies below n, but y
    kept : drop n v ≡ set (drop n w) k y
    kept = by_form f sp ∙ drop-set-add n w k y
      where
        by_form : (g : Form) → Spread g n k b y (set w (n + k) y) v → drop n v ≡ drop n (set w (n + k) y)
        by_form Plain h = ap (drop n) h
        by_form Shared h = h.kept
        by_form ByRow h = h.kept

    room : k < length (drop n w)
    room = simp length-drop (omega arith)

    here : get_or (drop n v) k nan ≡ y
    here = rw (kept, get_or-set_same (drop n w) k y nan room)

    -- the columns before k, and then column k
    columns-more : Summed (list_of b) (values_of b) F.rhs (drop n w) n k (take n w) → ColumnSpread n k b y (set w (n + k) y) v
        → Summed (list_of b) (values_of b) F.rhs (drop n v) n (k + 1) (take n v)
    columns-more J C =
        let r = ready n k b.starts b.runs b.index b.values (list_of b k) (values_of b k) S.shape l refl refl in
        let few = length-take-le n w (omega arith) in
        summed-more (list_of b) (values_of b) F.rhs (drop n v) n k (take n w) (take n v) (S.ascending k l) r.0 (rw few r.1)
        (rw (here, ← take-set-le n w (n + k) y (omega arith)) C.column)
        (λ j h. sym (rest-same (F.rhs j) (asc (λ i. has (list_of b i) j) k) (across (list_of b) (values_of b) j k) (drop n w) (drop n v)
        (λ i g. let q = asc-below (λ i. has (list_of b i) j) k i g in sym (rw kept (get_or-set_other (drop n w) k i y nan (λ e. omega arith))))) ∙ J j h)

    sums-more : Sums f n F b (k + 1) v
    sums-more = by_form f I.sums sp
      where
        by_form : (g : Form) → Sums g n F b k w → Spread g n k b y (set w (n + k) y) v → Sums g n F b (k + 1) v
        by_form Plain J h = λ j m. rw (h, get_or-set_other w (n + k) j y nan (λ e. omega arith)) (J j m)
        by_form Shared J h = columns-more J h
        by_form ByRow J h = columns-more J h

    pub row_more : y_at F (take k (drop n w)) k ≡ ok y → finite y ≡ true → Sweep f n F b (k + 1) v
    row_more e g = record {
      left = rw (kept, add-one, take-suc-set (drop n w) k y room, ← add-one) (sym (again-more F n k (take k (drop n w)) l y e) ∙ I.left);
      fine = λ j h. rw (← get_or-drop n v j nan, kept) (elim (dec_lt j k) [
        | yes q ↦ rw (get_or-set_other (drop n w) k j y nan (λ e. omega arith), get_or-drop n w j nan) (I.fine j q)
        | no q ↦ (let z : j ≡ k = omega arith in rw (z, get_or-set_same (drop n w) k y nan room) g)
      ]);
      sums = sums-more;
      zeros = sym (drop-twice n v) ∙ rw kept (drop-set-lt n (drop n w) k y l ∙ drop-twice n w ∙ I.zeros);
    }

-- ---- the beginning: b(r(k)) in the sums, all else +0

pub sweep-start : (f : Form) (n : ℕ) (F : Factors) (b : SideBuffers) (right : ℕ → Float) (w : List Float) → ((j : ℕ) → right j ≡ F.rhs j)
    → w ≡ table right n ++ drop n (replicate (3 * n) nought) → Sweep f n F b 0 w
unfolding asc across rest
sweep-start f n F b right w er e = record {
  left = rw (sub-zero n);
  fine = λ j h. absurd (omega arith);
  sums = by_form f;
  zeros = sym (drop-twice n w) ∙ rw (e, drop_at (table right n) (drop n (replicate (3 * n) nought)) n (length-table right n), drop-twice n (replicate (3 * n) nought), drop-replicate nought (3 * n) (z_from n))
      (let z : 3 * n - z_from n ≡ n = omega arith in rw z);
}
  where
    first : (j : ℕ) → j < n → get_or (take n w) j nan ≡ F.rhs j
    first j h = rw (e, take_at (table right n) (drop n (replicate (3 * n) nought)) n (length-table right n)) (get_or-table right n nan j h ∙ er j)

    columns : Summed (list_of b) (values_of b) F.rhs (drop n w) n 0 (take n w)
    columns j h = ap ok (sym (first j h))

    by_form : (g : Form) → Sums g n F b 0 w
    by_form Plain = λ j h. sym (get_or-take n w j nan h) ∙ first j h
    by_form Shared = columns
    by_form ByRow = columns

-- ---- the end

pub sweep-stopped : (F : Factors) (n : ℕ) (q : Fault) → F.n ≡ n → again F n 0 [] ≡ met q → met q ≡ solved_again F
unfolding solved_again
sweep-stopped F n q e h = let a = ap (λ (m : ℕ). again F m 0 []) e ∙ h in sym (rw a)

again-back : (F : Factors) (ys : List Float) (o : Out (List Float)) → again F F.n 0 [] ≡ ok ys → back (given_by F ys) F.n (replicate F.n nought) ≡ o → solved_again F ≡ o
unfolding solved_again
again-back F ys o e h = rw (e, h)

pub sweep-solved : (f : Form) (n : ℕ) (F : Factors) (b u : SideBuffers) (w z : List Float) (r : Result ⊤ ℕ) → F.n ≡ n → Sweep f n F b n w
    → ((i : ℕ) → F.upper i ≡ list_of u i) → ((i : ℕ) → F.u i ≡ values_of u i)
    → numbered_back z r ≡ back (store_given n w u.starts u.runs u.index u.values) n (drop (z_from n) w) → numbered_back z r ≡ solved_again F
sweep-solved f n F b u w z r en I eu ev h =
    let ys = take n (drop n w) in
    h ∙ sym (again-back F ys _ (ap (λ (m : ℕ). again F m 0 []) en ∙ sym I.left ∙ again-end F n ys)
    (ap (λ (m : ℕ). back (given_by F ys) m (replicate m nought)) en
    ∙ back-same (given_by F ys) (store_given n w u.starts u.runs u.index u.values) n (replicate n nought)
    (λ i l. (eu i, ev i, get_or-take n (drop n w) i nan l ∙ get_or-drop n w i nan))
    ∙ ap (λ (y : List Float). back (store_given n w u.starts u.runs u.index u.values) n y) (sym I.zeros)))
