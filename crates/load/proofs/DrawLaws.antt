-- A column in a row, a list of one value; a draw in the stores.
use Prim.Native.Nat.{ℕ, zero, suc, ◌+◌, ◌-◌, ◌<◌, ◌≤◌}
use mathlib.Core.Path.{◌≡◌, refl, sym, ap, ◌∙◌}
use mathlib.Core.Bool.{Bool, true, false, ◌||◌}
use mathlib.Core.List.{List, [], ◌∷◌, ◌++◌, append_assoc, map-append}
use native.Mathlib.Omega.{arith}
use lib.ListN.{length, take, drop, drop_of_length-le, set, replicate, length-set, length-append, length-map}
use lib.Ieee.{Float}
use lib.Seq.{set_at, take_at, drop_at}
use lib.Dec.{eqb}
use native.Mathlib.Numerals.{add-one}
use Rattle.std.specs.List.{list_any}
use Rattle.std.proofs.lemmas.Grind.{replicate_next}
use Rattle.base.specs.Lists.{has, nought, padded, table}
use Rattle.load.specs.Load.{drawn, column_of, values_for, four, minus_one, added}
use Rattle.load.specs.Stores.{Held, Drawable, Drew, RowDrawable, RowDrew}
use Rattle.load.specs.declared.Drawn.{Drawn}

-- what `contains` answers
pub any-has : (row : List ℕ) (j : ℕ) → list_any (λ x. eqb x j) row ≡ has row j
unfolding has
any-has [] j = refl
any-has (x ∷ xs) j = ap (λ b. eqb x j || b) (any-has xs j)

pub has_end : (row : List ℕ) (j p : ℕ) → length row ≤ p → has (drop p row) j ≡ false
unfolding has
has_end row j p h = rw (drop_of_length-le row h)

-- what `fill` leaves
pub table-same : {A : Type 0} (v : A) (n : ℕ) → replicate n v ≡ table (λ (k : ℕ). v) n
unfolding table
table-same v zero = refl
table-same v (suc n) = (rw add-one at (replicate_next n v)) ∙ ap (λ l. l ++ (v ∷ [])) (table-same v n)

-- ---- one slot more of a padded store

pub padded-set : {A : Type 0} (v : A) (size : ℕ) (l : List A) (x : A) (i : ℕ) → length l ≡ i → i < size → set (padded v size l) i x ≡ padded v size (l ++ (x ∷ []))
unfolding padded
padded-set v size l x i e h =
    let m = size - suc i in
    let q : size - length l ≡ suc m = omega arith in
    let g : size - length (l ++ (x ∷ [])) ≡ m = simp length-append (omega arith) in
    rw (q, g, append_assoc) (set_at l v (replicate m v) x i e)

values-added : (row : List ℕ) (j : ℕ) → 0 < length row → values_for (row ++ (j ∷ [])) ≡ values_for row ++ (minus_one ∷ [])
unfolding values_for
values-added [] j h = absurd (omega arith)
values-added (k ∷ js) j h = ap (λ (l : List Float). four ∷ l) (map-append (λ (i : ℕ). minus_one) js (j ∷ []))

pub values_length : (row : List ℕ) → length (values_for row) ≡ length row
unfolding values_for
values_length [] = refl
values_length (k ∷ js) = rw length-map

-- ---- a draw

module _ {before : List ℕ} {given : List Float} {row : List ℕ} {size from end : ℕ} {columns : List ℕ} {values : List Float} (H : Held before given row size from end columns values) where
  -- the row, as the code reads it
  pub row_read : take (end - from) (drop from columns) ≡ row
  unfolding padded
  row_read =
      let q : end - from ≡ length row = omega (arith, H.end_is) in
      rw (H.columns-are, append_assoc, drop_at before (row ++ replicate (size - length (before ++ row)) 0) from H.from_is, q) (take_at row (replicate (size - length (before ++ row)) 0) (length row) refl)

  -- a column that stands there
  pub draw-skips : (j : ℕ) → has row j ≡ true → Held before given (added row j) size from end columns values
  unfolding added
  draw-skips j h = rw h H

  -- a column that does not
  pub draw-adds : (j : ℕ) → has row j ≡ false → end < size → Held before given (added row j) size from (end + 1) (set columns end j) (set values end minus_one)
  unfolding added
  draw-adds j h l =
      let lc : length (before ++ row) ≡ end = simp length-append (omega (arith, H.from_is, H.end_is)) in
      let lv : length (given ++ values_for row) ≡ end = simp length-append (omega (arith, H.given_is, H.end_is, values_length row)) in
      rw h (record {
        columns-are = ap (λ c. set c end j) H.columns-are ∙ padded-set 0 size (before ++ row) j end lc l ∙ ap (padded 0 size) (append_assoc before row (j ∷ []));
        values-are =
            ap (λ c. set c end minus_one) H.values-are ∙ padded-set nought size (given ++ values_for row) minus_one end lv l
            ∙ ap (padded nought size) (append_assoc given (values_for row) (minus_one ∷ []) ∙ ap (λ q. given ++ q) (sym (values-added row j H.some)));
        from_is = H.from_is;
        given_is = H.given_is;
        end_is = simp length-append (omega (arith, H.end_is));
        room = omega arith;
        some = simp length-append (omega arith);
      })

module _ (n from : ℕ) (d : Drawn) (columns : List ℕ) (values : List Float) (s j : ℕ) (es : s ≡ drawn d.seed) (small : s < 65536) (ej : j ≡ column_of n s) where
  same-column : column_of n (drawn d.seed) ≡ j
  same-column = ap (column_of n) (sym es) ∙ sym ej

  pub drew-skip : (b : Bool) → b ≡ has (take (d.end - from) (drop from columns)) j → b ≡ true → Drew n from d columns values (record { end = d.end; seed = s }) columns values
  drew-skip b e t = record {
    seed-is = es;
    seed-small = small;
    columns-long = refl;
    values-long = refl;
    least = omega arith;
    most = omega arith;
    held = λ before given row size l H. rw same-column (draw-skips H j (ap (λ l. has l j) (sym (row_read H)) ∙ sym e ∙ t));
  }

  pub drew-add : (b : Bool) → b ≡ has (take (d.end - from) (drop from columns)) j → b ≡ false → (v : Float) → v ≡ minus_one
      → Drew n from d columns values (record { end = d.end + 1; seed = s }) (set columns d.end j) (set values d.end v)
  drew-add b e t v ev = rw ev (record {
    seed-is = es;
    seed-small = small;
    columns-long = length-set columns d.end j;
    values-long = length-set values d.end minus_one;
    least = omega arith;
    most = omega arith;
    held = λ before given row size l H. rw same-column (draw-adds H j (ap (λ q. has q j) (sym (row_read H)) ∙ sym e ∙ t) l);
  })

-- ---- a row

-- its diagonal
row-begun : (before : List ℕ) (given : List Float) (k size from : ℕ) (columns : List ℕ) (values : List Float) → from < size → length before ≡ from → length given ≡ from
    → columns ≡ padded 0 size before → values ≡ padded nought size given → Held before given (k ∷ []) size from (from + 1) (set columns from k) (set values from four)
unfolding values_for
row-begun before given k size from columns values h eb eg ec ev = record {
  columns-are = ap (λ c. set c from k) ec ∙ padded-set 0 size before k from eb h;
  values-are = ap (λ c. set c from four) ev ∙ padded-set nought size given four from eg h;
  from_is = eb;
  given_is = eg;
  end_is = refl;
  room = omega arith;
  some = omega arith;
}

module _ (n k : ℕ) (d : Drawn) (columns : List ℕ) (values : List Float) (i : ℕ) (v : Float) (ei : i ≡ k) (ev : v ≡ four) (a b r : Drawn) (c₂ c₃ c₄ : List ℕ) (v₂ v₃ v₄ : List Float)
    (A : Drew n d.end (record { end = d.end + 1; seed = d.seed }) (set columns d.end i) (set values d.end v) a c₂ v₂) (B : Drew n d.end a c₂ v₂ b c₃ v₃) (R : Drew n d.end b c₃ v₃ r c₄ v₄) where
  pub row-drew : RowDrew n k d columns values r c₄ v₄
  row-drew = record {
    seed-is = R.seed-is ∙ ap drawn (B.seed-is ∙ ap drawn A.seed-is);
    seed-small = R.seed-small;
    columns-long = R.columns-long ∙ B.columns-long ∙ A.columns-long ∙ length-set columns d.end i;
    values-long = R.values-long ∙ B.values-long ∙ A.values-long ∙ length-set values d.end v;
    most = omega (arith, A.most, B.most, R.most);
    held = λ before given size h eb eg ec eg'.
        let H₂ = A.held before given (k ∷ []) size (omega arith) (rw (ei, ev) (row-begun before given k size d.end columns values (omega arith) eb eg ec eg')) in
        let H₃ = B.held before given _ size (omega (arith, A.most)) H₂ in
        rw (B.seed-is ∙ ap drawn A.seed-is, A.seed-is) at (R.held before given _ size (omega (arith, A.most, B.most)) H₃);
  }

-- each draw of a row has what it asks for
drawable : {n k size long : ℕ} {e : Drawn} → RowDrawable n k size long e → (columns values : ℕ) → columns ≡ size → values ≡ long → (d : Drawn) → e.end ≤ d.end → d.end < e.end + 4 → d.seed < 65536
    → Drawable n columns values e.end d
drawable R columns values ec ev d b l s = record { rows = omega (arith, R.place); few = R.few; long = ev ∙ R.long ∙ sym ec; begun = b; room = omega (arith, R.room, ec); seed-small = s }

module _ (n k : ℕ) (d : Drawn) (columns : List ℕ) (values : List Float) (i : ℕ) (v : Float) (R : RowDrawable n k (length columns) (length values) d) where
  pub first-drawable : Drawable n (length (set columns d.end i)) (length (set values d.end v)) d.end (record { end = d.end + 1; seed = d.seed })
  first-drawable = drawable R _ _ (length-set columns d.end i) (length-set values d.end v) _ (omega arith) (omega arith) R.seed-small

  module _ (a : Drawn) (c₂ : List ℕ) (v₂ : List Float) (A : Drew n d.end (record { end = d.end + 1; seed = d.seed }) (set columns d.end i) (set values d.end v) a c₂ v₂) where
    pub second-drawable : Drawable n (length c₂) (length v₂) d.end a
    second-drawable = drawable R _ _ (A.columns-long ∙ length-set columns d.end i) (A.values-long ∙ length-set values d.end v) a (omega (arith, A.least)) (omega (arith, A.most)) A.seed-small

    pub third-drawable : (b : Drawn) (c₃ : List ℕ) (v₃ : List Float) → Drew n d.end a c₂ v₂ b c₃ v₃ → Drawable n (length c₃) (length v₃) d.end b
    third-drawable b c₃ v₃ B =
        drawable R _ _ (B.columns-long ∙ A.columns-long ∙ length-set columns d.end i) (B.values-long ∙ A.values-long ∙ length-set values d.end v) b (omega (arith, A.least, B.least)) (omega (arith, A.most, B.most)) B.seed-small
