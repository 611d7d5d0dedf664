-- Keeping what a row leaves: one more list behind the others, and L by columns with a cursor a column.
use Rattle.std.specs.Prelude.{◌≡◌, true, cond, ◌||◌, ℕ, zero, suc, ◌+◌, ◌-◌, ◌<◌, ◌≤◌, set, take, replicate, eqb, Float}
use Rattle.std.proofs.Math.Path.{refl, sym, ap}
use Rattle.std.proofs.Common.{◌∙◌, add-one, arith, length-set, length-drop, get_or-set_same, get_or-set_other, take-suc-set, drop-set-lt}
use Rattle.std.proofs.Math.Bool.{false}
use mathlib.Core.List.{List, [], ◌∷◌, ◌++◌, append-nil}
use Rattle.std.proofs.Math.Decide.{dec_lt, ℕ_discrete}
use Rattle.std.proofs.Math.ListN.{length, get_or, drop, length-append, get_or-append}
use Rattle.std.proofs.lemmas.List.Edits.{sets}
use Rattle.std.proofs.lemmas.List.{get_or_at, take-set-le, drop-set-add}
use Rattle.std.specs.Float.Ieee.{nan}
use borrow.Author.Tests.{eqb-true, eq-eqb, ne_eqb}
use Rattle.base.specs.Lists.{has, count, bit, nought, list_at}
use Rattle.base.specs.Tests.{by-test, or_right}
use Rattle.base.specs.AscLaws.{count-suc, count-zero, count-mono}
use Rattle.base.specs.ZerosLaws.{drop-replicate}
use Rattle.arithmetic.specs.Arith.{System, Row, none}
use Rattle.numeric.specs.Stores.{Ascending, gathered, columns, keep_columns}
use Rattle.numeric.specs.Rows.{Closed, Stacked, l_of, only, beside, column_of, InColumns, Fitting}
use Rattle.numeric.specs.StoreLaws.{Rising, rises-to, stacked-more}
use Rattle.numeric.specs.RowLaws.{asc-head, asc-tail, mem-has}

-- one more row's list of a kind: u, or L by rows
pub stacked-row : (part : Row → List Float) (rows : List Row) (next : Row) (k : ℕ) (starts : List ℕ) (v us : List Float) → length rows ≡ k → Rising starts (k + 1)
    → get_or starts (k + 1) 0 ≤ length v → length us ≡ get_or starts (k + 1) 0 - get_or starts k 0 → part next ≡ us
    → Stacked nought (λ i. part (get_or rows i none)) k starts v → Stacked nought (λ i. part (get_or (rows ++ (next ∷ [])) i none)) (k + 1) starts (sets v (get_or starts k 0) us)
stacked-row part rows next k starts v us many r fits lu e T =
    stacked-more nought (λ i. part (get_or rows i none)) (λ i. part (get_or (rows ++ (next ∷ [])) i none)) k starts v us r fits lu
    (λ i l. ap part (get_or-append rows (next ∷ []) none i (rw many l))) (ap part (get_or_at rows next [] none k many) ∙ e) T

-- ---- a part of a store around a stored slot

set_before : (s m at : ℕ) (l : List Float) (v : Float) → at < s → take m (drop s (set l at v)) ≡ take m (drop s l)
set_before s m at l v h = rw (drop-set-lt s l at v h)

set-behind : (s m at : ℕ) (l : List Float) (v : Float) → s + m ≤ at → take m (drop s (set l at v)) ≡ take m (drop s l)
set-behind s m at l v h =
    let e : at ≡ s + (at - s) = omega arith in
    rw (e, drop-set-add s l (at - s) v) (take-set-le m (drop s l) (at - s) v (omega arith))

set_next : (s m : ℕ) (l : List Float) (v : Float) → s + m < length l → take (suc m) (drop s (set l (s + m) v)) ≡ take m (drop s l) ++ (v ∷ [])
set_next s m l v h = rw (drop-set-add s l m v) (take-suc-set (drop s l) m v (simp length-drop (omega arith)))

-- ---- one value more in a column

abbrev push : ℕ → Float → (ℕ → List Float) → ℕ → List Float
push p v column i = cond (eqb p i) (column i ++ (v ∷ [])) (column i)

module _ (n : ℕ) (starts : List ℕ) (r : Rising starts n) where
  push-in : (cursors : List ℕ) (l : List Float) (column : ℕ → List Float) (p : ℕ) (v : Float) → p < n → n ≤ length cursors
      → ((i : ℕ) → i < n → get_or starts i 0 + length (column i) ≤ get_or starts (i + 1) 0) → get_or starts p 0 + length (column p) < get_or starts (p + 1) 0 → get_or starts n 0 ≤ length l
      → InColumns n starts cursors l column
      → InColumns n starts (set cursors p (get_or cursors p 0 + 1)) (set l (get_or starts p 0 + get_or cursors p 0) v) (push p v column)
  push-in cursors l column p v h lc fits room whole I =
      let u = I.used p h in
      let top = rises-to starts (p + 1) n n r (omega arith) (omega arith) in
      record {
        used = λ i g. elim (ℕ_discrete i p) [
          | yes e ↦ rw (e, eq-eqb p p refl, get_or-set_same cursors p (get_or cursors p 0 + 1) 0 (omega arith)) (omega (arith, length-append (column p) (v ∷ [])))
          | no e ↦ rw (ne_eqb p i (λ q. e (sym q)), get_or-set_other cursors p i (get_or cursors p 0 + 1) 0 e) (I.used i g)
        ];
        held = λ i g. elim (ℕ_discrete i p) [
          | yes e ↦ rw (e, eq-eqb p p refl, u)
              (let q : length (column p ++ (v ∷ [])) ≡ suc (length (column p)) = omega (arith, length-append (column p) (v ∷ [])) in
              rw q (set_next (get_or starts p 0) (length (column p)) l v (omega arith) ∙ ap (λ (x : List Float). x ++ (v ∷ [])) (I.held p h)))
          | no e ↦ rw (ne_eqb p i (λ q. e (sym q)))
              (elim (dec_lt p i) [
                | yes q ↦ set_before (get_or starts i 0) (length (column i)) (get_or starts p 0 + get_or cursors p 0) l v (omega (arith, rises-to starts (p + 1) i n r (omega arith) (omega arith)))
                | no q ↦ set-behind (get_or starts i 0) (length (column i)) (get_or starts p 0 + get_or cursors p 0) l v
                    (omega (arith, fits i g, rises-to starts (i + 1) p n r (omega arith) (omega arith)))
              ] ∙ I.held i g)
        ];
        behind = rw (length-set l (get_or starts p 0 + get_or cursors p 0) v) (drop-set-lt (get_or starts n 0) l (get_or starts p 0 + get_or cursors p 0) v (omega arith) ∙ I.behind);
      }

  same_in : (cursors : List ℕ) (l : List Float) (one two : ℕ → List Float) → ((i : ℕ) → i < n → one i ≡ two i) → InColumns n starts cursors l one → InColumns n starts cursors l two
  same_in cursors l one two e I =
      record { used = λ i g. I.used i g ∙ ap length (e i g); held = λ i g. rw (← e i g) (I.held i g); behind = I.behind }

  -- a row's multipliers, each in its column
  row_in : (w : List Float) (is cursors : List ℕ) (l : List Float) (column : ℕ → List Float) → Ascending is → ((i : ℕ) → has is i ≡ true → i < n) → n ≤ length cursors
      → ((i : ℕ) → i < n → get_or starts i 0 + length (column i) + bit (has is i) ≤ get_or starts (i + 1) 0) → get_or starts n 0 ≤ length l
      → InColumns n starts cursors l column
      → InColumns n starts (keep_columns starts w is (columns cursors l)).cursors (keep_columns starts w is (columns cursors l)).l (λ i. column i ++ only (has is i) (get_or w i nan))
  unfolding keep_columns has
  row_in w [] cursors l column a below lc room whole I = same_in cursors l column (λ i. column i ++ []) (λ i g. sym (append-nil (column i))) I
  row_in w (p ∷ is) cursors l column a below lc room whole I =
      let v = get_or w p nan in
      let here = below p (rw (eq-eqb p p refl)) in
      let first : has is p ≡ false = by-test (has is p) (λ m. absurd (omega (arith, asc-head p is a p (mem-has is p m)))) (λ m. m) in
      same_in _ _ (λ i. push p v column i ++ only (has is i) (get_or w i nan)) (λ i. column i ++ only (eqb p i || has is i) (get_or w i nan))
      (λ i g. elim (ℕ_discrete i p) [
        | yes e ↦ rw (e, eq-eqb p p refl, first) (append-nil (column p ++ (v ∷ [])))
        | no e ↦ rw (ne_eqb p i (λ q. e (sym q)))
      ])
      (row_in w is (set cursors p (get_or cursors p 0 + 1)) (set l (get_or starts p 0 + get_or cursors p 0) v) (push p v column) (asc-tail p is a)
      (λ i m. below i (or_right (eqb p i) (has is i) m)) (rw (length-set cursors p (get_or cursors p 0 + 1)) lc)
      (λ i g. elim (ℕ_discrete i p) [
        | yes e ↦ rw (e, eq-eqb p p refl, first) (omega (arith, length-append (column p) (v ∷ []), rw (eq-eqb p p refl) at (room p here)))
        | no e ↦ rw (ne_eqb p i (λ q. e (sym q))) (rw (ne_eqb p i (λ q. e (sym q))) at (room i g))
      ])
      (rw (length-set l (get_or starts p 0 + get_or cursors p 0) v) whole)
      (push-in cursors l column p v here lc (λ i g. omega (arith, room i g)) (omega (arith, rw (eq-eqb p p refl) at (room p here))) whole I))

-- ---- L along the columns

pub column-length : (lower : ℕ → List ℕ) (rows : List Row) (k i : ℕ) → length (column_of lower rows k i) ≡ count (λ j. has (lower j) i) k
unfolding column_of
column-length lower rows zero i = sym (count-zero (λ j. has (lower j) i))
column-length lower rows (suc k) i =
    length-append (column_of lower rows k i) (only (has (lower k) i) (beside (lower k) (l_of rows k) i))
    ∙ rw (column-length lower rows k i, count-suc (λ j. has (lower j) i) k) (by-test (has (lower k) i) (λ e. rw e) (λ e. rw e))

column-same : (lower : ℕ → List ℕ) (rows more : List Row) (k i : ℕ) → k ≤ length rows → column_of lower (rows ++ more) k i ≡ column_of lower rows k i
unfolding column_of
column-same lower rows more zero i h = refl
column-same lower rows more (suc k) i h =
    rw (column-same lower rows more k i (omega arith))
    (ap (λ (q : Row). column_of lower rows k i ++ only (has (lower k) i) (beside (lower k) q.l i)) (get_or-append rows more none k h))

beside-gathered : (is : List ℕ) (w : List Float) (i : ℕ) → only (has is i) (beside is (gathered is w) i) ≡ only (has is i) (get_or w i nan)
unfolding has beside
beside-gathered [] w i = refl
beside-gathered (j ∷ is) w i = by-test (eqb j i) (λ e. rw (e, eqb-true j i e)) (λ e. rw e (beside-gathered is w i))

module _ (S : System) (starts : List ℕ) (r : Rising starts S.n) (fit : Fitting S starts) where
  -- no row yet
  pub columns-start : (rows : List Row) (cursors : List ℕ) (l : List Float) → ((i : ℕ) → i < S.n → get_or cursors i 0 ≡ 0) → l ≡ replicate (length l) nought
      → InColumns S.n starts cursors l (column_of S.lower rows 0)
  unfolding column_of
  columns-start rows cursors l unused e = record { used = unused; held = λ i g. refl; behind = ap (λ (x : List Float). drop (get_or starts S.n 0) x) e ∙ drop-replicate nought (length l) (get_or starts S.n 0) }

  module _ (rows : List Row) (k : ℕ) (lower cursors : List ℕ) (l : List Float) (h : k < S.n) (C : Closed S k) (el : S.lower k ≡ lower) (whole : get_or starts S.n 0 ≤ length l)
      (lc : S.n ≤ length cursors) (I : InColumns S.n starts cursors l (column_of S.lower rows k)) where
    pub column-below : (i : ℕ) → has lower i ≡ true → i < S.n
    column-below i m = let q = C.left i (rw el m) in omega arith

    -- a column that the row has is not yet full
    pub column-room : (i : ℕ) → i < S.n → get_or starts i 0 + length (column_of S.lower rows k i) + bit (has lower i) ≤ get_or starts (i + 1) 0
    column-room i g =
        let e : bit (has lower i) ≡ bit (has (S.lower k) i) = ap (λ (x : List ℕ). bit (has x i)) (sym el) in
        omega (arith, fit i g, column-length S.lower rows k i, count-suc (λ j. has (S.lower j) i) k, count-mono (λ j. has (S.lower j) i) (suc k) S.n h)

    pub columns-more : (next : Row) (w : List Float) (c : List ℕ) (m : List Float) → length rows ≡ k → next.l ≡ gathered lower w
        → columns c m ≡ keep_columns starts w lower (columns cursors l) → InColumns S.n starts c m (column_of S.lower (rows ++ (next ∷ [])) (k + 1))
    unfolding column_of
    columns-more next w c m many en e =
        let q = row_in S.n starts r w lower cursors l (column_of S.lower rows k) (rw el at C.ascending) column-below lc column-room whole I in
        same_in S.n starts r c m (λ i. column_of S.lower rows k i ++ only (has lower i) (get_or w i nan)) (column_of S.lower (rows ++ (next ∷ [])) (k + 1))
        (λ i g. rw (add-one k, column-same S.lower rows (next ∷ []) k i (omega arith), el)
        (ap (λ (x : List Float). column_of S.lower rows k i ++ x)
        (sym (ap (λ (y : List Float). only (has lower i) (beside lower y i)) (ap (λ (q : Row). q.l) (get_or_at rows next [] none k many) ∙ en) ∙ beside-gathered lower w i)))) (rw (← e) at q)

  -- the last row: the columns one after another
  pub columns-end : (rows : List Row) (cursors : List ℕ) (l : List Float) → InColumns S.n starts cursors l (column_of S.lower rows S.n)
      → Stacked nought (column_of S.lower rows S.n) S.n starts l
  unfolding list_at
  columns-end rows cursors l I = record {
    each = λ i g.
        let e : get_or starts (i + 1) 0 - get_or starts i 0 ≡ length (column_of S.lower rows S.n i) = omega (arith, fit i g, column-length S.lower rows S.n i) in
        rw e (I.held i g);
    rest = I.behind;
  }
