-- A turn of each loop, as a law of the definition that the loop computes: the rest of the list, from the value after the turn, gives what it gave before.
use mathlib.Core.Path.{◌≡◌, refl, sym, ap, ◌∙◌}
use mathlib.Core.Bool.{true, false, ◌&&◌}
use mathlib.Core.List.{List, [], ◌∷◌, ◌++◌}
use Prim.Native.Nat.{ℕ, suc, ◌+◌, ◌-◌, ◌*◌, ◌<◌, ◌≤◌}
use native.Mathlib.Numerals.{add-one}
use native.Mathlib.Omega.{arith}
use lib.ListN.{length, get_or, set, take, drop, drop_of_length-le, length-drop, length-set}
use lib.Seq.{drop-cons, get_or-take, get_or-drop, get_or-set_other, drop-set-add}
use lib.Ieee.{Float, nan, binary64, sub, mul}
use lib.Ieee.Scale.{finite}
use Rattle.std.specs.List.{list_all}
use Rattle.std.proofs.lemmas.List.{get_or_default}
use Rattle.base.specs.Lists.{list_at, row_of, pairs, nought}
use Rattle.base.specs.declared.RowSums.{RowSums}
use Rattle.lent.specs.Reading.{Below, placed}
use Rattle.lent.specs.ReadingLaws.{take_rest}
use Rattle.arithmetic.specs.Arith.{ok, met, overflow, Given, Work}
use Rattle.arithmetic.specs.Stopping.{any, subtract, steps, rest, back}
use Rattle.arithmetic.specs.RowEnd.{finite_on}
use Rattle.arithmetic.specs.Sticky.{step-any, rest_at}
use Rattle.numeric.specs.Stores.{Ascending, store_given, work, Stepped, zeroed, set_all, with_value, entering, Columns, columns, keep_columns}
use Rattle.base.specs.Scratch.{z_from}

-- ---- step 1

module _ (ic columns : List ℕ) (w : List Float) (p : ℕ) where
  pub unset-turn : (j : ℕ) (v : Float) → j ≡ get_or ic (get_or columns p 0) 0 → v ≡ nan → p < length columns
      → set_all nan (placed ic (drop (p + 1) columns)) (set w j v) ≡ set_all nan (placed ic (drop p columns)) w
  unfolding placed
  unset-turn j v e n h = rw (e, n, add-one, drop-cons columns p 0)

  pub unset-end : length columns ≤ p → set_all nan (placed ic (drop p columns)) w ≡ w
  unfolding placed
  unset-end h = rw (drop_of_length-le columns h)

module _ (ic columns : List ℕ) (vs w : List Float) (p : ℕ) where
  pub enter-turn : (j : ℕ) (x : Float) → j ≡ get_or ic (get_or columns p 0) 0 → x ≡ with_value (get_or w j nan) (get_or vs p nan) → p < length columns → p < length vs
      → entering (pairs (placed ic (drop (p + 1) columns)) (drop (p + 1) vs)) (set w j x) ≡ entering (pairs (placed ic (drop p columns)) (drop p vs)) w
  unfolding entering pairs placed
  enter-turn j x e n h g = rw (n, e, add-one, drop-cons columns p 0, drop-cons vs p nan)

  pub enter-end : length columns ≤ p → entering (pairs (placed ic (drop p columns)) (drop p vs)) w ≡ w
  unfolding entering pairs placed
  enter-end h = rw (drop_of_length-le columns h)

-- ---- step 2

module _ (m : Float) (js : List ℕ) (us : List Float) where
  pub subtract-turn : (w : List Float) (p j : ℕ) → j ≡ get_or js p 0 → p < length js → p < length us
      → subtract any m (drop p js) (drop p us) w
      ≡ subtract any m (drop (p + 1) js) (drop (p + 1) us) (set w j (sub binary64 (get_or w j nan) (mul binary64 m (get_or us p nan))))
  unfolding subtract
  subtract-turn w p j e h g = rw (e, add-one, drop-cons js p 0, drop-cons us p nan)

  pub subtract-end : (w : List Float) (p : ℕ) → length js ≤ p → subtract any m (drop p js) (drop p us) w ≡ ok w
  unfolding subtract
  subtract-end w p h = rw (drop_of_length-le js h)

-- the loop before turn p: f₀ and s₀ as it began, f and s as they are, l the multipliers so far
pub record Eliminating (n : ℕ) (lower : List ℕ) (G : Given) (f₀ : List Float) (s₀ : RowSums) (f : List Float) (s : RowSums) (p : ℕ) : Type 0 where
  pub l : List Float
  pub upto : p ≤ length lower
  pub same-f : length f ≡ length f₀
  pub kept : drop n f ≡ drop n f₀
  pub working : steps any G (drop p lower) (work l (take n f) s.sum) ≡ steps any G lower (work [] (take n f₀) s₀.sum)

step-turn : (n : ℕ) (lower starts runs upper : List ℕ) (u f₀ f g l : List Float) (s r : RowSums) (p : ℕ) → p < length lower
    → get_or lower p 0 < n → drop n f ≡ drop n f₀
    → Stepped n (get_or lower p 0) (store_given n f starts runs upper u) f g s r
    → steps any (store_given n f₀ starts runs upper u) (drop p lower) (work l (take n f) s.sum)
    ≡ steps any (store_given n f₀ starts runs upper u) (drop (p + 1) lower) (work (l ++ (get_or f (get_or lower p 0) nan ∷ [])) (take n g) r.sum)
step-turn n lower starts runs upper u f₀ f g l s r p h hi ek S =
    let i = get_or lower p 0 in
    let G = store_given n f₀ starts runs upper u in
    let em : get_or (take n f) i nan ≡ get_or f i nan = get_or-take n f i nan hi in
    let ey : get_or f₀ (n + i) nan ≡ get_or f (n + i) nan = sym (get_or-drop n f₀ i nan) ∙ ap (λ (z : List Float). get_or z i nan) (sym ek) ∙ get_or-drop n f i nan in
    let es : r.sum ≡ sub binary64 s.sum (mul binary64 (get_or f i nan) (get_or f (n + i) nan)) = ap (λ (z : RowSums). z.sum) S.sums in
    rw (add-one, drop-cons lower p 0, step-any G i (drop (suc p) lower) (work l (take n f) s.sum) (take n g) (rw em S.working), em, ey, es)

pub eliminating-more : (n : ℕ) (lower starts runs upper : List ℕ) (u f₀ f g : List Float) (s₀ s r : RowSums) (p : ℕ) → p < length lower
    → Below n lower → length g ≡ length f
    → Eliminating n lower (store_given n f₀ starts runs upper u) f₀ s₀ f s p
    → Stepped n (get_or lower p 0) (store_given n f starts runs upper u) f g s r
    → Eliminating n lower (store_given n f₀ starts runs upper u) f₀ s₀ g r (p + 1)
eliminating-more n lower starts runs upper u f₀ f g s₀ s r p h b lg I S =
    record {
      l = I.l ++ (get_or f (get_or lower p 0) nan ∷ []);
      upto = omega arith;
      same-f = lg ∙ I.same-f;
      kept = S.kept ∙ I.kept;
      working = sym (step-turn n lower starts runs upper u f₀ f g I.l s r p h (b p h) I.kept S) ∙ I.working;
    }

pub steps-end : (G : Given) (lower : List ℕ) (a : Work) (p : ℕ) → length lower ≤ p → steps any G (drop p lower) a ≡ ok a
unfolding steps
steps-end G lower a p h = rw (drop_of_length-le lower h)

-- ---- step 3

pub finite_on-all : (js : List ℕ) (w : List Float) → list_all (λ j. finite (get_or w j nan)) js ≡ finite_on js w
finite_on-all [] w = refl
finite_on-all (j ∷ js) w = ap (λ b. finite (get_or w j nan) && b) (finite_on-all js w)

-- an item of the list, as a walk over it gives it
pub place_inside : (n x : ℕ) (js : List ℕ) (p : ℕ) → Below n js → p < length js → x ≡ get_or js p x → x < n
place_inside n x js p b h e = rw (e ∙ get_or_default js p x 0 h) (b p h)

-- ---- clearing and keeping

pub zero_turn : (js : List ℕ) (w : List Float) (p j : ℕ) → j ≡ get_or js p 0 → p < length js → zeroed (drop (p + 1) js) (set w j nought) ≡ zeroed (drop p js) w
zero_turn js w p j e h = rw (e, add-one, drop-cons js p 0)

pub zero-end : (js : List ℕ) (w : List Float) (p : ℕ) → length js ≤ p → zeroed (drop p js) w ≡ w
zero-end js w p h = rw (drop_of_length-le js h)

-- ---- step 3

module _ (js : List ℕ) (w : List Float) (p : ℕ) where
  pub finite_on-pass : p < length js → finite (get_or w (get_or js p 0) nan) ≡ true → finite_on (drop (p + 1) js) w ≡ finite_on (drop p js) w
  finite_on-pass h f = rw (add-one, drop-cons js p 0, f)

  pub finite_on-fail : p < length js → finite (get_or w (get_or js p 0) nan) ≡ false → finite_on (drop p js) w ≡ false
  finite_on-fail h f = rw (drop-cons js p 0, f)

  pub finite_on-end : length js ≤ p → finite_on (drop p js) w ≡ true
  finite_on-end h = rw (drop_of_length-le js h)

-- the loop over a row's columns before turn p; the cursors of the columns that are left are as they were
pub record Keeping (starts : List ℕ) (w : List Float) (lower cursors₀ : List ℕ) (l₀ : List Float) (cursors : List ℕ) (l : List Float) (p : ℕ) : Type 0 where
  pub upto : p ≤ length lower
  pub same-cursors : length cursors ≡ length cursors₀
  pub same-l : length l ≡ length l₀
  pub later : (q : ℕ) → p ≤ q → q < length lower → get_or cursors (get_or lower q 0) 0 ≡ get_or cursors₀ (get_or lower q 0) 0
  pub left : keep_columns starts w (drop p lower) (columns cursors l) ≡ keep_columns starts w lower (columns cursors₀ l₀)

module _ {starts : List ℕ} {w : List Float} {lower cursors₀ : List ℕ} {l₀ : List Float} {cursors : List ℕ} {l : List Float} {p : ℕ}
    (I : Keeping starts w lower cursors₀ l₀ cursors l p) (h : p < length lower) (i a b : ℕ) (ei : i ≡ get_or lower p 0) (ea : a ≡ get_or starts i 0) (eb : b ≡ get_or cursors i 0) where
  pub keeping-more : Ascending lower → Keeping starts w lower cursors₀ l₀ (set cursors i (get_or cursors i 0 + 1)) (set l (a + b) (get_or w i nan)) (p + 1)
  unfolding keep_columns
  keeping-more asc = record {
    upto = omega arith;
    same-cursors = length-set cursors i (get_or cursors i 0 + 1) ∙ I.same-cursors;
    same-l = length-set l (a + b) (get_or w i nan) ∙ I.same-l;
    later = λ q g u. get_or-set_other cursors i (get_or lower q 0) (get_or cursors i 0 + 1) 0 (λ e. omega (arith, asc p q (omega arith) u)) ∙ I.later q (omega arith) u;
    left = rw (ea, eb, ei, add-one p) (turn ∙ I.left);
  }
    where
      turn : keep_columns starts w (drop (suc p) lower) (columns (set cursors (get_or lower p 0) (get_or cursors (get_or lower p 0) 0 + 1))
          (set l (get_or starts (get_or lower p 0) 0 + get_or cursors (get_or lower p 0) 0) (get_or w (get_or lower p 0) nan)))
          ≡ keep_columns starts w (drop p lower) (columns cursors l)
      turn = rw (drop-cons lower p 0)

pub keeping-end : (starts : List ℕ) (w : List Float) (lower : List ℕ) (a : Columns) (p : ℕ) → length lower ≤ p → keep_columns starts w (drop p lower) a ≡ a
unfolding keep_columns
keeping-end starts w lower a p h = rw (drop_of_length-le lower h)

-- ---- back

module _ (js : List ℕ) (us z : List Float) where
  pub rest-turn : (t : Float) (p j : ℕ) → j ≡ get_or js p 0 → p < length js → p < length us
      → rest any (sub binary64 t (mul binary64 (get_or us p nan) (get_or z j nan))) (drop (p + 1) js) (drop (p + 1) us) z ≡ rest any t (drop p js) (drop p us) z
  unfolding rest
  rest-turn t p j e h g = rw (e, add-one, drop-cons js p 0, drop-cons us p nan)

  pub rest_end : (t : Float) (p : ℕ) → length js ≤ p → rest any t (drop p js) (drop p us) z ≡ ok t
  unfolding rest
  rest_end t p h = rw (drop_of_length-le js h)

pub tail-length : (f : List Float) (n : ℕ) → length f ≡ 3 * n → length (take (length f - (z_from n)) (drop (z_from n) f)) ≡ n
tail-length f n h = rw (take_rest (z_from n) f) (simp length-drop (omega arith))

back-turn : (G : Given) (k i : ℕ) (z : List Float) (t : Float) → k ≡ suc i → finite (G.y i) ≡ true → rest any (G.y i) (G.upper i) (G.u i) z ≡ ok t
    → finite t ≡ true → back G k z ≡ back G i (set z i t)
unfolding back
back-turn G k i z t e fy r ft = rw (e, rest_at i (G.y i) (G.upper i) (G.u i) z t fy r, ft)

back-stop : (G : Given) (k i : ℕ) (z : List Float) (t : Float) → k ≡ suc i → finite (G.y i) ≡ true → rest any (G.y i) (G.upper i) (G.u i) z ≡ ok t
    → finite t ≡ false → back G k z ≡ met (overflow i)
unfolding back
back-stop G k i z t e fy r ft = rw (e, rest_at i (G.y i) (G.upper i) (G.u i) z t fy r, ft)

pub back_end : (G : Given) (k : ℕ) (z : List Float) → k ≡ 0 → back G k z ≡ ok z
unfolding back
back_end G k z e = rw e

-- y as it was
pub same-y : (n i : ℕ) (f g : List Float) → i < n → take (z_from n) g ≡ take (z_from n) f → get_or g (n + i) nan ≡ get_or f (n + i) nan
same-y n i f g h e =
    let b : n + i < z_from n = omega arith in
    sym (get_or-take (z_from n) g (n + i) nan b) ∙ ap (λ (l : List Float). get_or l (n + i) nan) e ∙ get_or-take (z_from n) f (n + i) nan b

-- the same on the scratch, where y stands from n on and z from 2n on
module _ (n k i : ℕ) (starts runs upper : List ℕ) (u f₀ f : List Float) (t : Float) (e : k ≡ suc i) (h : i < n)
    (kept : take (z_from n) f ≡ take (z_from n) f₀) (fy : finite (get_or f₀ (n + i) nan) ≡ true)
    (r : rest any (get_or f (n + i) nan) (list_at starts runs upper i) (row_of starts u i) (drop (z_from n) f) ≡ ok t) where
  r₀ : rest any (get_or f₀ (n + i) nan) (list_at starts runs upper i) (row_of starts u i) (drop (z_from n) f) ≡ ok t
  r₀ = rw (← same-y n i f₀ f h kept) r

  pub scratch-turn : finite t ≡ true
      → back (store_given n f₀ starts runs upper u) i (drop (z_from n) (set f (z_from n + i) t)) ≡ back (store_given n f₀ starts runs upper u) k (drop (z_from n) f)
  scratch-turn ft = rw (drop-set-add (z_from n) f i t) (sym (back-turn (store_given n f₀ starts runs upper u) k i (drop (z_from n) f) t e fy r₀ ft))

  pub scratch-stop : finite t ≡ false → back (store_given n f₀ starts runs upper u) k (drop (z_from n) f) ≡ met (overflow i)
  scratch-stop ft = back-stop (store_given n f₀ starts runs upper u) k i (drop (z_from n) f) t e fy r₀ ft
