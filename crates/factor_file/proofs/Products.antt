-- "the sum over k of (filled rows below k in column k) times (length of T(k))" is the sum that 21 takes along the lower entries.
use Rattle.base.specs.Answers.{Pass}
use mathlib.Core.Path.{◌≡◌, refl, sym, ap, ap₂, ◌∙◌}
use mathlib.Core.Bool.{Bool, true, false, ◌&&◌, ◌||◌}
use mathlib.Core.List.{List, [], ◌∷◌, map, map-append}
use Prim.Native.Nat.{ℕ, zero, suc, ◌+◌, ◌-◌, ◌*◌, ◌<◌, ◌≤◌}
use native.Mathlib.Omega.{arith}
use native.Mathlib.Decide.{ℕ_discrete}
use native.Mathlib.Numerals.{add-one}
use lib.ListN.{length, get_or, take, drop, length-drop}
use lib.Seq.{take-add, take-length, length-take-le}
use lib.Dec.{eqb, leb, ltb}
use borrow.Author.Tests.{eq-eqb, ne_eqb, eqb-true, leb-true, ltb-true}
use Rattle.base.specs.Lists.{sum, bit, count, total, has, list_at}
use Rattle.base.specs.Tests.{and_cases}
use Rattle.base.specs.AscLaws.{sum-ext, sum-zero, sum-add, sum-mul, sum-swap, total-append}
use Rattle.base.specs.declared.Form.TheVariants.{Plain}
use Rattle.base.specs.declared.Side.TheVariants.{Lower, Upper}
use Rattle.lent.specs.Reading.{length_in}
use Rattle.outcome.specs.Buffers.{SideBuffers}
use Rattle.outcome.specs.Resolve.{given_list, rises_in, bad_list}
use Rattle.factor_contents.specs.FactorFile.{FactorLists, lower_of, upper_of, ask15, products_of}
use Rattle.factor_file.proofs.Values.{placed, rises, begins-at, ends, lower-good, upper-good}

-- ---- one number

hit-none : (n x : ℕ) (f : ℕ → ℕ) → n ≤ x → sum n (λ j. bit (eqb x j) * f j) ≡ 0
unfolding sum
hit-none zero x f h = refl
hit-none (suc n) x f h = rw (ne_eqb x n (λ e. omega arith)) (omega (arith, hit-none n x f (omega arith)))

hit-one : (n x : ℕ) (f : ℕ → ℕ) → x < n → sum n (λ j. bit (eqb x j) * f j) ≡ f x
unfolding sum
hit-one zero x f h = absurd (omega arith)
hit-one (suc n) x f h = elim (ℕ_discrete x n) [
  | yes e ↦ rw (eq-eqb x n e) (omega (arith, hit-none n x f (omega arith), ap f e))
  | no q ↦ rw (ne_eqb x n q) (omega (arith, hit-one n x f (omega arith)))
]

-- ---- an ascending list

has-below : (lo hi : ℕ) (xs : List ℕ) (j : ℕ) → rises_in lo hi xs ≡ true → j < lo → has xs j ≡ false
unfolding rises_in has
has-below lo hi [] j e h = refl
has-below lo hi (x ∷ xs) j e h =
    let a = and_cases (leb lo x && ltb x hi) (rises_in (suc x) hi xs) e in
    let b = and_cases (leb lo x) (ltb x hi) a.0 in
    let g = leb-true lo x b.0 in
    rw (ne_eqb x j (λ q. omega arith)) (has-below (suc x) hi xs j a.1 (omega arith))

two-bits : (a b : Bool) (v : ℕ) → (a ≡ true → b ≡ false) → bit a * v + bit b * v ≡ bit (a || b) * v
two-bits true b v h = rw (h refl) (omega arith)
two-bits false b v h = omega arith

row-total : (f : ℕ → ℕ) (n lo hi : ℕ) (xs : List ℕ) → rises_in lo hi xs ≡ true → hi ≤ n → total (map f xs) ≡ sum n (λ j. bit (has xs j) * f j)
unfolding rises_in has total
row-total f n lo hi [] e h = sym (sum-ext n (λ j. 0 * f j) (λ j. 0) (λ j l. omega arith) ∙ sum-zero n)
row-total f n lo hi (x ∷ xs) e h =
    let a = and_cases (leb lo x && ltb x hi) (rises_in (suc x) hi xs) e in
    let b = and_cases (leb lo x) (ltb x hi) a.0 in
    let l : x < hi = ltb-true x hi b.1 in
    ap₂ ◌+◌ (sym (hit-one n x f (omega arith))) (row-total f n (suc x) hi xs a.1 h)
    ∙ (sym (sum-add n (λ j. bit (eqb x j) * f j) (λ j. bit (has xs j) * f j))
    ∙ sum-ext n (λ j. bit (eqb x j) * f j + bit (has xs j) * f j) (λ j. bit (eqb x j || has xs j) * f j)
    (λ j q. two-bits (eqb x j) (has xs j) (f j) (λ t. has-below (suc x) hi xs j a.1 (omega (arith, eqb-true x j t)))))

-- ---- the lower lists, one after another

module _ (n : ℕ) (b : SideBuffers) (good : (k : ℕ) → k < n → bad_list Plain Lower n b k ≡ false) (f : ℕ → ℕ) where
  abbrev start : ℕ → ℕ
  start k = get_or b.starts k 0

  abbrev row : ℕ → List ℕ
  row k = given_list Plain b k

  rows_upto : (k : ℕ) → 0 < n → k ≤ n → total (map f (take (start k) b.index)) ≡ sum k (λ i. total (map f (row i)))
  unfolding given_list list_at sum total
  rows_upto zero s h = rw (begins-at Lower n b good s)
  rows_upto (suc k) s h =
      let r = rises Lower n b good k (omega arith) in
      let e : start (suc k) ≡ start k + (start (k + 1) - start k) = ap start (sym (add-one k)) ∙ omega (arith, r.0) in
      rw (e, take-add (start k) (start (k + 1) - start k) b.index, map-append)
      (total-append (map f (take (start k) b.index)) (map f (take (start (k + 1) - start k) (drop (start k) b.index)))
      ∙ ap (λ (v : ℕ). v + total (map f (take (start (k + 1) - start k) (drop (start k) b.index)))) (rows_upto k s (omega arith)))

  pub by-columns : 0 < n → start n ≡ length b.index → total (map f b.index) ≡ sum n (λ j. count (λ i. has (row i) j) n * f j)
  unfolding count
  by-columns s e =
      ap (λ (l : List ℕ). total (map f l)) (sym (take-length b.index) ∙ ap (λ (m : ℕ). take m b.index) (sym e))
      ∙ (rows_upto n s (omega arith)
      ∙ (sum-ext n (λ i. total (map f (row i))) (λ i. sum n (λ j. bit (has (row i) j) * f j)) (λ i l. row-total f n 0 i (row i) (placed Lower n b good i l).2 (omega arith))
      ∙ (sum-swap n n (λ i j. bit (has (row i) j) * f j)
      ∙ sum-ext n (λ j. sum n (λ i. bit (has (row i) j) * f j)) (λ j. sum n (λ i. bit (has (row i) j)) * f j) (λ j l. sum-mul n (λ i. bit (has (row i) j)) (f j)))))

-- the length of a list that lies within its store
list-long : (starts index : List ℕ) (k : ℕ) (up : SideBuffers) → up.starts ≡ starts → up.index ≡ index → get_or starts k 0 ≤ get_or starts (k + 1) 0 → get_or starts (k + 1) 0 ≤ length index
    → length_in starts k ≡ length (given_list Plain up k)
unfolding given_list list_at
list-long starts index k up es ei r i =
    rw (es, ei) (sym (length-take-le (get_or starts (k + 1) 0 - get_or starts k 0) (drop (get_or starts k 0) index) (rw length-drop (omega arith))))

-- ---- the theorem

-- the rows below k in column k, times the length of T(k)
pub columns-products : (n lower upper : ℕ) (l : FactorLists) → 0 < n → length l.lower-index ≡ lower → length l.upper-index ≡ upper → ask15 n lower upper l ≡ Pass
    → products_of l.lower-index l.upper-starts ≡ sum n (λ k. count (λ i. has (given_list Plain (lower_of l) i) k) n * length (given_list Plain (upper_of l) k))
unfolding products_of
columns-products n lower upper l s el eu p =
    by-columns n (lower_of l) (lower-good n lower upper l p) (length_in l.upper-starts) s ((ends n lower upper l p).0 ∙ sym el)
    ∙ sum-ext n (λ k. count (λ i. has (given_list Plain (lower_of l) i) k) n * length_in l.upper-starts k) (λ k. count (λ i. has (given_list Plain (lower_of l) i) k) n * length (given_list Plain (upper_of l) k))
    (λ k h. ap (λ (v : ℕ). count (λ i. has (given_list Plain (lower_of l) i) k) n * v) (as_long k h))
  where
    as_long : (k : ℕ) → k < n → length_in l.upper-starts k ≡ length (given_list Plain (upper_of l) k)
    as_long k h = list-long l.upper-starts l.upper-index k (upper_of l) refl refl (rises Upper n (upper_of l) (upper-good n lower upper l p) k h).0 (rises Upper n (upper_of l) (upper-good n lower upper l p) k h).1
