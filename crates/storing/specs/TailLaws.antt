-- Step 2: the first place of the row whose list has as many entries above k as k's list, by one entry of each list.
use Rattle.std.specs.Prelude.{ℕ, zero, suc, ◌+◌, ◌-◌, ◌≤◌, ◌<◌, ◌≡◌, refl, false, List, [], ◌∷◌, ◌++◌, length, take, drop, ltb, eqb, Some, None}
use Rattle.std.proofs.Math.Path.{sym, ap}
use Rattle.std.proofs.Common.{◌∙◌, arith, length-drop, take-append-drop, drop-cons}
use Rattle.std.proofs.Math.ListN.{get_or}
use borrow.Author.Tests.{ltb-true, lt-ltb, le-ltb, eqb-true, eqb-false, eq-eqb, ne_eqb}
use Rattle.base.specs.Lists.{list_at}
use Rattle.base.specs.First.{first}
use Rattle.base.specs.FirstLaws.{first_found, first-none}
use Rattle.base.specs.Tests.{by-test, true-ext}
use Rattle.placement.specs.Placing.{count_above, tails, best_from, best}
use Rattle.placement.specs.ListLaws.{Ascends, count-all, count-tail, count-le}
use Rattle.base.specs.AscLaws.{mem-at}
use Rattle.lent.specs.Reading.{length_in}
use Rattle.lent.specs.ReadingLaws.{list_length, list-entry}
use Rattle.storing.specs.Slices.{Tailed, AllTailed, TailIn, full_at, IsTail}

count-append : (k : ℕ) (xs ys : List ℕ) → count_above k (xs ++ ys) ≡ count_above k xs + count_above k ys
unfolding count_above
count-append k [] ys = omega arith
count-append k (x ∷ xs) ys = by-test (ltb k x) (λ e. rw e (omega (arith, count-append k xs ys))) (λ e. rw e (count-append k xs ys))

ascends-drop : (m d : ℕ) (xs : List ℕ) → d < length xs → Ascends m xs → Ascends (get_or xs d 0) (drop d xs)
ascends-drop m d [] h a = absurd (omega arith)
ascends-drop m zero (x ∷ xs) h a = (omega arith, a.1)
ascends-drop m (suc d) (x ∷ xs) h a = ascends-drop (suc x) d xs (omega arith) a.1

-- an ascending list with at most c entries above k has c of them exactly if the c-th from the end is above k
above-test : (k c m : ℕ) (xs : List ℕ) → Ascends m xs → 0 < c → c ≤ length xs → count_above k xs ≤ c → ltb k (get_or xs (length xs - c) 0) ≡ eqb (count_above k xs) c
above-test k c m xs a pos h le =
    let d = length xs - c in
    let in_list : d < length xs = omega arith in
    true-ext (ltb k (get_or xs d 0)) (eqb (count_above k xs) c)
    (λ t.
    let all = count-all k (get_or xs d 0) (drop d xs) (ltb-true k (get_or xs d 0) t) (ascends-drop m d xs in_list a) in
    eq-eqb (count_above k xs) c (omega (arith, all, length-drop d xs, count-append k (take d xs) (drop d xs), ap (count_above k) (take-append-drop d xs))))
    (λ t.
    let e : count_above k xs ≡ c = eqb-true (count_above k xs) c t in
    let b : Ascends (suc k) (get_or xs d 0 ∷ drop (suc d) xs) = rw (e, drop-cons xs d 0 in_list) at (count-tail k m xs a) in
    lt-ltb k (get_or xs d 0) b.0)

-- ---- by the length that the starts tell, and one entry

pub tail-long : (starts runs slots : List ℕ) (i most : ℕ) → TailIn starts runs slots i most → length (list_at starts runs slots i) ≡ length_in starts i
tail-long starts runs slots i most t = list_length starts runs slots i t.readable

module _ (starts runs slots : List ℕ) (k count i l : ℕ) (r : Tailed starts runs slots k count i) (e : l ≡ length_in starts i) where
  long : length (list_at starts runs slots i) ≡ l
  long = list_length starts runs slots i r.readable ∙ sym e

  pub tail-short : l < count → false ≡ eqb (tails (list_at starts runs slots) k i) count
  unfolding tails
  tail-short h = sym (ne_eqb (count_above k (list_at starts runs slots i)) count (λ q. absurd (omega (arith, count-le k (list_at starts runs slots i), long))))

  pub tail-told : 0 < count → count ≤ l → (a v : ℕ) → a ≡ get_or runs i 0 → v ≡ get_or slots (a + (l - count)) 0 → ltb k v ≡ eqb (tails (list_at starts runs slots) k i) count
  unfolding tails
  tail-told pos h a v ea q =
      let at : get_or (list_at starts runs slots i) (l - count) 0 ≡ v = list-entry starts runs slots i (l - count) 0 (omega arith) ∙ ap (λ (s : ℕ). get_or slots (s + (l - count)) 0) (sym ea) ∙ sym q in
      rw (← at, ← long) (above-test k count 0 (list_at starts runs slots i) r.ascends pos (omega (arith, long)) r.most)

-- ---- the best of a row in which no place has more than c

best-max : (f : ℕ → ℕ) (i m : ℕ) (row : List ℕ) → ((j : ℕ) → j < length row → f (get_or row j 0) ≤ m) → best_from f i m row ≡ record { at = i; most = m }
unfolding best_from
best-max f i m [] le = refl
best-max f i m (x ∷ xs) le = rw (le-ltb m (f x) (le 0 (omega arith))) (best-max f i m xs (λ j l. le (suc j) (omega arith)))

best_none : (f : ℕ → ℕ) (c i m : ℕ) (row : List ℕ) → m < c → ((j : ℕ) → j < length row → f (get_or row j 0) < c) → (best_from f i m row).most < c
unfolding best_from
best_none f c i m [] h le = h
best_none f c i m (x ∷ xs) h le =
    by-test (ltb m (f x))
    (λ t. rw t (best_none f c x (f x) xs (le 0 (omega arith)) (λ j l. le (suc j) (omega arith))))
    (λ t. rw t (best_none f c i m xs h (λ j l. le (suc j) (omega arith))))

best-some : (f : ℕ → ℕ) (c i m j : ℕ) (row : List ℕ) → m < c → j < length row → f (get_or row j 0) ≡ c
    → ((l : ℕ) → l < j → f (get_or row l 0) < c) → ((l : ℕ) → l < length row → f (get_or row l 0) ≤ c) → best_from f i m row ≡ record { at = get_or row j 0; most = c }
unfolding best_from
best-some f c i m j [] h l e lt le = absurd (omega arith)
best-some f c i m zero (x ∷ xs) h l e lt le = rw (e, lt-ltb m c h) (best-max f x c xs (λ j q. le (suc j) (omega arith)))
best-some f c i m (suc j) (x ∷ xs) h l e lt le =
    by-test (ltb m (f x))
    (λ t. rw t (best-some f c x (f x) j xs (lt 0 (omega arith)) (omega arith) e (λ a q. lt (suc a) (omega arith)) (λ a q. le (suc a) (omega arith))))
    (λ t. rw t (best-some f c i m j xs h (omega arith) e (λ a q. lt (suc a) (omega arith)) (λ a q. le (suc a) (omega arith))))

module _ (starts runs slots : List ℕ) (k count : ℕ) (row : List ℕ) (all : AllTailed starts runs slots k count row) (pos : 0 < count) where
  at_most : (j : ℕ) → j < length row → tails (list_at starts runs slots) k (get_or row j 0) ≤ count
  at_most j l = (all (get_or row j 0) (mem-at row j l)).most

  less : (j : ℕ) → j < length row → full_at starts runs slots k count row j ≡ false → tails (list_at starts runs slots) k (get_or row j 0) < count
  unfolding full_at
  less j l e = omega (arith, at_most j l, eqb-false (tails (list_at starts runs slots) k (get_or row j 0)) count e)

  pub found-tail : (j : ℕ) → first (full_at starts runs slots k count row) (length row) ≡ Some j
      → (j < length row) × IsTail (best (tails (list_at starts runs slots) k) row) (get_or row j 0) count
  unfolding full_at
  found-tail j e =
      let r = first_found (full_at starts runs slots k count row) (length row) j e in
      let b = best-some (tails (list_at starts runs slots) k) count 0 0 j row pos r.0 (eqb-true _ _ r.1)
      (λ l h. less l (omega (arith, r.0)) (first-none (full_at starts runs slots k count row) j r.2 l h)) at_most in
      (r.0, record { at-is = sym (ap (λ t. t.at) b); most-is = sym (ap (λ t. t.most) b) })

  pub found_none : first (full_at starts runs slots k count row) (length row) ≡ None → (best (tails (list_at starts runs slots) k) row).most < count
  found_none e =
      best_none (tails (list_at starts runs slots) k) count 0 0 row pos (λ j l. less j l (first-none (full_at starts runs slots k count row) (length row) e j l))
