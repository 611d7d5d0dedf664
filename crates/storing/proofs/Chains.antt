-- What a chain of iterators finds in a list, in the words of the placing.
use Rattle.std.specs.Prelude.{ℕ, suc, ◌+◌, ◌-◌, ◌≤◌, ◌<◌, ◌≡◌, ◌==◌, cond, Option, Some, None, length, take, drop, get_or, ltb, eqb}
use Rattle.std.specs.List.{position_or_len, position, list_all, zip}
use Rattle.std.proofs.Common.{refl, sym, ap, ◌∙◌, arith, length-drop}
use Rattle.std.proofs.lemmas.List.Recursion.{is_position_or_len}
use mathlib.Core.List.{List, [], ◌∷◌}
use borrow.Author.Tests.{ltb-true, ltb-false}
use Rattle.base.specs.Tests.{by-test}
use Rattle.lent.specs.ReadingLaws.{take_rest}
use Rattle.placement.specs.Placing.{first_at, agree, meets}
use Rattle.storing.specs.Slices.{held}

first-len : (x : ℕ) (l : List ℕ) → first_at x l ≡ position_or_len (λ y. y == x) l
unfolding first_at
first-len x l = is_position_or_len (first_at x) (λ y. y == x) refl (λ y ys. ap (cond (eqb y x) 0) (one-more (first_at x ys))) l
  where
    one-more : (m : ℕ) → suc m ≡ 1 + m
    one-more m = omega arith

at-first : (x : ℕ) (l : List ℕ) (j : ℕ) → Some j ≡ position (λ y. y == x) l → (j ≡ first_at x l) × (j < length l)
at-first x l j e =
    by-test (ltb (first_at x l) (length l))
    (λ t.
    let f : Some j ≡ Some (first_at x l) = e ∙ rw (← first-len x l, t) in
    let g : j ≡ first_at x l = cc in
    (g, omega (arith, g, ltb-true (first_at x l) (length l) t)))
    (λ t. let f : Some j ≡ None = e ∙ rw (← first-len x l, t) in let z : ◌≡◌ {A = ℕ} 0 1 = cc in absurd (omega arith))

nowhere : (x : ℕ) (l : List ℕ) → None ≡ position (λ y. y == x) l → length l ≤ first_at x l
nowhere x l e =
    by-test (ltb (first_at x l) (length l))
    (λ t. let f : None ≡ Some (first_at x l) = e ∙ rw (← first-len x l, t) in let z : ◌≡◌ {A = ℕ} 0 1 = cc in absurd (omega arith))
    (λ t. omega (arith, ltb-false (first_at x l) (length l) t))

-- where the list's first entry stands in the used part, if it does
module _ (slots : List ℕ) (last : ℕ) (list : List ℕ) (o : Option ℕ) (is : o ≡ position (λ y. y == get_or list 0 0) (take (length slots - last) (drop last slots))) where
  pub meets-at : (j : ℕ) → last ≤ length slots → o ≡ Some j → (last + j ≡ meets (held slots [] last) list) × (last + j < length slots)
  unfolding meets
  meets-at j h e =
      let r = at-first (get_or list 0 0) (drop last slots) j (sym e ∙ is ∙ rw (take_rest last slots)) in
      (ap (λ x. last + x) r.0, omega (arith, r.1, length-drop last slots))

  pub meets-none : last ≤ length slots → o ≡ None → length slots ≤ meets (held slots [] last) list
  unfolding meets
  meets-none h e =
      let r = nowhere (get_or list 0 0) (drop last slots) (sym e ∙ is ∙ rw (take_rest last slots)) in
      omega (arith, r, length-drop last slots)

-- two lists agree as far as both go if all pairs of their entries do
pub agree-zip : (s t : List ℕ) → list_all (λ p. p.0 == p.1) (zip s t) ≡ agree s t
unfolding agree
agree-zip [] t = refl
agree-zip (x ∷ s) [] = refl
agree-zip (x ∷ s) (y ∷ t) = by-test (eqb x y) (λ e. rw e (agree-zip s t)) (λ e. rw e)
