-- An ascending list cut behind one of its entries.
use Rattle.std.specs.Prelude.{◌≡◌, refl, List, [], ◌∷◌, Bool, true, ℕ, zero, suc, ◌<◌, length, get_or, take, eqb}
use Rattle.std.proofs.Common.{sym, ap, ◌∙◌, inl, inr, arith, eq-eqb, ne_eqb, eqb-true}
use Rattle.std.proofs.lemmas.Bool.{false≢true}
use Rattle.base.specs.Lists.{asc, has, count, bit}
use Rattle.base.specs.Tests.{or_cases, or_right}
use Rattle.base.specs.AscLaws.{asc-rank, asc-ascends, asc-take, count-suc, count-lt, length-asc}
use Rattle.marks.specs.Marks.{upto}
use Rattle.marks.specs.CutLaws.{upto-cons}

-- a list that has p first at index b
upto-at : (p : ℕ) (l : List ℕ) (b : ℕ) → b < length l → get_or l b 0 ≡ p → ((a : ℕ) → a < b → get_or l a 0 ≡ p → ⊥) → upto p l ≡ suc b
upto-at p [] b h e d = absurd (omega arith)
upto-at p (x ∷ l) zero h e d = rw (upto-cons p x l, eq-eqb x p e)
upto-at p (x ∷ l) (suc b) h e d =
    rw (upto-cons p x l, ne_eqb x p (d 0 (omega arith))) (ap suc (upto-at p l b (omega arith) e (λ a k q. d (suc a) (omega arith) q)))

has_here : (x : ℕ) (l : List ℕ) (j : ℕ) → x ≡ j → has (x ∷ l) j ≡ true
unfolding has
has_here x l j e = rw (eq-eqb x j e)

has_there : (x : ℕ) (l : List ℕ) (j : ℕ) → has l j ≡ true → has (x ∷ l) j ≡ true
unfolding has
has_there x l j h = or_right (eqb x j) (has l j) h

has-nil : (j : ℕ) → has [] j ≡ true → ⊥
unfolding has
has-nil j h = false≢true h

-- a list without p is taken whole
pub upto-none : (p : ℕ) (l : List ℕ) → (has l p ≡ true → ⊥) → upto p l ≡ length l
unfolding upto
upto-none p [] h = refl
upto-none p (x ∷ l) h = rw (ne_eqb x p (λ e. h (has_here x l p e))) (ap suc (upto-none p l (λ q. h (has_there x l p q))))

-- what a part has the list has
pub has-take : (c : ℕ) (l : List ℕ) (j : ℕ) → has (take c l) j ≡ true → has l j ≡ true
unfolding has
has-take zero l j h = absurd (has-nil j h)
has-take (suc c) [] j h = h
has-take (suc c) (x ∷ l) j h = elim (or_cases (eqb x j) (has (take c l) j) h) [
  | inl e ↦ has_here x l j (eqb-true x j e)
  | inr q ↦ has_there x l j (has-take c l j q)
]

module _ (u : ℕ → Bool) (n p : ℕ) (l : p < n) (h : u p ≡ true) where
  -- cut behind p, it has the numbers up to p
  asc-upto : upto p (asc u n) ≡ count u (suc p)
  asc-upto =
      let low = count-lt u p n l h in
      upto-at p (asc u n) (count u p) (omega (arith, length-asc u n)) (asc-rank u n p l h)
      (λ a k e. omega (arith, asc-ascends u n a (count u p) k low, asc-rank u n p l h))
      ∙ sym (count-suc u p ∙ omega (arith, ap bit h))

  pub upto-part : take (upto p (asc u n)) (asc u n) ≡ asc u (suc p)
  upto-part = ap (λ c. take c (asc u n)) asc-upto ∙ asc-take u (suc p) n l
