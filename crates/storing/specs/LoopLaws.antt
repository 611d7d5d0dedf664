-- One turn of a loop: what each definition over a list is at index j, by what it is at j + 1.
use Rattle.std.specs.Prelude.{ℕ, suc, ◌+◌, ◌-◌, ◌≤◌, ◌<◌, min, ◌≡◌, false, set, length, take, drop, get_or, ltb, eqb}
use Rattle.std.proofs.Math.Path.{refl}
use Rattle.std.proofs.Math.Bool.{true}
use mathlib.Core.List.{List, [], ◌∷◌}
use Rattle.std.proofs.Common.{arith, add-one, length-drop, drop_of_length-le, drop-cons}
use Rattle.std.proofs.Math.Decide.{dec_lt}
use Rattle.std.proofs.Math.Seq.{paste, paste-suc}
use borrow.Author.Tests.{lt-ltb, le-ltb, eq-eqb, ne_eqb}
use Rattle.lent.specs.ReadingLaws.{take_rest}
use Rattle.placement.specs.Placing.{first_at, agree, fresh, append_all, meets, overlap}
use Rattle.storing.specs.Slices.{as_plan, held}
use Rattle.base.specs.Tests.{by-test}

pub drop-at-one : {A : Type 0} (l : List A) (j : ℕ) (d : A) → j < length l → drop j l ≡ get_or l j d ∷ drop (j + 1) l
drop-at-one l j d h = rw (add-one, drop-cons l j d)

-- entry j of a list is appended
pub append-turn : (index₀ index rest : List ℕ) (used j v : ℕ) → index ≡ paste index₀ used rest j → v ≡ get_or rest j 0 → j < length rest → used + length rest ≤ length index₀
    → set index (used + j) v ≡ paste index₀ used rest (j + 1)
append-turn index₀ index rest used j v e f h l = rw (e, f, add-one) (paste-suc index₀ used rest j 0 (omega arith) h)

module _ (x : ℕ) (l : List ℕ) (j : ℕ) where
  pub first-end : length l ≤ j → first_at x (drop j l) ≡ 0
  unfolding first_at
  first-end h = rw (drop_of_length-le l h)

  pub first-hit : j < length l → get_or l j 0 ≡ x → first_at x (drop j l) ≡ 0
  unfolding first_at
  first-hit h t = rw (drop-at-one l j 0 h, eq-eqb (get_or l j 0) x t)

  pub first-miss : j < length l → (get_or l j 0 ≡ x → ⊥) → first_at x (drop j l) ≡ suc (first_at x (drop (j + 1) l))
  unfolding first_at
  first-miss h t = rw (drop-at-one l j 0 h, ne_eqb (get_or l j 0) x t)

module _ (s t : List ℕ) (j : ℕ) where
  agree-end-left : length s ≤ j → agree (drop j s) (drop j t) ≡ true
  unfolding agree
  agree-end-left h = rw (drop_of_length-le s h)

  agree-end-right : length t ≤ j → agree (drop j s) (drop j t) ≡ true
  unfolding agree
  agree-end-right h = rw (drop_of_length-le t h) (none (drop j s))
    where
      none : (l : List ℕ) → agree l [] ≡ true
      none [] = refl
      none (x ∷ l) = refl

  pub agree-end : min (length s) (length t) ≤ j → agree (drop j s) (drop j t) ≡ true
  agree-end h = elim (dec_lt j (length s)) [
    | yes g ↦ agree-end-right (omega arith)
    | no g ↦ agree-end-left (omega arith)
  ]

  pub agree-hit : j < length s → j < length t → get_or s j 0 ≡ get_or t j 0 → agree (drop j s) (drop j t) ≡ agree (drop (j + 1) s) (drop (j + 1) t)
  unfolding agree
  agree-hit h g e = rw (drop-at-one s j 0 h, drop-at-one t j 0 g, eq-eqb (get_or s j 0) (get_or t j 0) e)

  pub agree-miss : j < length s → j < length t → (get_or s j 0 ≡ get_or t j 0 → ⊥) → agree (drop j s) (drop j t) ≡ false
  unfolding agree
  agree-miss h g e = rw (drop-at-one s j 0 h, drop-at-one t j 0 g, ne_eqb (get_or s j 0) (get_or t j 0) e)

-- what the code appends, from the part of the list that it lends
pub paste-rest : (index : List ℕ) (u a : ℕ) (l : List ℕ)
    → paste index u (take (length l - a) (drop a l)) (length (take (length l - a) (drop a l))) ≡ paste index u (drop a l) (length l - a)
paste-rest index u a l = rw (take_rest a l, length-drop, take_rest a l)

pub set_same : (l : List ℕ) (i j v w : ℕ) → i ≡ j → v ≡ w → set l i v ≡ set l j w
set_same l i j v w e f = rw (e, f)

pub first-le : (x : ℕ) (l : List ℕ) → first_at x l ≤ length l
unfolding first_at
first-le x [] = omega arith
first-le x (y ∷ l) = by-test (eqb y x) (λ e. rw e (omega arith)) (λ e. rw e (omega (arith, first-le x l)))

pub meets-is : (slots : List ℕ) (last : ℕ) (list : List ℕ) (r : ℕ) → r ≡ first_at (get_or list 0 0) (take (length slots - last) (drop last slots)) → last + r ≡ meets (held slots [] last) list
unfolding meets
meets-is slots last list r e = rw (e, take_rest last slots)

pub meets-le : (slots : List ℕ) (last : ℕ) (list : List ℕ) → last ≤ length slots → meets (held slots [] last) list ≤ length slots
unfolding meets
meets-le slots last list h = omega (arith, first-le (get_or list 0 0) (drop last slots), length-drop last slots)

-- step 3, by what the code finds: p is where the list's first entry stands
module _ (slots : List ℕ) (last : ℕ) (list : List ℕ) (p : ℕ) (m : p ≡ meets (held slots [] last) list) where
  pub overlap-found : p < length slots → agree (take (length slots - p) (drop p slots)) list ≡ true → record { start = p; have = min (length list) (length slots - p) } ≡ as_plan (overlap (held slots [] last) list)
  unfolding overlap
  overlap-found h a = rw (← m, lt-ltb p (length slots) h, rw take_rest at a)

  pub overlap-apart : p < length slots → agree (take (length slots - p) (drop p slots)) list ≡ false → overlap (held slots [] last) list ≡ fresh slots list
  unfolding overlap
  overlap-apart h a = rw (← m, lt-ltb p (length slots) h, rw take_rest at a)

  pub overlap-missed : length slots ≤ p → overlap (held slots [] last) list ≡ fresh slots list
  unfolding overlap
  overlap-missed h = rw (← m, le-ltb p (length slots) h)

fresh-within : (slots list : List ℕ) → ((fresh slots list).start ≤ length slots) × ((fresh slots list).have ≤ length list)
unfolding fresh append_all
fresh-within slots list = (omega arith, omega arith)

pub overlap-within : (slots : List ℕ) (last : ℕ) (list : List ℕ) → last ≤ length slots
    → ((overlap (held slots [] last) list).start ≤ length slots) × ((overlap (held slots [] last) list).have ≤ length list)
unfolding overlap
overlap-within slots last list h =
    by-test (ltb (meets (held slots [] last) list) (length slots))
    (λ e.
    by-test (agree (drop (meets (held slots [] last) list) slots) list)
    (λ f. rw (e, f) (meets-le slots last list h, omega arith))
    (λ f. rw (e, f) (fresh-within slots list)))
    (λ e. rw e (fresh-within slots list))
