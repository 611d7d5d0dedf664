-- Laws of columns as lists of rows, and of their lengths.
use mathlib.Core.Path.{◌≡◌, refl, sym, ap, ◌∙◌, fun_ext}
use mathlib.Core.List.{List, [], ◌∷◌, ◌++◌}
use mathlib.Core.Bool.{Bool, true, false, ◌||◌, or_comm}
use Prim.Native.Nat.{ℕ, zero, suc, ◌+◌, ◌-◌, ◌<◌, ◌≤◌}
use native.Mathlib.Omega.{arith}
use native.Mathlib.Numerals.{add-one}
use native.Mathlib.Decide.{ℕ_discrete}
use lib.ListN.{length, get_or, take, drop, take-append-drop}
use lib.Seq.{take-suc, take-length}
use lib.Dec.{eqb}
use borrow.Author.Tests.{eq-eqb, ne_eqb}
use Rattle.base.specs.Tests.{by-test}
use Rattle.base.specs.Lists.{sum, has}
use Rattle.base.specs.AscLaws.{sum-ext}
use Rattle.lent.specs.Reading.{Below}
use Rattle.lent.specs.ReadingLaws.{same, then}
use Rattle.columns.specs.Columns.{leads, cons_if, hits, bare, column, Added, length_at, held}

-- ---- one entry after another

-- what is put in front twice stands there once
once : (a b : Bool) (i : ℕ) (l : List ℕ) → cons_if a i (cons_if b i l) ≡ cons_if (a || b) i l
once true true i l = by-test (leads i l) (λ e. rw (e, e)) (λ e. rw (e, eq-eqb i i refl))
once true false i l = refl
once false b i l = refl

swap : (a b : Bool) (i : ℕ) (l : List ℕ) → cons_if a i (cons_if b i l) ≡ cons_if b i (cons_if a i l)
swap a b i l = rw (once a b i l, once b a i l, or_comm a b)

pub hits-is : (i : ℕ) (xs : List ℕ) (f : ℕ → List ℕ) (j : ℕ) → hits i xs f j ≡ cons_if (has xs j) i (f j)
unfolding hits has
hits-is i [] f j = refl
hits-is i (x ∷ xs) f j = ap (cons_if (eqb x j) i) (hits-is i xs f j) ∙ once (eqb x j) (has xs j) i (f j)

hits-append : (i : ℕ) (xs ys : List ℕ) (f : ℕ → List ℕ) (j : ℕ) → hits i (xs ++ ys) f j ≡ hits i ys (hits i xs f) j
unfolding hits
hits-append i [] ys f j = refl
hits-append i (x ∷ xs) ys f j =
    ap (cons_if (eqb x j) i) (hits-append i xs ys f j ∙ hits-is i ys (hits i xs f) j) ∙ swap (eqb x j) (has ys j) i (hits i xs f j) ∙ sym (hits-is i ys (hits i (x ∷ xs) f) j)

pub hits_more : (i q : ℕ) (xs : List ℕ) (f : ℕ → List ℕ) → q < length xs → hits i (take (q + 1) xs) f ≡ hits i (get_or xs q 0 ∷ []) (hits i (take q xs) f)
hits_more i q xs f h = rw (add-one, take-suc xs q 0 h) (fun_ext (hits-append i (take q xs) (get_or xs q 0 ∷ []) f))

-- a loop over the places of a row
module _ {n lo hi i : ℕ} {s₀ : List ℕ} {P : (ℕ → List ℕ) → Type 0} where
  pub row-start : Added n lo hi i [] s₀ s₀ P P
  unfolding hits
  row-start = record { kept = same s₀; grow = λ f p. p }

  pub row_more : {j : ℕ} {s u : List ℕ} {Q W : (ℕ → List ℕ) → Type 0} (q : ℕ) (xs : List ℕ) → q < length xs → j ≡ get_or xs q 0
      → Added n lo hi i (take q xs) s₀ s P Q → Added n lo hi i (j ∷ []) s u Q W → Added n lo hi i (take (q + 1) xs) s₀ u P W
  row_more q xs h e a b = record { kept = then a.kept b.kept; grow = λ f p. rw (hits_more i q xs f h, ← e) (b.grow (hits i (take q xs) f) (a.grow f p)) }

  pub row-end : {s : List ℕ} {Q : (ℕ → List ℕ) → Type 0} (q : ℕ) (xs : List ℕ) → length xs ≡ q → Added n lo hi i (take q xs) s₀ s P Q → Added n lo hi i xs s₀ s P Q
  row-end q xs e a = rw (take-length xs) at (rw (← e) at a)

-- ---- lengths

cons_if-bounds : (b : Bool) (i : ℕ) (l : List ℕ) → (length l ≤ length (cons_if b i l)) × (length (cons_if b i l) ≤ length l + 1)
cons_if-bounds true i l = by-test (leads i l) (λ e. rw e (omega arith)) (λ e. rw e (omega arith))
cons_if-bounds false i l = omega arith

-- one entry adds its row to its own column, unless that leads there, and to no other
pub hits-here : (i x : ℕ) (f : ℕ → List ℕ) → leads i (f x) ≡ false → hits i (x ∷ []) f x ≡ i ∷ f x
unfolding hits
hits-here i x f h = rw (eq-eqb x x refl, h)

pub hits-there : (i x : ℕ) (f : ℕ → List ℕ) (j : ℕ) → (x ≡ j → ⊥) → hits i (x ∷ []) f j ≡ f j
unfolding hits
hits-there i x f j h = rw (ne_eqb x j h)

pub hits-again : (i x : ℕ) (f : ℕ → List ℕ) → leads i (f x) ≡ true → hits i (x ∷ []) f ≡ f
unfolding hits
hits-again i x f h = fun_ext (λ j. elim (ℕ_discrete x j) [ yes e ↦ rw (eq-eqb x j e, ← e, h) | no e ↦ hits-there i x f j e ])

-- a row adds at most one to a column
pub hits-bounds : (i : ℕ) (xs : List ℕ) (f : ℕ → List ℕ) (j : ℕ) → (length (f j) ≤ length (hits i xs f j)) × (length (hits i xs f j) ≤ length (f j) + 1)
hits-bounds i xs f j = rw (hits-is i xs f j) (cons_if-bounds (has xs j) i (f j))

-- a part of a row adds no more than the row
pub hits-part : (i q : ℕ) (xs : List ℕ) (f : ℕ → List ℕ) (j : ℕ) → length (hits i (take q xs) f j) ≤ length (hits i xs f j)
hits-part i q xs f j = rw (rw (take-append-drop q xs) at (hits-append i (take q xs) (drop q xs) f j)) (hits-bounds i (drop q xs) (hits i (take q xs) f) j).0

pub column-zero : (R : ℕ → List ℕ) → column R 0 ≡ bare
unfolding column
column-zero R = refl

pub column-suc : (R : ℕ → List ℕ) (i : ℕ) → column R (suc i) ≡ hits i (R i) (column R i)
unfolding column
column-suc R i = refl

pub column-more : (R : ℕ → List ℕ) (i : ℕ) → column R (i + 1) ≡ hits i (R i) (column R i)
column-more R i = rw add-one (column-suc R i)

pub bare-length : (j : ℕ) → length (bare j) ≡ 0
unfolding bare
bare-length j = refl

-- a column has each row once
pub column-few : (R : ℕ → List ℕ) (i j : ℕ) → length (column R i j) ≤ i
column-few R zero j = rw (column-zero R) (omega (arith, bare-length j))
column-few R (suc i) j = rw (column-suc R i) (omega (arith, hits-bounds i (R i) (column R i) j, column-few R i j))

-- rows add to a column
pub column-part : (R : ℕ → List ℕ) (i n j : ℕ) → i ≤ n → length (column R i j) ≤ length (column R n j)
column-part R i zero j h = let e : i ≡ 0 = omega arith in rw e (omega arith)
column-part R i (suc n) j h = elim (ℕ_discrete i (suc n)) [
  | yes e ↦ rw e (omega arith)
  | no e ↦ rw (column-suc R n) (omega (arith, hits-bounds n (R n) (column R n) j, column-part R i n j (omega arith)))
]

-- the rows of a column are below n
below-cons : (n i : ℕ) (l : List ℕ) → i < n → Below n l → Below n (i ∷ l)
below-cons n i l h k zero a = h
below-cons n i l h k (suc p) a = k p (omega arith)

below-cons_if : (n i : ℕ) (b : Bool) (l : List ℕ) → i < n → Below n l → Below n (cons_if b i l)
below-cons_if n i true l h k = by-test (leads i l) (λ e. rw e k) (λ e. rw e (below-cons n i l h k))
below-cons_if n i false l h k = k

pub below-column : (n : ℕ) (R : ℕ → List ℕ) (i j : ℕ) → i ≤ n → Below n (column R i j)
unfolding column bare
below-column n R zero j h = λ p a. absurd (omega arith)
below-column n R (suc i) j h = rw (hits-is i (R i) (column R i) j) (below-cons_if n i (has (R i) j) (column R i j) (omega arith) (below-column n R i j (omega arith)))

-- ---- sums of lengths

sum-at-most : (n : ℕ) (f g : ℕ → ℕ) → ((m : ℕ) → m < n → f m ≤ g m) → sum n f ≤ sum n g
unfolding sum
sum-at-most zero f g h = omega arith
sum-at-most (suc n) f g h = omega (arith, sum-at-most n f g (λ m l. h m (omega arith)), h n (omega arith))

sum_one : (n x : ℕ) (f g : ℕ → ℕ) → x < n → g x ≡ f x + 1 → ((m : ℕ) → (m ≡ x → ⊥) → g m ≡ f m) → sum n g ≡ sum n f + 1
unfolding sum
sum_one zero x f g h e o = absurd (omega arith)
sum_one (suc n) x f g h e o = elim (ℕ_discrete n x) [
  | yes q ↦ (let same = sum-ext n g f (λ m l. o m (omega arith)) in let e' : g n ≡ f n + 1 = rw q e in omega arith)
  | no q ↦ omega (arith, sum_one n x f g (omega arith) e o, o n q)
]

pub held-at-most : (lo hi : ℕ) (f g : ℕ → List ℕ) → ((j : ℕ) → length (f j) ≤ length (g j)) → held lo hi f ≤ held lo hi g
unfolding held length_at
held-at-most lo hi f g h = sum-at-most (hi - lo) (length_at f lo) (length_at g lo) (λ m l. h (lo + m))

-- a new row in the window
pub held_one : (lo hi i j : ℕ) (f : ℕ → List ℕ) → lo ≤ j → j < hi → leads i (f j) ≡ false → held lo hi (hits i (j ∷ []) f) ≡ held lo hi f + 1
unfolding held length_at
held_one lo hi i j f a b o =
    let e : lo + (j - lo) ≡ j = omega arith in
    sum_one (hi - lo) (j - lo) (length_at f lo) (length_at (hits i (j ∷ []) f) lo) (omega arith) (rw (e, hits-here i j f o) (omega arith))
    (λ m q. ap length (hits-there i j f (lo + m) (λ v. q (omega arith))))

pub held-ext : (lo hi : ℕ) (f g : ℕ → List ℕ) → ((j : ℕ) → lo ≤ j → j < hi → f j ≡ g j) → held lo hi f ≡ held lo hi g
unfolding held length_at
held-ext lo hi f g h = sum-ext (hi - lo) (length_at f lo) (length_at g lo) (λ m l. ap length (h (lo + m) (omega arith) (omega arith)))
