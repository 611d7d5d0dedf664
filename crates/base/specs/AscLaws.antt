-- Laws of sums, counts, ascending lists and membership.
use Rattle.std.specs.Prelude.{◌≡◌, refl, Bool, true, false, ◌&&◌, ◌||◌, ℕ, zero, suc, ◌+◌, ◌*◌, ◌≤◌, ◌<◌, length, get_or, take, drop, ltb, leb, eqb}
use Rattle.std.proofs.Common.{subst, sym, ap, ap₂, ◌∙◌, add-mul, arith, length-append, drop_of_length-le, drop-cons, take_all, add-one, lt-ltb, le-ltb, le-leb, eq-eqb, ne_eqb}
use Rattle.std.proofs.Math.Bool.{or_assoc, or-false, and-false}
use mathlib.Core.List.{List, [], ◌∷◌, ◌++◌, append-nil, map, map-append, Memᴰ}
use Rattle.std.proofs.Math.Decide.{dec_lt, ℕ_discrete}
use Rattle.std.proofs.Math.ListN.{get_or-append}
use Rattle.std.proofs.lemmas.List.{take-append-le, drop-append-le, get_or_at}
use Rattle.base.specs.Lists.{sum, bit, count, keep, asc, total, has}
use Rattle.std.proofs.lemmas.Bool.{lt-leb}

-- ---- sums

pub sum-ext : (n : ℕ) (f g : ℕ → ℕ) → ((i : ℕ) → i < n → f i ≡ g i) → sum n f ≡ sum n g
unfolding sum
sum-ext zero f g h = refl
sum-ext (suc n) f g h = ap₂ ◌+◌ (sum-ext n f g (λ i l. h i (omega arith))) (h n (omega arith))

pub sum-zero : (n : ℕ) → sum n (λ i. 0) ≡ 0
unfolding sum
sum-zero zero = refl
sum-zero (suc n) = omega (arith, sum-zero n)

pub sum-add : (n : ℕ) (f g : ℕ → ℕ) → sum n (λ i. f i + g i) ≡ sum n f + sum n g
unfolding sum
sum-add zero f g = refl
sum-add (suc n) f g = omega (arith, sum-add n f g)

pub sum-mul : (n : ℕ) (f : ℕ → ℕ) (c : ℕ) → sum n (λ i. f i * c) ≡ sum n f * c
unfolding sum
sum-mul zero f c = omega arith
sum-mul (suc n) f c = omega (arith, sum-mul n f c, add-mul (sum n f) (f n) c)

pub sum-swap : (m n : ℕ) (f : ℕ → ℕ → ℕ) → sum m (λ i. sum n (λ j. f i j)) ≡ sum n (λ j. sum m (λ i. f i j))
unfolding sum
sum-swap zero n f = sym (sum-zero n)
sum-swap (suc m) n f = ap (λ x. x + sum n (λ j. f m j)) (sum-swap m n f) ∙ sym (sum-add n (λ j. sum m (λ i. f i j)) (λ j. f m j))

pub sum-le : (n c : ℕ) (f : ℕ → ℕ) → ((i : ℕ) → i < n → f i ≤ c) → sum n f ≤ n * c
unfolding sum
sum-le zero c f h = omega arith
sum-le (suc n) c f h = omega (arith, sum-le n c f (λ i l. h i (omega arith)), h n (omega arith))

pub sum_mono : (f : ℕ → ℕ) (m n : ℕ) → m ≤ n → sum m f ≤ sum n f
unfolding sum
sum_mono f m zero l = let e : m ≡ zero = omega arith in rw e (omega arith)
sum_mono f m (suc n) l = elim (dec_lt n m) [ yes q ↦ (let e : m ≡ suc n = omega arith in rw e (omega arith)) | no q ↦ omega (arith, sum_mono f m n (omega arith)) ]

-- a sum whose later terms are zero
pub sum-part : (f : ℕ → ℕ) (m n : ℕ) → m ≤ n → ((i : ℕ) → m ≤ i → f i ≡ 0) → sum n f ≡ sum m f
unfolding sum
sum-part f m zero l h = let e : m ≡ zero = omega arith in rw e
sum-part f m (suc n) l h = elim (dec_lt n m) [ yes q ↦ (let e : m ≡ suc n = omega arith in rw e) | no q ↦ omega (arith, sum-part f m n (omega arith) h, h n (omega arith)) ]

-- ---- counts and ascending lists

pub bit_le : (b : Bool) → bit b ≤ 1
bit_le true = omega arith
bit_le false = omega arith

pub count-suc : (p : ℕ → Bool) (n : ℕ) → count p (suc n) ≡ count p n + bit (p n)
unfolding count sum
count-suc p n = refl

pub count-zero : (p : ℕ → Bool) → count p zero ≡ 0
unfolding count sum
count-zero p = refl

pub count-le : (p : ℕ → Bool) (n : ℕ) → count p n ≤ n
unfolding count
count-le p n = omega (arith, sum-le n 1 (λ j. bit (p j)) (λ i l. bit_le (p i)))

pub count-ext : (p q : ℕ → Bool) (n : ℕ) → ((j : ℕ) → j < n → p j ≡ q j) → count p n ≡ count q n
unfolding count
count-ext p q n h = sum-ext n (λ j. bit (p j)) (λ j. bit (q j)) (λ j l. ap bit (h j l))

pub count-mono : (p : ℕ → Bool) (m n : ℕ) → m ≤ n → count p m ≤ count p n
unfolding count
count-mono p m n l = sum_mono (λ j. bit (p j)) m n l

-- One more passes: the number of those before grows.
pub count-lt : (p : ℕ → Bool) (i j : ℕ) → i < j → p i ≡ true → count p i < count p j
count-lt p i j l h = omega (arith, count-suc p i, ap bit h, count-mono p (suc i) j l)

pub count-inj : (p : ℕ → Bool) (i j : ℕ) → p i ≡ true → p j ≡ true → count p i ≡ count p j → i ≡ j
count-inj p i j h k e = elim (dec_lt i j) [ yes q ↦ absurd (omega (arith, count-lt p i j q h)) | no q ↦ elim (dec_lt j i) [ yes r ↦ absurd (omega (arith, count-lt p j i r k)) | no r ↦ omega arith ] ]

length-keep : (b : Bool) (n : ℕ) → length (keep b n) ≡ bit b
length-keep true n = refl
length-keep false n = refl

pub length-asc : (p : ℕ → Bool) (n : ℕ) → length (asc p n) ≡ count p n
unfolding asc
length-asc p zero = sym (count-zero p)
length-asc p (suc n) = length-append (asc p n) (keep (p n) n) ∙ ap₂ ◌+◌ (length-asc p n) (length-keep (p n) n) ∙ sym (count-suc p n)

pub asc-ext : (p q : ℕ → Bool) (n : ℕ) → ((j : ℕ) → j < n → p j ≡ q j) → asc p n ≡ asc q n
unfolding asc
asc-ext p q zero h = refl
asc-ext p q (suc n) h = ap₂ (λ l b. l ++ keep b n) (asc-ext p q n (λ j l. h j (omega arith))) (h n (omega arith))

-- Slot t of the list: a number below n that passes, with t before it.
pub record Slot (p : ℕ → Bool) (n t j : ℕ) : Type 0 where
  pub below : j < n
  pub passes : p j ≡ true
  pub before : count p j ≡ t

asc-left : (p : ℕ → Bool) (n t : ℕ) → t < count p n → get_or (asc p (suc n)) t 0 ≡ get_or (asc p n) t 0
unfolding asc
asc-left p n t q = get_or-append (asc p n) (keep (p n) n) 0 t (rw length-asc q)

asc-last : (p : ℕ → Bool) (n : ℕ) → p n ≡ true → get_or (asc p (suc n)) (count p n) 0 ≡ n
unfolding asc
asc-last p n h = rw h (get_or_at (asc p n) n [] 0 (count p n) (length-asc p n))

pub asc-at : (p : ℕ → Bool) (n t : ℕ) → t < count p n → Slot p n t (get_or (asc p n) t 0)
asc-at p zero t h = absurd (omega (arith, count-zero p))
asc-at p (suc n) t h = elim (dec_lt t (count p n)) [
  | yes q ↦ (let s = asc-at p n t q in rw (asc-left p n t q) (record { below = omega arith; passes = s.passes; before = s.before }))
  | no q ↦ last (p n) refl (rw count-suc at h) q
]
  where
    last : (b : Bool) → p n ≡ b → t < count p n + bit b → ¬ (t < count p n) → Slot p (suc n) t (get_or (asc p (suc n)) t 0)
    last true e l q = let r : t ≡ count p n = omega arith in rw (r, asc-last p n e) (record { below = omega arith; passes = e; before = refl })
    last false e l q = absurd (omega arith)

pub asc-rank : (p : ℕ → Bool) (n j : ℕ) → j < n → p j ≡ true → get_or (asc p n) (count p j) 0 ≡ j
asc-rank p n j l h =
    let s = asc-at p n (count p j) (count-lt p j n l h) in
    count-inj p (get_or (asc p n) (count p j) 0) j s.passes h s.before

-- Strictly ascending.
pub asc-ascends : (p : ℕ → Bool) (n s t : ℕ) → s < t → t < count p n → get_or (asc p n) s 0 < get_or (asc p n) t 0
asc-ascends p n s t l h =
    let a = asc-at p n s (omega arith) in
    let b = asc-at p n t h in
    elim (dec_lt (get_or (asc p n) s 0) (get_or (asc p n) t 0)) [
      | yes q ↦ q
      | no q ↦ absurd (omega (arith, a.before, b.before, count-mono p (get_or (asc p n) t 0) (get_or (asc p n) s 0) (omega arith)))
    ]

-- A prefix: the numbers below m.
pub asc-take : (p : ℕ → Bool) (m n : ℕ) → m ≤ n → take (count p m) (asc p n) ≡ asc p m
unfolding asc
asc-take p m zero l = let e : m ≡ zero = omega arith in rw (e, count-zero p)
asc-take p m (suc n) l = elim (dec_lt n m) [
  | yes q ↦ (let e : m ≡ suc n = omega arith in rw e (take_all (count p (suc n)) (asc p (suc n)) (rw length-asc (omega arith))))
  | no q ↦ take-append-le (count p m) (asc p n) (keep (p n) n) (rw length-asc (count-mono p m n (omega arith))) ∙ asc-take p m n (omega arith)
]

-- The rest: the numbers from m on.
pub asc-none : (p : ℕ → Bool) (n : ℕ) → ((j : ℕ) → j < n → p j ≡ false) → asc p n ≡ []
unfolding asc
asc-none p zero h = refl
asc-none p (suc n) h = rw (asc-none p n (λ j l. h j (omega arith)), h n (omega arith))

pub asc-drop : (p : ℕ → Bool) (m n : ℕ) → m ≤ n → drop (count p m) (asc p n) ≡ asc (λ j. leb m j && p j) n
unfolding asc
asc-drop p m zero l = let e : m ≡ zero = omega arith in rw (e, count-zero p)
asc-drop p m (suc n) l = elim (dec_lt n m) [
  | yes q ↦ (let e : m ≡ suc n = omega arith in
      subst (λ (k : ℕ). drop (count p k) (asc p (suc n)) ≡ asc (λ j. leb k j && p j) (suc n)) (sym e)
      (drop_of_length-le (asc p (suc n)) {i = count p (suc n)} (rw length-asc (omega arith)) ∙ sym (asc-none (λ j. leb (suc n) j && p j) (suc n) (λ j k. rw (lt-leb (suc n) j k)))))
  | no q ↦
      drop-append-le (count p m) (asc p n) (keep (p n) n) (rw length-asc (count-mono p m n (omega arith)))
      ∙ ap₂ (λ r b. r ++ keep (b && p n) n) (asc-drop p m n (omega arith)) (sym (le-leb m n (omega arith)))
]

-- ---- one turn of a loop that lists: the code counts n + 1

pub asc-yes : (p : ℕ → Bool) (n : ℕ) → p n ≡ true → asc p (n + 1) ≡ asc p n ++ n ∷ []
unfolding asc
asc-yes p n h = rw (add-one, h)

pub asc-no : (p : ℕ → Bool) (n : ℕ) → p n ≡ false → asc p (n + 1) ≡ asc p n
unfolding asc
asc-no p n h = rw (add-one, h) (append-nil (asc p n))

pub count_none : (p : ℕ → Bool) (n : ℕ) → ((j : ℕ) → j < n → p j ≡ false) → count p n ≡ 0
count_none p n h = sym (length-asc p n) ∙ ap length (asc-none p n h)

-- ---- one test implies another

bit-sub : (a b : Bool) → (a ≡ true → b ≡ true) → bit a ≤ bit b
bit-sub true b f = rw (f refl) (omega arith)
bit-sub false b f = omega arith

bit-same : (a b : Bool) → (a ≡ true → b ≡ true) → bit b ≤ bit a → a ≡ b
bit-same true b f l = sym (f refl)
bit-same false true f l = absurd (omega arith)
bit-same false false f l = refl

pub count-sub : (p q : ℕ → Bool) (n : ℕ) → ((j : ℕ) → j < n → p j ≡ true → q j ≡ true) → count p n ≤ count q n
count-sub p q zero h = rw (count-zero p) (omega arith)
count-sub p q (suc n) h = omega (arith, count-suc p n, count-suc q n, count-sub p q n (λ j l. h j (omega arith)), bit-sub (p n) (q n) (h n (omega arith)))

-- If as many pass the one as the other, the two agree.
pub count_same : (p q : ℕ → Bool) (n : ℕ) → ((j : ℕ) → j < n → p j ≡ true → q j ≡ true) → count p n ≡ count q n → (j : ℕ) → j < n → p j ≡ q j
count_same p q zero h e j l = absurd (omega arith)
count_same p q (suc n) h e j l =
    let a = count-sub p q n (λ j k. h j (omega arith)) in
    let b = bit-sub (p n) (q n) (h n (omega arith)) in
    let c = count-suc p n in
    let d = count-suc q n in
    elim (dec_lt j n) [
      | yes k ↦ count_same p q n (λ j k. h j (omega arith)) (omega arith) j k
      | no k ↦ (let r : j ≡ n = omega arith in rw r (bit-same (p n) (q n) (h n (omega arith)) (omega arith)))
    ]

-- ---- the sum over a list

pub total-append : (a b : List ℕ) → total (a ++ b) ≡ total a + total b
unfolding total
total-append [] b = omega arith
total-append (x ∷ a) b = omega (arith, total-append a b)

total-keep : (f : ℕ → ℕ) (b : Bool) (n : ℕ) → total (map f (keep b n)) ≡ bit b * f n
unfolding total
total-keep f true n = omega arith
total-keep f false n = omega arith

pub total-asc : (f : ℕ → ℕ) (p : ℕ → Bool) (n : ℕ) → total (map f (asc p n)) ≡ sum n (λ i. bit (p i) * f i)
unfolding asc sum total
total-asc f p zero = refl
total-asc f p (suc n) = rw map-append (total-append (map f (asc p n)) (map f (keep (p n) n)) ∙ ap₂ ◌+◌ (total-asc f p n) (total-keep f (p n) n))

-- ---- membership

pub mem-at : (l : List ℕ) (p : ℕ) → p < length l → Memᴰ (get_or l p 0) l
mem-at [] p h = absurd (omega arith)
mem-at (x ∷ l) zero h = Memᴰ.head refl
mem-at (x ∷ l) (suc p) h = Memᴰ.tail (mem-at l p (omega arith))

-- as a test

pub has-append : (a b : List ℕ) (j : ℕ) → has (a ++ b) j ≡ (has a j || has b j)
unfolding has
has-append [] b j = refl
has-append (x ∷ a) b j = ap (λ t. eqb x j || t) (has-append a b j) ∙ sym (or_assoc (eqb x j) (has a j) (has b j))

-- from entry p on: p itself, then the later ones
pub has-drop : (l : List ℕ) (j p : ℕ) → p < length l → has (drop p l) j ≡ (eqb (get_or l p 0) j || has (drop (p + 1) l) j)
unfolding has
has-drop l j p h = rw (drop-cons l p 0 h, add-one)

ltb-step : (n j : ℕ) → ¬ (n ≡ j) → ltb j (suc n) ≡ ltb j n
ltb-step n j e = elim (dec_lt j n) [
  | yes q ↦ lt-ltb j (suc n) (omega arith) ∙ sym (lt-ltb j n q)
  | no q ↦ le-ltb j (suc n) (omega arith) ∙ sym (le-ltb j n (omega arith))
]

pub has-asc : (p : ℕ → Bool) (n j : ℕ) → has (asc p n) j ≡ (ltb j n && p j)
unfolding asc has
has-asc p zero j = rw (le-ltb j zero (omega arith))
has-asc p (suc n) j = has-append (asc p n) (keep (p n) n) j ∙ ap (λ t. t || has (keep (p n) n) j) (has-asc p n j) ∙ at (ℕ_discrete n j) (p n) refl
  where
    at : Dec (n ≡ j) → (b : Bool) → p n ≡ b → ((ltb j n && p j) || has (keep b n) j) ≡ (ltb j (suc n) && p j)
    at (yes e) true q = rw (← e, q, eq-eqb n n refl, le-ltb n n (omega arith), lt-ltb n (suc n) (omega arith))
    at (yes e) false q = rw (← e, q, and-false, and-false)
    at (no e) true q = rw (ltb-step n j e, ne_eqb n j e) (or-false (ltb j n && p j))
    at (no e) false q = rw (ltb-step n j e) (or-false (ltb j n && p j))
