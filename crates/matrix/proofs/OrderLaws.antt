-- Orders: their entries are below n, no number stands twice, every number below n stands at its place.
use Rattle.base.specs.Answers.{Found}
use Rattle.std.specs.Prelude.{◌≡◌, false, cond, List, ℕ, zero, suc, ◌-◌, ◌≤◌, ◌<◌, leb, ltb, ◌≢◌, Some, None}
use Rattle.std.proofs.Math.Path.{refl, ap}
use native.Mathlib.Omega.{arith}
use Rattle.std.proofs.Common.{not-suc-le-zero}
use Rattle.std.proofs.Math.Decide.{dec_lt}
use Rattle.std.proofs.Math.ListN.{get_or}
use borrow.Author.Tests.{leb-false, lt-ltb, le-ltb, eq-eqb, eqb-true, eqb-false}
use Rattle.base.specs.First.{first, is_at}
use Rattle.base.specs.FirstLaws.{first-at, first_found, first-none, is_at-none}
use Rattle.base.specs.Tests.{or-false}
use Rattle.matrix.specs.Input.{is_of, index_of, ic}
use Rattle.matrix.specs.Questions.{bad_index, IsOrder}

-- an order's entries are below n
pub order_below : (o : List ℕ) (n : ℕ) → IsOrder o n → (k : ℕ) → k < n → get_or o k 0 < n
unfolding IsOrder bad_index
order_below o n h k l = leb-false n (get_or o k 0) (or-false _ _ (first-none (bad_index o n) n h k l)).0

-- what stands before index k in the order is not what it has there
pub order-fresh : (o : List ℕ) (n : ℕ) → IsOrder o n → (k : ℕ) → k < n → is_at (first (is_of o (get_or o k 0)) k) ≡ false
unfolding IsOrder bad_index
order-fresh o n h k l = (or-false (leb n (get_or o k 0)) _ (first-none (bad_index o n) n h k l)).1

module _ (o : List ℕ) (n : ℕ) (order : IsOrder o n) where
  before : (k : ℕ) → k < n → first (is_of o (get_or o k 0)) k ≡ None
  before k l = is_at-none _ (order-fresh o n order k l)

  -- no number stands twice
  pub order-inj : (i k : ℕ) → i < k → k < n → get_or o i 0 ≡ get_or o k 0 → ⊥
  unfolding is_of
  order-inj i k l h = eqb-false (get_or o i 0) (get_or o k 0) (first-none (is_of o (get_or o k 0)) k (before k h) i l)

  -- the place of what stands at k is k
  pub place_of : (k : ℕ) → k < n → ic o n (get_or o k 0) ≡ k
  unfolding ic is_of
  place_of k l = ap index_of (first-at (is_of o (get_or o k 0)) k n l (before k l) (eq-eqb (get_or o k 0) (get_or o k 0) refl))

-- ---- the pigeonhole

-- the number after a is taken out
skip : ℕ → ℕ → ℕ
skip a x = cond (ltb x a) x (x - 1)

skip-low : (a x : ℕ) → x < a → skip a x ≡ x
unfolding skip
skip-low a x l = rw (lt-ltb x a l)

skip-high : (a x : ℕ) → a ≤ x → skip a x ≡ x - 1
unfolding skip
skip-high a x l = rw (le-ltb x a l)

skip_below : (a x m : ℕ) → x ≢ a → x < suc m → a < suc m → skip a x < m
skip_below a x m q h k = elim (dec_lt x a) [
  | yes l ↦ rw (skip-low a x l) (omega arith)
  | no l ↦ rw (skip-high a x (omega arith)) (omega arith)
]

skip-inj : (a x y : ℕ) → x ≢ a → y ≢ a → skip a x ≡ skip a y → x ≡ y
skip-inj a x y p q e = go (dec_lt x a) (dec_lt y a)
  where
    go : Dec (x < a) → Dec (y < a) → x ≡ y
    go (yes l) (yes h) = omega (arith, e, skip-low a x l, skip-low a y h)
    go (yes l) (no h) = omega (arith, e, skip-low a x l, skip-high a y (omega arith))
    go (no l) (yes h) = omega (arith, e, skip-high a x (omega arith), skip-low a y h)
    go (no l) (no h) = omega (arith, e, skip-high a x (omega arith), skip-high a y (omega arith))

-- n numbers below m, no two of them equal: n is at most m
pub pigeon : (n m : ℕ) (f : ℕ → ℕ) → ((i : ℕ) → i < n → f i < m) → ((i k : ℕ) → i < k → k < n → f i ≢ f k) → n ≤ m
pigeon zero m f b d = omega arith
pigeon (suc n) zero f b d = absurd (not-suc-le-zero (b n (omega arith)))
pigeon (suc n) (suc m) f b d =
    let h = pigeon n m (λ i. skip (f n) (f i))
    (λ i l. skip_below (f n) (f i) m (d i n l (omega arith)) (b i (omega arith)) (b n (omega arith)))
    (λ i k l h e. d i k l (omega arith) (skip-inj (f n) (f i) (f k) (d i n (omega arith) (omega arith)) (d k n h (omega arith)) e)) in
    omega arith

module _ (o : List ℕ) (n : ℕ) (order : IsOrder o n) where
  missed : (j : ℕ) → j < n → first (is_of o j) n ≡ None → ⊥
  unfolding is_of
  missed j l h =
      let off : (i : ℕ) → i < n → get_or o i 0 ≢ j = λ i b. eqb-false (get_or o i 0) j (first-none (is_of o j) n h i b) in
      let p = pigeon n (n - 1) (λ i. skip j (get_or o i 0))
      (λ i b. skip_below j (get_or o i 0) (n - 1) (off i b) (omega (arith, order_below o n order i b)) (omega arith))
      (λ i k a b e. order-inj o n order i k a b (skip-inj j (get_or o i 0) (get_or o k 0) (off i (omega arith)) (off k b) e)) in
      omega arith

  -- every number below n stands at its place
  pub place-hits : (j : ℕ) → j < n → (ic o n j < n) × (get_or o (ic o n j) 0 ≡ j)
  unfolding ic is_of
  place-hits j l = go (first (is_of o j) n) refl
    where
      go : (f : Found) → first (is_of o j) n ≡ f → (ic o n j < n) × (get_or o (ic o n j) 0 ≡ j)
      go (Some k) e =
          let h = first_found (is_of o j) n k e in
          rw e (h.0, eqb-true (get_or o k 0) j h.1)
      go None e = absurd (missed j l e)
