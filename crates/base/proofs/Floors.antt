-- The code's magnitude, by two tests, and the floor 0.
use Prim.Native.Nat.{ℕ, zero, suc, ◌+◌, ◌*◌, ◌^◌, ◌≤◌, ◌<◌}
use native.Mathlib.Nat.{zero-mul, zero-add, mul-one, one-mul, mul-pos, pow-succ', eq_of_mul-eq-mul_right}
use native.Mathlib.Omega.{arith}
use mathlib.Core.Path.{◌≡◌, refl, sym, ap, ◌∙◌}
use mathlib.Core.Bool.{Bool, true, false, false≢true, true≢false, ◌||◌, and-true, or-true}
use lib.Dec.{eqb}
use lib.Pow.{pow_pos}
use lib.IntN.{ℤ, pos, negsuc}
use lib.Ieee.{Float, nan, inf, fin, binary64, up, down, neg, below, level, lt, eq, le, fits}
use borrow.Author.Tests.{le-ltb, ltb-false, eqb-true, eqb-false, ne_eqb}
use lib.Ieee.Fits.{up_pos, down_pos}
use lib.Ieee.Scale.{finite}
use Rattle.base.specs.Tests.{by-test, and_cases}
use Rattle.base.specs.Lists.{nought}
use Rattle.base.specs.Magnitude.{magnitude, at_most, is_floor}

-- no number of positive sign is below +0
not-below : (m : ℕ) (e : _) → lt (fin false m e) nought ≡ true → ⊥
unfolding lt
not-below m e h = true≢false (sym h ∙ le-ltb (m * up e * 1) (0 * down e) (omega (arith, zero-mul (down e))))

-- nor a zero of either sign: then its size is none
no_size : (m : ℕ) (e : _) → lt (fin true m e) nought ≡ false → m * up e ≡ 0
unfolding lt
no_size m e h = let l : m * up e * 1 + 0 * down e ≤ 0 = ltb-false 0 (m * up e * 1 + 0 * down e) h in omega (arith, l, mul-one (m * up e))

-- a number that compares as +0 has no size
zero-size : (t : Bool) (n : ℕ) (d : _) → eq (fin t n d) nought ≡ true → n * up d ≡ 0
unfolding eq
zero-size t n d h = let p : n * up d * 1 ≡ 0 * down d = eqb-true (n * up d * 1) (0 * down d) (and_cases _ _ h).0 in sym (mul-one (n * up d)) ∙ p ∙ zero-mul (down d)

-- ---- the magnitude by two tests

pub below-zero : (x : Float) → lt x nought ≡ true → neg x ≡ magnitude x
unfolding lt neg
below-zero nan h = absurd (false≢true h)
below-zero (inf true) h = refl
below-zero (inf false) h = absurd (false≢true h)
below-zero (fin true m e) h = refl
below-zero (fin false m e) h = absurd (not-below m e h)

two-times : (k : ℕ) → 2 ^ suc k ≡ 1 → ⊥
two-times k h = let z : 0 < 2 ^ k = pow_pos k in omega (arith, pow-succ' 2 k)

no-exponent : (e : ℤ) → up e * down e ≡ 1 → e ≡ pos 0
no-exponent (pos zero) h = refl
no-exponent (pos (suc k)) h = absurd (two-times k (sym (mul-one (2 ^ suc k)) ∙ h))
no-exponent (negsuc k) h = absurd (two-times k (sym (one-mul (2 ^ suc k)) ∙ h))

-- the format has one zero of each sign
pub is_zero : (x : Float) → fits binary64 x ≡ true → eq x nought ≡ true → nought ≡ magnitude x
unfolding eq fits
is_zero nan f h = absurd (false≢true h)
is_zero (inf s) f h = absurd (false≢true h)
is_zero (fin s zero e) f h = ap (λ (z : ℤ). fin false zero z) (sym (no-exponent e (eqb-true (up e * down e) 1 f)))
is_zero (fin s (suc m) e) f h = let z : 0 < suc m * up e = mul-pos (omega arith) (up_pos e) in absurd (omega (arith, zero-size s (suc m) e h))

pub above_zero : (x : Float) → lt x nought ≡ false → eq x nought ≡ false → x ≡ magnitude x
unfolding lt eq
above_zero nan h k = refl
above_zero (inf true) h k = absurd (true≢false h)
above_zero (inf false) h k = refl
above_zero (fin false m e) h k = refl
above_zero (fin true m e) h k = absurd (true≢false (rw (no_size m e h, zero-mul (down e)) at k))

-- ---- the test of a magnitude

-- a size of none compares as +0 does
signless : (m : ℕ) (e : _) (f : Float) → m * up e ≡ 0 → le (fin true m e) f ≡ le (fin false m e) f
unfolding le lt eq
signless m e nan z = refl
signless m e (inf t) z = refl
signless m e (fin true n d) z = rw (z, zero-mul, le-ltb (n * up d * down e) 0 (omega arith))
signless m e (fin false n d) z = rw (z, zero-mul, zero-add)

pub most-negative : (p f : Float) → lt p nought ≡ true → le (neg p) f ≡ at_most p f
unfolding at_most neg lt
most-negative nan f h = absurd (true≢false (sym h))
most-negative (inf true) f h = refl
most-negative (inf false) f h = absurd (true≢false (sym h))
most-negative (fin true m e) f h = refl
most-negative (fin false m e) f h = absurd (not-below m e h)

pub most_other : (p f : Float) → lt p nought ≡ false → le p f ≡ at_most p f
unfolding at_most lt
most_other nan f h = refl
most_other (inf true) f h = absurd (true≢false h)
most_other (inf false) f h = refl
most_other (fin true m e) f h = signless m e f (no_size m e h)
most_other (fin false m e) f h = refl

-- ---- a floor of zero, of either sign

compare-none : (t : Bool) (a : ℕ) → (below false a t 0 || level false a t 0) ≡ eqb a 0
compare-none true a = by-test (eqb a 0) (λ h. rw h) (λ h. rw h)
compare-none false a = rw (le-ltb a 0 (omega arith)) (and-true (eqb a 0))

level-none : (s : Bool) (a : ℕ) → level s a false 0 ≡ eqb a 0
level-none s a = by-test (eqb a 0) (λ h. rw (h, or-true)) (λ h. rw h)

-- a size and a power of two beside it
none-times : (a c : ℕ) → 0 < c → eqb (a * c) 0 ≡ eqb (a * 1) 0
none-times a c p =
    by-test (eqb a 0) (λ h. let e = eqb-true a 0 h in rw (e, zero-mul))
    (λ h. let n = eqb-false a 0 h in ne_eqb (a * c) 0 (λ q. n (eq_of_mul-eq-mul_right c p a 0 (q ∙ sym (zero-mul c)))) ∙ sym (ne_eqb (a * 1) 0 (λ q. n (sym (mul-one a) ∙ q))))

-- then the test is that of a zero
pub most-zero : (p f : Float) → eq f nought ≡ true → at_most p f ≡ eq p nought
unfolding at_most le lt eq
most-zero p nan h = absurd (true≢false (sym h))
most-zero p (inf t) h = absurd (true≢false (sym h))
most-zero nan (fin t n d) h = refl
most-zero (inf s) (fin t n d) h = refl
most-zero (fin s m e) (fin t n d) h =
    rw (zero-size t n d h, zero-mul (down e))
    (compare-none t (m * up e * down d) ∙ none-times (m * up e) (down d) (down_pos d) ∙ sym (level-none s (m * up e * 1)))

pub zero-floor : (f : Float) → eq f nought ≡ true → is_floor f ≡ true
unfolding is_floor lt eq finite
zero-floor nan h = absurd (true≢false (sym h))
zero-floor (inf t) h = absurd (true≢false (sym h))
zero-floor (fin true n d) h = rw (zero-size true n d h, zero-mul (down d))
zero-floor (fin false n d) h = rw (le-ltb (n * up d * 1) (0 * down d) (omega (arith, zero-mul (down d))))
