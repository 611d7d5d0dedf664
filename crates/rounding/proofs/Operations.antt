-- What each rounded operation on binary64 numbers gives, as a whole number of units: the exact result, rounded.
use mathlib.Core.Path.{◌≡◌, refl, sym, ap, ◌∙◌, subst}
use mathlib.Core.Bool.{Bool, true, false, not, ◌&&◌, cond, false≢true}
use Prim.Native.Nat.{ℕ, zero, suc, ◌+◌, ◌-◌, ◌*◌, ◌/◌, ◌%◌, ◌^◌, ◌≤◌, ◌<◌}
use native.Mathlib.Nat.{mul-one, zero-mul, zero-div, div-one, mul_comm, mul_assoc, mul_right_comm, mul-mul-mul_comm, add-mul, mul-sub, mul-pos, mul-div_cancel, mul-le-mul_right, mul-lt-mul_of_pos_right, lt_of_mul-lt-mul_right, le_of_mul-le-mul_right}
use native.Mathlib.Decide.{dec_lt}
use native.Mathlib.Omega.{arith}
use borrow.Author.Tests.{ltb-true, ltb-false, leb-true}
use lib.Dec.{ltb, leb, eqb}
use lib.IntN.{ℤ, pos, negsuc}
use lib.Pow.{pow-add, pow_pos, pow-lt}
use lib.Ieee.{Float, nan, inf, fin, Format, binary64, prec, emax, low, up, down, unlike, odd, units, round, sum, add, mul, fits}
use lib.Ieee.Digits.{back}
use lib.Ieee.Fits.{down_pos, round_is}
use lib.Ieee.Exact.{HasValue, units_val}
use lib.Ieee.Order.{drop, kept}
use lib.Ieee.Scale.{finite}
use Rattle.base.specs.Tests.{by-test, and_cases}
use Rattle.rounding.proofs.Rounded.{rounded, rounded-same}
use Rattle.rounding.specs.Values.{unit, ulps, negative, Held}

-- ---- a rounded fraction

units-below : (f : Format) (s : Bool) (q k : ℕ) → finite (units f s q k) ≡ true → q * 2 ^ k < 2 ^ (low f + suc (emax f))
unfolding units
units-below f s q k h = by-test (ltb (q * 2 ^ k) (2 ^ (low f + suc (emax f)))) (ltb-true (q * 2 ^ k) (2 ^ (low f + suc (emax f)))) (λ e. absurd (false≢true (sym (ap (λ (b : Bool). finite (cond b (odd (suc (prec f)) s q k (low f)) (inf s))) e) ∙ h)))

-- a / c, where it is w / (L * L) for L = 2 ^ low f, rounds to `rounded w` units
pub round-value : (f : Format) (s : Bool) (a c w : ℕ) → 0 < prec f → 0 < c → a * 2 ^ low f * 2 ^ low f ≡ w * c → finite (round f s a c) ≡ true
    → HasValue (round f s a c) s (rounded (prec f) (2 ^ low f) w) (2 ^ low f)
round-value f s a c w P C e h =
    let n = a * 2 ^ low f in
    let q = kept (prec f) n c in
    let k = drop (prec f) n c in
    let is : round f s a c ≡ units f s q k = round_is f s a c in
    let v : HasValue (units f s q k) s (q * 2 ^ k) (2 ^ low f) = units_val f s q k (units-below f s q k (sym (ap finite is) ∙ h)) in
    subst (λ (x : Float). HasValue x s (rounded (prec f) (2 ^ low f) w) (2 ^ low f)) (sym is)
    (subst (λ (g : ℕ). HasValue (units f s q k) s g (2 ^ low f)) (rounded-same (prec f) n c w (2 ^ low f) C (pow_pos (low f)) e) v)

-- ---- a number's own value

whole_part : (a b d : ℕ) → 0 < d → a ≡ b * d → a ≡ a / d * d
whole_part a b d p h = h ∙ ap (λ (z : ℕ). z * d) (sym (ap (λ (z : ℕ). z / d) h ∙ mul-div_cancel b p))

exponent : (k l : ℕ) → 2 ^ k ≤ 2 ^ l → k ≤ l
exponent k l h = elim (dec_lt l k) [ yes q ↦ let z : 2 ^ l < 2 ^ k = pow-lt q in absurd (omega arith) | no q ↦ omega arith ]

own-size : (l m : ℕ) (e : ℤ) → down e ≤ 2 ^ l → m * up e * 2 ^ l ≡ m * up e * 2 ^ l / down e * down e
own-size l m (pos k) h = rw (mul-one, div-one)
own-size l m (negsuc k) h =
    whole_part (m * 1 * 2 ^ l) (m * 1 * 2 ^ (l - suc k)) (2 ^ suc k) (pow_pos (suc k))
    (ap (λ (z : ℕ). m * 1 * z) (ap (λ (z : ℕ). 2 ^ z) (sym (back l (suc k) (exponent (suc k) l h))) ∙ pow-add 2 (l - suc k) (suc k)) ∙ sym (mul_assoc (m * 1) (2 ^ (l - suc k)) (2 ^ suc k)))

in-third : (a b c d : Bool) → (a && b && c && d) ≡ true → c ≡ true
in-third a b c d h = (and_cases (a && b) c (and_cases (a && b && c) d h).0).1

pub own_value : (x : Float) → Held x → HasValue x (negative x) (ulps x) (2 ^ 1074)
unfolding ulps negative unit fits
own_value nan h = absurd (false≢true h.ends)
own_value (inf s) h = absurd (false≢true h.ends)
own_value (fin s zero e) h = (refl, rw (zero-mul, zero-mul, zero-div, zero-mul))
own_value (fin s (suc m) e) h =
    let third : leb (down e) (2 ^ 1074) ≡ true = in-third (eqb (suc m % 2) 1) (ltb (suc m) (2 ^ 53)) (leb (down e) (2 ^ 1074)) (ltb (suc m * up e) (2 ^ 1024 * down e)) h.fit in
    (refl, own-size 1074 (suc m) e (leb-true (down e) (2 ^ 1074) third))

-- at most 53 digits, moved up
digits : (l m : ℕ) (e : ℤ) → down e ≤ 2 ^ l → (j : ℕ) × (m * up e * 2 ^ l / down e ≡ m * 2 ^ j)
digits l m (pos k) h = (k + l, div-one (m * 2 ^ k * 2 ^ l) ∙ mul_assoc m (2 ^ k) (2 ^ l) ∙ ap (λ (z : ℕ). m * z) (sym (pow-add 2 k l)))
digits l m (negsuc k) h = (
  l - suc k,
  ap (λ (z : ℕ). z / 2 ^ suc k)
      (rw (mul-one) (ap (λ (z : ℕ). m * z) (ap (λ (z : ℕ). 2 ^ z) (sym (back l (suc k) (exponent (suc k) l h))) ∙ pow-add 2 (l - suc k) (suc k)) ∙ sym (mul_assoc m (2 ^ (l - suc k)) (2 ^ suc k))))
      ∙ mul-div_cancel (m * 2 ^ (l - suc k)) (pow_pos (suc k)),
)

pub own-digits : (x : Float) → Held x → (a : ℕ) × (j : ℕ) × (a < 2 ^ 53) × (ulps x ≡ a * 2 ^ j)
unfolding ulps unit fits
own-digits nan h = absurd (false≢true h.ends)
own-digits (inf s) h = absurd (false≢true h.ends)
own-digits (fin s zero e) h = (0, 0, omega arith, rw (zero-mul, zero-mul, zero-div))
own-digits (fin s (suc m) e) h =
    let a = eqb (suc m % 2) 1 in
    let b = ltb (suc m) (2 ^ 53) in
    let c = leb (down e) (2 ^ 1074) in
    let d = ltb (suc m * up e) (2 ^ 1024 * down e) in
    let k = digits 1074 (suc m) e (leb-true (down e) (2 ^ 1074) (in-third a b c d h.fit)) in
    (suc m, k.0, ltb-true (suc m) (2 ^ 53) (and_cases a b (and_cases (a && b) c (and_cases (a && b && c) d h.fit).0).0).1, k.1)

-- sign and size, read off
pub record Is (x : Float) (s : Bool) (g : ℕ) : Type 0 where
  pub sign : negative x ≡ s
  pub size : ulps x ≡ g

pub is-value : (x : Float) (s : Bool) (g : ℕ) → HasValue x s g (2 ^ 1074) → Is x s g
unfolding ulps negative unit
is-value nan s g h = absurd h
is-value (inf t) s g h = absurd h
is-value (fin t m e) s g h = record { sign = h.0; size = ap (λ (z : ℕ). z / down e) h.1 ∙ mul-div_cancel g (down_pos e) }

-- ---- the sum of ±u and ±v units: exactly ±z, and then rounded

pub record Sum (f : Format) (s t : Bool) (u v : ℕ) (x : Float) : Type 0 where
  pub r : Bool
  pub z : ℕ
  pub top : z ≤ u + v
  pub balance : cond s 0 u + cond t 0 v + cond r z 0 ≡ cond s u 0 + cond t v 0 + cond r 0 z
  pub value : HasValue x r (rounded (prec f) (2 ^ low f) (z * 2 ^ low f)) (2 ^ low f)

fraction : (a z C L : ℕ) → a * L ≡ z * C → a * L * L ≡ z * L * C
fraction a z C L e = ap (λ (x : ℕ). x * L) e ∙ mul_right_comm z C L

sub-mul : (a b L : ℕ) → (a - b) * L ≡ a * L - b * L
sub-mul a b L = mul_comm (a - b) L ∙ mul-sub L a b ∙ rw (mul_comm L a, mul_comm L b)

module _ (f : Format) (P : 0 < prec f) (A B C u v : ℕ) (c : 0 < C) (eu : A * 2 ^ low f ≡ u * C) (ev : B * 2 ^ low f ≡ v * C) where
  like-value : (s : Bool) → finite (round f s (A + B) C) ≡ true → HasValue (round f s (A + B) C) s (rounded (prec f) (2 ^ low f) ((u + v) * 2 ^ low f)) (2 ^ low f)
  like-value s h =
      round-value f s (A + B) C ((u + v) * 2 ^ low f) P c
      (fraction (A + B) (u + v) C (2 ^ low f) (add-mul A B (2 ^ low f) ∙ rw (eu, ev, add-mul))) h

  less : A < B → u < v
  less h = lt_of_mul-lt-mul_right C (rw (← eu, ← ev) (mul-lt-mul_of_pos_right h (pow_pos (low f))))

  more : B ≤ A → v ≤ u
  more h = le_of_mul-le-mul_right {k = C} (rw (← eu, ← ev) (mul-le-mul_right (2 ^ low f) h)) c

  diff-value : (r : Bool) → finite (round f r (A - B) C) ≡ true → HasValue (round f r (A - B) C) r (rounded (prec f) (2 ^ low f) ((u - v) * 2 ^ low f)) (2 ^ low f)
  diff-value r h =
      round-value f r (A - B) C ((u - v) * 2 ^ low f) P c
      (fraction (A - B) (u - v) C (2 ^ low f) (sub-mul A B (2 ^ low f) ∙ rw (eu, ev, sub-mul))) h

signs : (r : Bool) (u v : ℕ) → v ≤ u → cond r 0 u + cond (not r) 0 v + cond r (u - v) 0 ≡ cond r u 0 + cond (not r) v 0 + cond r 0 (u - v)
signs true u v h = omega arith
signs false u v h = omega arith

no-signs : (s r : Bool) (u v : ℕ) → v ≡ u → cond s 0 u + cond (not s) 0 v + cond r (u - v) 0 ≡ cond s u 0 + cond (not s) v 0 + cond r 0 (u - v)
no-signs true true u v h = omega arith
no-signs true false u v h = omega arith
no-signs false true u v h = omega arith
no-signs false false u v h = omega arith

turned : (s : Bool) (u v : ℕ) → u ≤ v → cond s 0 u + cond (not s) 0 v + cond (not s) (v - u) 0 ≡ cond s u 0 + cond (not s) v 0 + cond (not s) 0 (v - u)
turned true u v h = omega arith
turned false u v h = omega arith

unlike-value : (f : Format) → 0 < prec f → (A B C u v : ℕ) → 0 < C → A * 2 ^ low f ≡ u * C → B * 2 ^ low f ≡ v * C → (s : Bool)
    → finite (cond (ltb A B) (round f (not s) (B - A) C) (round f (s && ltb B A) (A - B) C)) ≡ true
    → Sum f s (not s) u v (cond (ltb A B) (round f (not s) (B - A) C) (round f (s && ltb B A) (A - B) C))
unlike-value f P A B C u v c eu ev s h = by-test (ltb A B) under (λ q. by-test (ltb B A) (over q) (equal q))
  where
    X : Bool → Bool → Float
    X b d = cond b (round f (not s) (B - A) C) (round f (s && d) (A - B) C)

    under : ltb A B ≡ true → Sum f s (not s) u v (X (ltb A B) (ltb B A))
    under q =
        let l : u < v = less f P A B C u v c eu ev (ltb-true A B q) in
        let h' : finite (round f (not s) (B - A) C) ≡ true = rw q at h in
        rw q (record { r = not s; z = v - u; top = omega arith; balance = turned s u v (omega arith); value = diff-value f P B A C v u c ev eu (not s) h' })

    over : ltb A B ≡ false → ltb B A ≡ true → Sum f s (not s) u v (X (ltb A B) (ltb B A))
    over q k =
        let l : v ≤ u = more f P A B C u v c eu ev (ltb-false A B q) in
        let h' : finite (round f (s && true) (A - B) C) ≡ true = rw (q, k) at h in
        rw (q, k) (record { r = s && true; z = u - v; top = omega arith; balance = same s l; value = diff-value f P A B C u v c eu ev (s && true) h' })
      where
        same : (s : Bool) → v ≤ u → cond s 0 u + cond (not s) 0 v + cond (s && true) (u - v) 0 ≡ cond s u 0 + cond (not s) v 0 + cond (s && true) 0 (u - v)
        same true l = signs true u v l
        same false l = signs false u v l

    equal : ltb A B ≡ false → ltb B A ≡ false → Sum f s (not s) u v (X (ltb A B) (ltb B A))
    equal q k =
        let l : v ≤ u = more f P A B C u v c eu ev (ltb-false A B q) in
        let g : u ≤ v = more f P B A C v u c ev eu (ltb-false B A k) in
        let h' : finite (round f (s && false) (A - B) C) ≡ true = rw (q, k) at h in
        rw (q, k) (record { r = s && false; z = u - v; top = omega arith; balance = no-signs s (s && false) u v (omega arith); value = diff-value f P A B C u v c eu ev (s && false) h' })

pub sum-value : (f : Format) → 0 < prec f → (s : Bool) (A : ℕ) (t : Bool) (B C u v : ℕ) → 0 < C → A * 2 ^ low f ≡ u * C → B * 2 ^ low f ≡ v * C
    → finite (sum f s A t B C) ≡ true → Sum f s t u v (sum f s A t B C)
unfolding sum
sum-value f P true A true B C u v c eu ev h =
    record { r = true; z = u + v; top = omega arith; balance = omega arith; value = like-value f P A B C u v c eu ev true h }
sum-value f P false A false B C u v c eu ev h =
    record { r = false; z = u + v; top = omega arith; balance = omega arith; value = like-value f P A B C u v c eu ev false h }
sum-value f P true A false B C u v c eu ev h = unlike-value f P A B C u v c eu ev true h
sum-value f P false A true B C u v c eu ev h = unlike-value f P A B C u v c eu ev false h

-- ---- the operations on two numbers of the format

cross : (a c u d L : ℕ) → a * L ≡ u * c → a * d * L ≡ u * (c * d)
cross a c u d L e = mul_right_comm a d L ∙ ap (λ (z : ℕ). z * d) e ∙ mul_assoc u c d

pub add-value : (x y : Float) → Held x → Held y → finite (add binary64 x y) ≡ true
    → Sum binary64 (negative x) (negative y) (ulps x) (ulps y) (add binary64 x y)
unfolding add negative
add-value nan y h k t = absurd (false≢true h.ends)
add-value (inf s) y h k t = absurd (false≢true h.ends)
add-value (fin s m e) nan h k t = absurd (false≢true k.ends)
add-value (fin s m e) (inf r) h k t = absurd (false≢true k.ends)
add-value (fin s m e) (fin r n d) h k t =
    sum-value binary64 (omega arith) s (m * up e * down d) r (n * up d * down e) (down e * down d) (ulps (fin s m e)) (ulps (fin r n d)) (mul-pos (down_pos e) (down_pos d))
    (cross (m * up e) (down e) (ulps (fin s m e)) (down d) (2 ^ 1074) (own_value (fin s m e) h).1)
    (cross (n * up d) (down d) (ulps (fin r n d)) (down e) (2 ^ 1074) (own_value (fin r n d) k).1 ∙ ap (λ (z : ℕ). ulps (fin r n d) * z) (mul_comm (down d) (down e))) t

pub mul-value : (x y : Float) → Held x → Held y → finite (mul binary64 x y) ≡ true
    → HasValue (mul binary64 x y) (unlike (negative x) (negative y)) (rounded 53 (2 ^ 1074) (ulps x * ulps y)) (2 ^ 1074)
unfolding mul negative
mul-value nan y h k t = absurd (false≢true h.ends)
mul-value (inf s) y h k t = absurd (false≢true h.ends)
mul-value (fin s m e) nan h k t = absurd (false≢true k.ends)
mul-value (fin s m e) (inf r) h k t = absurd (false≢true k.ends)
mul-value (fin s m e) (fin r n d) h k t =
    let u = ulps (fin s m e) in
    let v = ulps (fin r n d) in
    let a : m * up e * 2 ^ 1074 ≡ u * down e = (own_value (fin s m e) h).1 in
    let b : n * up d * 2 ^ 1074 ≡ v * down d = (own_value (fin r n d) k).1 in
    round-value binary64 (unlike s r) (m * up e * (n * up d)) (down e * down d) (u * v) (omega arith) (mul-pos (down_pos e) (down_pos d))
    (mul_assoc (m * up e * (n * up d)) (2 ^ 1074) (2 ^ 1074) ∙ mul-mul-mul_comm (m * up e) (n * up d) (2 ^ 1074) (2 ^ 1074) ∙ rw (a, b) (mul-mul-mul_comm u (down e) v (down d))) t
