-- How far a rounded sum, difference or product of binary64 numbers is from the exact one, over whole numbers of units.
use mathlib.Core.Path.{◌≡◌, refl, sym, ◌∙◌, subst}
use mathlib.Core.Bool.{Bool, true, false, cond}
use Prim.Native.Nat.{ℕ, zero, suc, ◌+◌, ◌*◌, ◌^◌, ◌≤◌, ◌<◌}
use native.Mathlib.Nat.{le_trans, le_of_eq, mul-le-mul_right}
use native.Mathlib.Omega.{arith}
use lib.Dec.{T}
use lib.Pow.{pow_pos}
use lib.Ieee.Bits.{is_true}
use lib.Ieee.{Float, nan, inf, fin, binary64, unlike, add, sub, mul, neg, fits}
use lib.Ieee.Fits.{add-fits, sub-fits, mul-fits, neg-fits}
use lib.Ieee.Scale.{finite}
use Rattle.base.specs.Magnitude.{magnitude}
use Rattle.rounding.proofs.Rounded.{Apart, rounded, rounded-mono, rounded-exact, whole-near, fine-near}
use Rattle.rounding.specs.Values.{unit, ulps, negative, over, under, value_of, fine, product_of, plus_of, less_of, Within, Held}
use Rattle.rounding.proofs.Operations.{Sum, Is, is-value, own-digits, add-value, mul-value}

-- w units of 2^-2148, rounded to units of 2^-1074 as binary64 does
unfoldable pub fl : ℕ → ℕ
fl w = rounded 53 unit w

unit-pos : 0 < unit
unfolding unit
unit-pos = pow_pos 1074

pub fl-mono : (w v : ℕ) → w ≤ v → fl w ≤ fl v
unfolding fl
fl-mono w v h = rounded-mono 53 unit w v (omega arith) unit-pos h

-- nothing is lost of a number of 53 digits, moved up by j places
pub fl-exact : (a j : ℕ) → a < 2 ^ 53 → fl (a * 2 ^ j * unit) ≡ a * 2 ^ j
unfolding fl
fl-exact a j h = rounded-exact 53 unit a j unit-pos h

-- of a whole number z of units of 2^-1074: within the 2^53-th part of the result
pub fl-whole : (z : ℕ) → Apart (fl (z * unit) * 2 ^ 53) (z * 2 ^ 53) (fl (z * unit))
unfolding fl
fl-whole z = whole-near 53 unit z (omega arith) unit-pos

-- of any w: within that part and half a unit of 2^-1074
pub fl-fine : (w : ℕ) → Apart (fl w * unit * 2 ^ 54) (w * 2 ^ 54) (fl w * unit * 2 + unit * 2 ^ 53)
unfolding fl
fl-fine w = fine-near 53 unit w (omega arith) unit-pos

-- a number of the format is its own rounding
pub fl-own : (x : Float) → Held x → fl (ulps x * unit) ≡ ulps x
fl-own x h = let d = own-digits x h in rw d.3 (fl-exact d.0 d.1 d.2)

-- ---- signs

pub parts : (x : Float) → over x + under x ≡ ulps x
unfolding over under
parts x = go (negative x)
  where
    go : (s : Bool) → cond s 0 (ulps x) + cond s (ulps x) 0 ≡ ulps x
    go true = omega arith
    go false = omega arith

pub over-is : (x : Float) (s : Bool) (g : ℕ) → Is x s g → (over x ≡ cond s 0 g) × (under x ≡ cond s g 0)
unfolding over under
over-is x s g h = (rw (h.sign, h.size), rw (h.sign, h.size))

pub neg-over : (x : Float) → over (neg x) ≡ under x
unfolding over under neg negative ulps
neg-over nan = refl
neg-over (inf s) = refl
neg-over (fin true m e) = refl
neg-over (fin false m e) = refl

pub neg-under : (x : Float) → under (neg x) ≡ over x
unfolding over under neg negative ulps
neg-under nan = refl
neg-under (inf s) = refl
neg-under (fin true m e) = refl
neg-under (fin false m e) = refl

pub neg-size : (x : Float) → ulps (neg x) ≡ ulps x
unfolding neg ulps
neg-size nan = refl
neg-size (inf s) = refl
neg-size (fin s m e) = refl

neg-held : (x : Float) → Held x → Held (neg x)
unfolding neg
neg-held x h = record { ends = go x h.ends; fit = is_true (fits binary64 (neg x)) (neg-fits binary64 x (subst T (sym h.fit) tt)) }
  where
    go : (x : Float) → finite x ≡ true → finite (neg x) ≡ true
    go nan h = h
    go (inf s) h = h
    go (fin s m e) h = h

-- ---- a sum

pub add-held : (x y : Float) → finite (add binary64 x y) ≡ true → Held (add binary64 x y)
add-held x y h = record { ends = h; fit = is_true _ (add-fits binary64 x y) }

pub sub_held : (x y : Float) → finite (sub binary64 x y) ≡ true → Held (sub binary64 x y)
sub_held x y h = record { ends = h; fit = is_true _ (sub-fits binary64 x y) }

pub mul-held : (x y : Float) → finite (mul binary64 x y) ≡ true → Held (mul binary64 x y)
mul-held x y h = record { ends = h; fit = is_true _ (mul-fits binary64 x y) }

sum_near : (r : Bool) (P N z G : ℕ) → P + cond r z 0 ≡ N + cond r 0 z → Apart (G * 2 ^ 53) (z * 2 ^ 53) G → Apart ((P + cond r G 0) * 2 ^ 53) ((cond r 0 G + N) * 2 ^ 53) G
sum_near true P N z G e u = omega (arith, u.0, u.1)
sum_near false P N z G e u = omega (arith, u.0, u.1)

pub add-near : (x y : Float) → Held x → Held y → finite (add binary64 x y) ≡ true
    → Within (plus_of (value_of x) (value_of y)) (value_of (add binary64 x y)) (2 ^ 53) (ulps (add binary64 x y)) × (ulps (add binary64 x y) ≤ fl ((ulps x + ulps y) * unit))
unfolding over under fl unit
add-near x y h k t =
    let S = add-value x y h k t in
    let is : Is (add binary64 x y) S.r (fl (S.z * unit)) = is-value _ _ _ S.value in
    let n = sum_near S.r (over x + over y) (under x + under y) S.z (fl (S.z * unit)) S.balance (fl-whole S.z) in
    (rw (is.sign, is.size) (record { above = n.0; below = n.1 }), le_trans (le_of_eq is.size) (fl-mono _ _ (mul-le-mul_right unit S.top)))

pub sub-near : (x y : Float) → Held x → Held y → finite (sub binary64 x y) ≡ true
    → Within (less_of (value_of x) (value_of y)) (value_of (sub binary64 x y)) (2 ^ 53) (ulps (sub binary64 x y)) × (ulps (sub binary64 x y) ≤ fl ((ulps x + ulps y) * unit))
unfolding sub
sub-near x y h k t = rw (← neg-over y, ← neg-under y, ← neg-size y) (add-near x (neg y) h (neg-held y k) t)

-- of two numbers that are not below zero the sum is not, and nothing cancels
upward : (r : Bool) (a b z : ℕ) → a + b + cond r z 0 ≡ 0 + 0 + cond r 0 z → (z ≡ a + b) × (cond r z 0 ≡ 0)
upward true a b z e = omega arith
upward false a b z e = omega arith

none : (r : Bool) (z g : ℕ) → (z ≡ 0 → g ≡ 0) → cond r z 0 ≡ 0 → cond r g 0 ≡ 0
none true z g f e = f e
none false z g f e = refl

balanced : (x y a : Float) (S : Sum binary64 (negative x) (negative y) (ulps x) (ulps y) a) → over x + over y + cond S.r S.z 0 ≡ under x + under y + cond S.r 0 S.z
unfolding over under
balanced x y a S = S.balance

pub add-upward : (x y : Float) → Held x → Held y → under x ≡ 0 → under y ≡ 0 → finite (add binary64 x y) ≡ true
    → (under (add binary64 x y) ≡ 0) × (ulps (add binary64 x y) ≡ fl ((ulps x + ulps y) * unit))
unfolding fl unit
add-upward x y h k a b t =
    let S = add-value x y h k t in
    let is : Is (add binary64 x y) S.r (fl (S.z * unit)) = is-value _ _ _ S.value in
    let w = upward S.r (over x) (over y) S.z (rw (a, b) at (balanced x y (add binary64 x y) S)) in
    let e : S.z ≡ ulps x + ulps y = omega (arith, w.0, parts x, parts y) in
    ((over-is (add binary64 x y) S.r (fl (S.z * unit)) is).1 ∙ none S.r S.z (fl (S.z * unit)) (λ z. rw z (fl-exact 0 0 (omega arith))) w.1, is.size ∙ rw e)

-- ---- the magnitude

pub magnitude-size : (x : Float) → ulps (magnitude x) ≡ ulps x
unfolding ulps
magnitude-size nan = refl
magnitude-size (inf s) = refl
magnitude-size (fin s m e) = refl

pub magnitude-under : (x : Float) → under (magnitude x) ≡ 0
unfolding under negative
magnitude-under nan = refl
magnitude-under (inf s) = refl
magnitude-under (fin s m e) = refl

pub magnitude-held : (x : Float) → Held x → Held (magnitude x)
unfolding fits
magnitude-held nan h = h
magnitude-held (inf s) h = record { ends = h.ends; fit = refl }
magnitude-held (fin s zero e) h = record { ends = refl; fit = h.fit }
magnitude-held (fin s (suc m) e) h = record { ends = refl; fit = h.fit }

-- ---- a product

pub mul_is : (x y : Float) → Held x → Held y → finite (mul binary64 x y) ≡ true → Is (mul binary64 x y) (unlike (negative x) (negative y)) (fl (ulps x * ulps y))
unfolding fl unit
mul_is x y h k t = is-value _ _ _ (mul-value x y h k t)

-- the exact product's sizes by signs
product-near : (s t : Bool) (u v U G : ℕ) → Apart (G * U * 2 ^ 54) (u * v * 2 ^ 54) (G * U * 2 + U * 2 ^ 53)
    → Within (record { plus = cond s 0 u * cond t 0 v + cond s u 0 * cond t v 0; minus = cond s 0 u * cond t v 0 + cond s u 0 * cond t 0 v })
    (record { plus = cond (unlike s t) 0 G * U; minus = cond (unlike s t) G 0 * U }) (2 ^ 54) (G * U * 2 + U * 2 ^ 53)
product-near true true u v U G h = record { above = omega (arith, h.0, h.1); below = omega (arith, h.0, h.1) }
product-near true false u v U G h = record { above = omega (arith, h.0, h.1); below = omega (arith, h.0, h.1) }
product-near false true u v U G h = record { above = omega (arith, h.0, h.1); below = omega (arith, h.0, h.1) }
product-near false false u v U G h = record { above = omega (arith, h.0, h.1); below = omega (arith, h.0, h.1) }

pub mul-near : (x y : Float) → Held x → Held y → finite (mul binary64 x y) ≡ true
    → Within (product_of x y) (fine (mul binary64 x y)) (2 ^ 54) (ulps (mul binary64 x y) * unit * 2 + unit * 2 ^ 53)
unfolding over under
mul-near x y h k t =
    let is = mul_is x y h k t in
    let w = ulps x * ulps y in
    rw (is.sign, is.size) (product-near (negative x) (negative y) (ulps x) (ulps y) unit (fl w) (fl-fine w))
