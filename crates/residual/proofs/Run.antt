-- The rounded sums of a row against the exact ones: what the entries' loop adds to the error, and how T bounds it.
use mathlib.Core.Path.{◌≡◌, sym}
use mathlib.Core.Bool.{true}
use mathlib.Core.List.{List, [], ◌∷◌}
use Prim.Native.Nat.{ℕ, suc, ◌+◌, ◌*◌, ◌^◌, ◌≤◌}
use native.Mathlib.Nat.{le_refl, le_trans, le_of_eq, suc-mul, add-mul, mul_right_comm, mul-le-mul_right}
use native.Mathlib.Omega.{arith}
use lib.ListN.{length}
use lib.Ieee.{Float, binary64, add, sub, mul}
use lib.Ieee.Scale.{finite}
use Rattle.base.specs.Tests.{and_cases}
use Rattle.base.specs.Magnitude.{magnitude}
use Rattle.arithmetic.specs.RowEnd.{finite_all}
use Rattle.rounding.specs.Values.{Whole, Within, Held, ulps, unit, over, under, value_of, fine, product_of, less_of}
use Rattle.rounding.proofs.Bounds.{fl, fl-mono, fl-whole, fl-own, sub-near, add-upward, mul-near, sub_held, add-held, mul-held, magnitude-size, magnitude-under, magnitude-held}
use Rattle.residual.specs.Residual.{Entry, product, residual_from, total_from, share, least, width_from, results_from, exact_from, results}

-- finite numbers of the format in every entry
pub data AllHeld : List Entry → Type 0 where
  held_none : AllHeld []
  held_more : {v x : Float} {l : List Entry} → Held v → Held x → AllHeld l → AllHeld ((v, x) ∷ l)

-- the sizes of the rounded products
unfoldable pub sizes : List Entry → ℕ
sizes [] = 0
sizes (e ∷ l) = ulps (product e) + sizes l

-- what an entry's results being finite says of each
pub results-parts : (r t : Float) (q : ℕ) (e : Entry) (l : List Entry) → finite_all (results_from r t q (e ∷ l)) ≡ true
    → (finite (product e) ≡ true) × (finite (sub binary64 r (product e)) ≡ true) × (finite (add binary64 t (magnitude (product e))) ≡ true)
    × (finite_all (results_from (sub binary64 r (product e)) (add binary64 t (magnitude (product e))) q l) ≡ true)
unfolding results_from
results-parts r t q e l g =
    let a = and_cases _ _ g in
    let b = and_cases _ _ a.1 in
    let c = and_cases _ _ b.1 in
    (a.0, b.0, c.0, c.1)

-- and the results behind the last entry
pub width-parts : (r t : Float) (q : ℕ) → finite_all (results_from r t q []) ≡ true
    → (finite (share q) ≡ true) × (finite (mul binary64 t (share q)) ≡ true) × (finite (least q) ≡ true) × (finite (width_from t q) ≡ true)
unfolding results_from
width-parts r t q g =
    let a = and_cases _ _ g in
    let b = and_cases _ _ a.1 in
    let c = and_cases _ _ b.1 in
    (a.0, b.0, c.0, (and_cases _ _ c.1).0)

-- ---- one entry, over natural numbers

-- a bound times U
scale : (a b c d e f g U : ℕ) → (a + b + c) * 2 ^ 53 ≤ (d + (e + f)) * 2 ^ 53 + g → (a * U + b * U + c * U) * 2 ^ 53 ≤ (d * U + (e * U + f * U)) * 2 ^ 53 + g * U
scale a b c d e f g U h =
    let z : (a + b + c) * 2 ^ 53 * U ≤ ((d + (e + f)) * 2 ^ 53 + g) * U = mul-le-mul_right U h in
    let x : (a + b + c) * 2 ^ 53 * U ≡ (a + b + c) * U * 2 ^ 53 = mul_right_comm (a + b + c) (2 ^ 53) U in
    let y : ((d + (e + f)) * 2 ^ 53 + g) * U ≡ (d + (e + f)) * 2 ^ 53 * U + g * U = add-mul ((d + (e + f)) * 2 ^ 53) g U in
    let w : (d + (e + f)) * 2 ^ 53 * U ≡ (d + (e + f)) * U * 2 ^ 53 = mul_right_comm (d + (e + f)) (2 ^ 53) U in
    omega (arith, add-mul (a + b) c U, add-mul a b U, add-mul d (e + f) U, add-mul e f U)

-- the error before, the product's and the difference's
step : (w p : Whole) (r s q : Float) (D : ℕ) → Within w (fine r) (2 ^ 54) D → Within p (fine q) (2 ^ 54) (ulps q * unit * 2 + unit * 2 ^ 53)
    → Within (less_of (value_of r) (value_of q)) (value_of s) (2 ^ 53) (ulps s)
    → Within (less_of w p) (fine s) (2 ^ 54) (D + ulps q * unit * 2 + unit * 2 ^ 53 + ulps s * unit * 2)
step w p r s q D a b c =
    let x = scale (over r) (under q) (under s) (over s) (under r) (over q) (ulps s) unit c.above in
    let y = scale (over s) (under r) (over q) (over r) (under q) (under s) (ulps s) unit (omega (arith, c.below)) in
    let a1 = a.above in
    let a2 = a.below in
    let b1 = b.above in
    let b2 = b.below in
    record { above = omega arith; below = omega arith }

widen : {x y : Whole} {k : ℕ} (a b : ℕ) → a ≤ b → Within x y k a → Within x y k b
widen a b h w = let u = w.above in let v = w.below in record { above = omega arith; below = omega arith }

-- ---- all entries

-- 2^54 times the error that the entries add, with T's size at the end
abbrev pub error : ℕ → ℕ → ℕ → ℕ
error q T s = q * (T * unit) * 2 + s * unit * 2 + q * (unit * 2 ^ 53)

pub record Run (w : Whole) (r t : Float) (l : List Entry) (D : ℕ) : Type 0 where
  pub held : Held (total_from t l)
  pub upward : under (total_from t l) ≡ 0
  pub grows : ulps t ≤ ulps (total_from t l)
  pub most : (ulps t + sizes l) * 2 ^ 53 ≤ ulps (total_from t l) * 2 ^ 53 + length l * ulps (total_from t l)
  pub least : ulps (total_from t l) * 2 ^ 53 ≤ (ulps t + sizes l) * 2 ^ 53 + length l * ulps (total_from t l)
  pub near : Within (exact_from w l) (fine (residual_from r l)) (2 ^ 54) (D + error (length l) (ulps (total_from t l)) (sizes l))

-- one more entry: its product has p units, the new difference s, the new sum u
bound-more : (n T S p s u D U : ℕ) → s ≤ u → u ≤ T
    → D + p * U * 2 + U * 2 ^ 53 + s * U * 2 + (n * (T * U) * 2 + S * U * 2 + n * (U * 2 ^ 53)) ≤ D + (suc n * (T * U) * 2 + (p + S) * U * 2 + suc n * (U * 2 ^ 53))
bound-more n T S p s u D U a b =
    let z : s * U ≤ T * U = mul-le-mul_right U (le_trans a b) in
    omega (arith, suc-mul n (T * U), suc-mul n (U * 2 ^ 53), add-mul p S U)

sum-most : (M n T S p t u : ℕ) → u ≤ T → (t + p) * M ≤ u * M + u → (u + S) * M ≤ T * M + n * T → (t + (p + S)) * M ≤ T * M + suc n * T
sum-most M n T S p t u a b c = omega (arith, suc-mul n T, add-mul t (p + S) M, add-mul p S M, add-mul u S M, add-mul t p M)

sum-least : (M n T S p t u : ℕ) → u ≤ T → u * M ≤ (t + p) * M + u → T * M ≤ (u + S) * M + n * T → T * M ≤ (t + (p + S)) * M + suc n * T
sum-least M n T S p t u a b c = omega (arith, suc-mul n T, add-mul t (p + S) M, add-mul p S M, add-mul u S M, add-mul t p M)

pub run : (w : Whole) (r t : Float) (q : ℕ) (l : List Entry) (D : ℕ) → AllHeld l → Held r → Held t → under t ≡ 0 → ulps r ≤ ulps t → finite_all (results_from r t q l) ≡ true
    → Within w (fine r) (2 ^ 54) D → Run w r t l D
unfolding residual_from total_from exact_from sizes
run w r t q l D held_none hr ht up le g e =
    record { held = ht; upward = up; grows = le_refl (ulps t); most = omega arith; least = omega arith; near = widen D _ (omega arith) e }
run w r t q l D (held_more {v = v} {x = x} {l = m} hv hx hm) hr ht up le g e =
    let p = mul binary64 v x in
    let s = sub binary64 r p in
    let u = add binary64 t (magnitude p) in
    let f = results-parts r t q (v, x) m g in
    let hp : Held p = mul-held v x f.0 in
    let hs : Held s = sub_held r p f.1 in
    let hm' : Held (magnitude p) = magnitude-held p hp in
    let hu : Held u = add-held t (magnitude p) f.2 in
    let U = add-upward t (magnitude p) ht hm' up (magnitude-under p) f.2 in
    let is : ulps u ≡ fl ((ulps t + ulps p) * unit) = rw (← magnitude-size p) U.1 in
    let d = sub-near r p hr hp f.1 in
    let su : ulps s ≤ ulps u = rw is (le_trans d.1 (fl-mono _ _ (mul-le-mul_right unit (omega arith)))) in
    let tu : ulps t ≤ ulps u = rw is (le_trans (le_of_eq (sym (fl-own t ht))) (fl-mono _ _ (mul-le-mul_right unit (omega arith)))) in
    let W = fl-whole (ulps t + ulps p) in
    let R = run (less_of w (product_of v x)) s u q m _ hm hs hu U.0 su f.3 (step w (product_of v x) r s p D e (mul-near v x hv hx f.0) d.0) in
    let T = ulps (total_from u m) in
    record {
      held = R.held;
      upward = R.upward;
      grows = le_trans tu R.grows;
      most = sum-most (2 ^ 53) (length m) T (sizes m) (ulps p) (ulps t) (ulps u) R.grows (rw is W.1) R.most;
      least = sum-least (2 ^ 53) (length m) T (sizes m) (ulps p) (ulps t) (ulps u) R.grows (rw is W.0) R.least;
      near = widen _ _ (bound-more (length m) T (sizes m) (ulps p) (ulps s) (ulps u) D unit su R.grows) R.near;
    }

-- the run of a whole row: the error starts at none
pub ran : (b : Float) (l : List Entry) → Held b → AllHeld l → finite_all (results b l) ≡ true → Run (fine b) b (magnitude b) l 0
ran b l hb hl g =
    run (fine b) b (magnitude b) (length l) l 0 hl hb (magnitude-held b hb) (magnitude-under b) (le_of_eq (sym (magnitude-size b))) g (record { above = omega arith; below = omega arith })
