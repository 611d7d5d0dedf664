-- The first statement: the exact residual lies within the width of the rounded one.
use mathlib.Core.Path.{◌≡◌, sym}
use mathlib.Core.Bool.{true}
use mathlib.Core.List.{List}
use Prim.Native.Nat.{ℕ, ◌+◌, ◌*◌, ◌^◌, ◌≤◌}
use native.Mathlib.Nat.{le_trans, le_of_eq, mul-one, add-mul, mul_assoc, mul_right_comm, mul-le-mul_right}
use native.Mathlib.Omega.{arith}
use lib.ListN.{length}
use lib.Ieee.{Float}
use Rattle.base.specs.Magnitude.{magnitude}
use Rattle.arithmetic.specs.RowEnd.{finite_all}
use Rattle.rounding.specs.Values.{Whole, Within, Held, over, ulps, unit, fine}
use Rattle.rounding.proofs.Bounds.{fl, fl-mono, fl-exact, fl-whole, fl-fine}
use Rattle.residual.specs.Residual.{Entry, longest_row, residual_from, total_of, width_of, results, exact_from}
use Rattle.residual.proofs.Run.{AllHeld, sizes, error, ran}
use Rattle.residual.proofs.Width.{scaled, scaled-is, last-results, width_is}

-- ---- over natural numbers: U is `unit`, w the width, w1 the rounded product, Z the exact one

-- w1 and w lose at most a fifth
product-low : (Z a U : ℕ) → Z * 2 ^ 54 ≤ a * 2 ^ 54 + (a * 2 + U * 2 ^ 53) → Z * 4 ≤ a * 5 + U * 2
product-low Z a U h = omega arith

sum_low : (a g d : ℕ) → (a + g) * 2 ^ 53 ≤ d * 2 ^ 53 + d → (a + g) * 4 ≤ d * 5
sum_low a g d h = omega arith

twice : (Z a g d U : ℕ) → Z * 4 ≤ a * 5 + U * 2 → (a + g) * 4 ≤ d * 5 → g ≤ d → U ≤ g → Z + g ≤ d * 2
twice Z a g d U x y z w = omega arith

-- T is at least half of the rounded products
half : (S T t q : ℕ) → (t + S) * 2 ^ 53 ≤ T * 2 ^ 53 + q * T → q ≤ longest_row → S ≤ T * 2
half S T t q h k = let z : q * T ≤ longest_row * T = mul-le-mul_right T k in omega arith

-- 2^54 times the error, by 2^53 times what the width covers
error-top : (q T s : ℕ) → s ≤ T * 2 → error q T s ≤ scaled T q * 2 ^ 53 + q * unit * 2 ^ 53
error-top q T s h =
    let z : s * unit ≤ T * 2 * unit = mul-le-mul_right unit h in
    let y = scaled-is T q in
    omega (arith, mul_right_comm T 2 unit, mul_assoc q unit (2 ^ 53))

covers : (q T s w : ℕ) → 1 ≤ q → q ≤ longest_row → s ≤ T * 2 → w ≡ fl ((fl (scaled T q) + q) * unit) → error q T s ≤ w * unit * 2 ^ 54
covers q T s w one top h e =
    let Z = scaled T q in
    let w1 = fl Z in
    let W = fl-whole (w1 + q) in
    let own : fl (q * unit) ≡ q = rw mul-one at (fl-exact q 0 (omega arith)) in
    let least-w : q ≤ w = rw e (le_trans (le_of_eq (sym own)) (fl-mono _ _ (mul-le-mul_right unit (omega arith)))) in
    let lose : (w1 + q) * 2 ^ 53 ≤ w * 2 ^ 53 + w = rw e W.1 in
    let a : (w1 + q) * unit * 4 ≤ w * unit * 5 = times-unit (w1 + q) w (sum_low w1 q w lose) in
    let b : unit ≤ q * unit = le_trans (le_of_eq (sym (native.Mathlib.Nat.one-mul unit))) (mul-le-mul_right unit one) in
    let t : Z + q * unit ≤ w * unit * 2 =
    twice Z (w1 * unit) (q * unit) (w * unit) unit (product-low Z (w1 * unit) unit (fl-fine Z).1) (rw add-mul at a) (mul-le-mul_right unit least-w) b in
    let u = error-top q T s h in
    cover (error q T s) Z (q * unit) (w * unit) u t
  where
    times-unit : (x y : ℕ) → x * 4 ≤ y * 5 → x * unit * 4 ≤ y * unit * 5
    times-unit x y h = let z = mul-le-mul_right unit h in omega (arith, mul_right_comm x 4 unit, mul_right_comm y 5 unit)

    cover : (E Z g d : ℕ) → E ≤ Z * 2 ^ 53 + g * 2 ^ 53 → Z + g ≤ d * 2 → E ≤ d * 2 ^ 54
    cover E Z g d x y = omega arith

cancel : (x y : Whole) (E d : ℕ) → E ≤ d * 2 ^ 54 → Within x y (2 ^ 54) (0 + E) → Within x y 1 d
cancel x y E d h w = let a = w.above in let b = w.below in record { above = omega arith; below = omega arith }

-- "The exact residual of the stored entries lies within the width of the returned one."
pub residual-within : (b : Float) (l : List Entry) → Held b → AllHeld l → 1 ≤ length l → length l ≤ longest_row → finite_all (results b l) ≡ true
    → Within (exact_from (fine b) l) (fine (residual_from b l)) 1 (over (width_of b l) * unit)
residual-within b l hb hl one top g =
    let T = total_of b l in
    let R = ran b l hb hl g in
    let s : sizes l ≤ ulps T * 2 = half (sizes l) (ulps T) (ulps (magnitude b)) (length l) R.most top in
    let w = width_is _ T (length l) top R.held R.upward (last-results b (magnitude b) (length l) l g) in
    rw w.0 (cancel (exact_from (fine b) l) (fine (residual_from b l)) (error (length l) (ulps T) (sizes l)) (ulps (width_of b l) * unit)
    (covers (length l) (ulps T) (sizes l) (ulps (width_of b l)) one top s w.1) R.near)
