-- The second statement: the width is at most a share of the exact sum S.
use mathlib.Core.Path.{◌≡◌, ap, ◌∙◌}
use mathlib.Core.Bool.{true}
use mathlib.Core.List.{List}
use Prim.Native.Nat.{ℕ, ◌+◌, ◌*◌, ◌^◌, ◌≤◌}
use native.Mathlib.Nat.{le_trans, le_of_eq, zero-mul, suc-mul, add-mul, mul_assoc, mul_right_comm, mul-le-mul, mul-le-mul_right, mul-le-mul_left, mul_comm}
use native.Mathlib.Omega.{arith}
use lib.ListN.{length}
use lib.Ieee.{Float, binary64, add, sub, mul}
use Rattle.base.specs.Magnitude.{magnitude}
use Rattle.arithmetic.specs.RowEnd.{finite_all}
use Rattle.rounding.specs.Values.{Held, ulps, unit}
use Rattle.rounding.proofs.Bounds.{fl, fl-whole, fl-fine, mul_is, magnitude-size}
use Rattle.residual.specs.Residual.{Entry, longest_row, total_of, width_of, results_from, results, sum_from}
use Rattle.residual.proofs.Run.{AllHeld, held_none, held_more, results-parts, sizes, ran}
use Rattle.residual.proofs.Width.{scaled, scaled-is, last-results, width_is}

-- the rounded products against the exact ones
sizes-near : (s q : ℕ) (l : List Entry) (r t : Float) → AllHeld l → finite_all (results_from r t q l) ≡ true
    → (s + sizes l * unit) * 2 ^ 54 ≤ sum_from s l * 2 ^ 54 + sizes l * unit * 2 + length l * (unit * 2 ^ 53)
unfolding sizes sum_from
sizes-near s q l r t held_none g = omega (arith, zero-mul unit, zero-mul (unit * 2 ^ 53))
sizes-near s q l r t (held_more {v = v} {x = x} {l = m} hv hx hm) g =
    let p = mul binary64 v x in
    let d = sub binary64 r p in
    let u = add binary64 t (magnitude p) in
    let f = results-parts r t q (v, x) m g in
    let w = ulps v * ulps x in
    let e : ulps p ≡ fl w = (mul_is v x hv hx f.0).size in
    let F : ulps p * unit * 2 ^ 54 ≤ w * 2 ^ 54 + (ulps p * unit * 2 + unit * 2 ^ 53) = rw e (fl-fine w).0 in
    let I = sizes-near (s + w) q m d u hm f.3 in
    omega (arith, add-mul (ulps p) (sizes m) unit, suc-mul (length m) (unit * 2 ^ 53))

-- T, the rounded sum B and the exact sum S + g differ by small parts
total-top : (T B q : ℕ) → q ≤ longest_row → T * 2 ^ 53 ≤ B * 2 ^ 53 + q * T → T * 2 ^ 24 ≤ B * (2 ^ 24 + 1)
total-top T B q h e = let z : q * T ≤ longest_row * T = mul-le-mul_right T h in omega arith

-- what is a 2^53-th part off is less than a 2^24-th part off
part-top : (d a : ℕ) → d * 2 ^ 53 ≤ a * 2 ^ 53 + d → d * 2 ^ 24 ≤ a * (2 ^ 24 + 1)
part-top d a h = omega arith

sum_top : (B P S g : ℕ) → P ≤ B → B * 2 ^ 54 ≤ S * 2 ^ 54 + P * 2 + g * 2 ^ 53 → B * 2 ^ 24 ≤ (S + g) * (2 ^ 24 + 1)
sum_top B P S g h e = part-top B (S + g) (omega arith)

both-top : (T B S : ℕ) → T * 2 ^ 24 ≤ B * (2 ^ 24 + 1) → B * 2 ^ 24 ≤ S * (2 ^ 24 + 1) → T * 2 ^ 22 ≤ S * (2 ^ 22 + 1)
both-top T B S a b = omega arith

-- and so do the product and the width: s is (q + 2)·S, h is (q + 2)·g, N a unit of 2^-1074 times 2^53
z-top : (z s h S N : ℕ) → z * 2 ^ 22 ≤ (s + h) * 2 * (2 ^ 22 + 1) → h * 2 ^ 12 ≤ N → s ≤ S * 2 ^ 21 → z ≤ s * 2 + S + N
z-top z s h S N a b c = omega arith

a-top : (a z s S N : ℕ) → a * 2 ^ 24 ≤ (z + N) * (2 ^ 24 + 1) → z ≤ s * 2 + S + N → s ≤ S * 2 ^ 21 → a ≤ s * 2 + S * 3 + N * 3
a-top a z s S N x y c = omega arith

d-top : (d a g s S N : ℕ) → d * 2 ^ 24 ≤ (a + g) * (2 ^ 24 + 1) → a ≤ s * 2 + S * 3 + N * 3 → s ≤ S * 2 ^ 21 → d ≤ s * 2 + S * 6 + g * 2 + N * 4
d-top d a g s S N x y c = omega arith

product-top : (a Z U : ℕ) → a * 2 ^ 54 ≤ Z * 2 ^ 54 + (a * 2 + U * 2 ^ 53) → a * 2 ^ 24 ≤ (Z + U) * (2 ^ 24 + 1)
product-top a Z U h = part-top a (Z + U) (omega arith)

-- q units times q + 2 are few
few : (q : ℕ) → q ≤ longest_row → q * unit * (q + 2) * 2 ^ 12 ≤ unit * 2 ^ 53
few q h =
    let a : q * unit * (q + 2) ≤ longest_row * unit * 2 ^ 21 = mul-le-mul (mul-le-mul_right unit h) (omega arith) in
    omega arith

narrow : (q T B P S w : ℕ) → q ≤ longest_row → T * 2 ^ 53 ≤ B * 2 ^ 53 + q * T → P ≤ B * unit → B * unit * 2 ^ 54 ≤ S * 2 ^ 54 + P * 2 + q * unit * 2 ^ 53
    → w ≡ fl ((fl (scaled T q) + q) * unit) → w * unit * 2 ^ 53 ≤ (2 * q + 10) * S + (2 * q + 4) * (unit * 2 ^ 53)
narrow q T B P S w h t p b e =
    let g = q * unit in
    let Z = scaled T q in
    let a = fl Z * unit in
    let d = w * unit in
    let s = S * (q + 2) in
    let k = g * (q + 2) in
    let tu : T * unit * 2 ^ 24 ≤ B * unit * (2 ^ 24 + 1) = times-unit (total-top T B q h t) in
    let i : T * unit * 2 ^ 22 ≤ (S + g) * (2 ^ 22 + 1) = both-top (T * unit) (B * unit) (S + g) tu (sum_top (B * unit) P S g p b) in
    let z1 : Z * 2 ^ 53 * 2 ^ 22 ≤ (s + k) * 2 * (2 ^ 22 + 1) = by_count i in
    let small : s ≤ S * 2 ^ 21 = mul-le-mul_left S (omega arith) in
    let z2 : Z * 2 ^ 53 ≤ s * 2 + S + unit * 2 ^ 53 = z-top (Z * 2 ^ 53) s k S (unit * 2 ^ 53) z1 (few q h) small in
    let a1 : a * 2 ^ 53 ≤ s * 2 + S * 3 + unit * 2 ^ 53 * 3 = a-top (a * 2 ^ 53) (Z * 2 ^ 53) s S (unit * 2 ^ 53) (times-53 a (Z + unit) (Z * 2 ^ 53 + unit * 2 ^ 53) (omega arith) (product-top a Z unit (fl-fine Z).0)) z2 small in
    let d1 : d * 2 ^ 24 ≤ (a + g) * (2 ^ 24 + 1) = of_width in
    let d2 : d * 2 ^ 53 ≤ s * 2 + S * 6 + g * 2 ^ 53 * 2 + unit * 2 ^ 53 * 4 = d-top (d * 2 ^ 53) (a * 2 ^ 53) (g * 2 ^ 53) s S (unit * 2 ^ 53) (times-53 d (a + g) (a * 2 ^ 53 + g * 2 ^ 53) (omega arith) d1) a1 small in
    le_trans d2 (le_of_eq (shape S q unit))
  where
    times-unit : T * 2 ^ 24 ≤ B * (2 ^ 24 + 1) → T * unit * 2 ^ 24 ≤ B * unit * (2 ^ 24 + 1)
    times-unit x = let z = mul-le-mul_right unit x in omega (arith, mul_right_comm T (2 ^ 24) unit, mul_right_comm B (2 ^ 24 + 1) unit)

    doubled : (Y Z X : ℕ) → Z * 2 ^ 52 ≡ Y → Y * 2 ^ 22 ≤ X * (2 ^ 22 + 1) → Z * 2 ^ 53 * 2 ^ 22 ≤ X * 2 * (2 ^ 22 + 1)
    doubled Y Z X a b = omega arith

    by_count : T * unit * 2 ^ 22 ≤ (S + q * unit) * (2 ^ 22 + 1) → scaled T q * 2 ^ 53 * 2 ^ 22 ≤ (S * (q + 2) + q * unit * (q + 2)) * 2 * (2 ^ 22 + 1)
    by_count x =
        let z = mul-le-mul_right (q + 2) x in
        let y = scaled-is T q in
        let l : T * unit * 2 ^ 22 * (q + 2) ≡ (q * (T * unit) + 2 * (T * unit)) * 2 ^ 22 = mul_right_comm (T * unit) (2 ^ 22) (q + 2) ∙ ap (λ (n : ℕ). n * 2 ^ 22) (mul_comm (T * unit) (q + 2) ∙ add-mul q 2 (T * unit)) in
        let r : (S + q * unit) * (2 ^ 22 + 1) * (q + 2) ≡ (S * (q + 2) + q * unit * (q + 2)) * (2 ^ 22 + 1) = mul_right_comm (S + q * unit) (2 ^ 22 + 1) (q + 2) ∙ ap (λ (n : ℕ). n * (2 ^ 22 + 1)) (add-mul S (q * unit) (q + 2)) in
        doubled (q * (T * unit) + 2 * (T * unit)) (scaled T q) (S * (q + 2) + q * unit * (q + 2)) (omega arith) (rw (l, r) at z)

    times-53 : (a Z X : ℕ) → Z * 2 ^ 53 ≡ X → a * 2 ^ 24 ≤ Z * (2 ^ 24 + 1) → a * 2 ^ 53 * 2 ^ 24 ≤ X * (2 ^ 24 + 1)
    times-53 a Z X e x = omega arith

    of_width : w * unit * 2 ^ 24 ≤ (fl (scaled T q) * unit + q * unit) * (2 ^ 24 + 1)
    of_width =
        let n = fl (scaled T q) + q in
        let x : w * 2 ^ 24 ≤ n * (2 ^ 24 + 1) = part-top w n (rw e (fl-whole n).0) in
        let z = mul-le-mul_right unit x in
        omega (arith, mul_right_comm w (2 ^ 24) unit, mul_right_comm n (2 ^ 24 + 1) unit, add-mul (fl (scaled T q)) q unit)

    shape : (S q U : ℕ) → S * (q + 2) * 2 + S * 6 + q * U * 2 ^ 53 * 2 + U * 2 ^ 53 * 4 ≡ (2 * q + 10) * S + (2 * q + 4) * (U * 2 ^ 53)
    shape S q U =
        omega (arith, mul_comm S (q + 2), add-mul q 2 S, add-mul (2 * q) 10 S, mul_assoc 2 q S, add-mul (2 * q) 4 (U * 2 ^ 53), mul_assoc 2 q (U * 2 ^ 53), mul_assoc q U (2 ^ 53))

-- "With S the exact sum of the magnitude of b and of all products, the width is at most (2q + 10)·S/2^53 + (2q + 4)/2^1074."
pub width-at-most : (b : Float) (l : List Entry) → Held b → AllHeld l → length l ≤ longest_row → finite_all (results b l) ≡ true
    → ulps (width_of b l) * unit * 2 ^ 53 ≤ (2 * length l + 10) * sum_from (ulps b * unit) l + (2 * length l + 4) * (unit * 2 ^ 53)
width-at-most b l hb hl top g =
    let T = total_of b l in
    let q = length l in
    let R = ran b l hb hl g in
    let B = ulps b + sizes l in
    let t : ulps T * 2 ^ 53 ≤ B * 2 ^ 53 + q * ulps T = rw (magnitude-size b) at R.least in
    let n = sizes-near (ulps b * unit) q l b (magnitude b) hl g in
    let e : B * unit ≡ ulps b * unit + sizes l * unit = add-mul (ulps b) (sizes l) unit in
    narrow q (ulps T) B (sizes l * unit) (sum_from (ulps b * unit) l) (ulps (width_of b l)) top t (omega arith) (rw e (omega (arith, mul_assoc q unit (2 ^ 53))))
    (width_is _ T q top R.held R.upward (last-results b (magnitude b) q l g)).1
