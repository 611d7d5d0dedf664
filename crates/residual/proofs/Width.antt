-- The width of a row: nothing is lost in its two factors, and its two other operations are rounded.
use mathlib.Core.Path.{◌≡◌, refl, sym, ap, ◌∙◌}
use mathlib.Core.Bool.{Bool, true, false, cond}
use mathlib.Core.List.{List, [], ◌∷◌}
use Prim.Native.Nat.{ℕ, ◌+◌, ◌*◌, ◌^◌, ◌≤◌}
use native.Mathlib.Nat.{zero-mul, mul-one, add-mul, mul_assoc, mul_left_comm, mul_right_comm}
use native.Mathlib.Omega.{arith}
use lib.IntN.{pos, negsuc}
use lib.Ieee.{Float, nan, inf, fin, binary64, add, sub, mul, of_int, up, down, unlike, fits}
use lib.Ieee.Fits.{of_int-fits}
use lib.Ieee.Exact.{HasValue}
use lib.Ieee.Back.{round_whole}
use lib.Ieee.Bits.{is_true}
use lib.Ieee.Scale.{finite}
use Rattle.base.specs.Magnitude.{magnitude}
use Rattle.arithmetic.specs.RowEnd.{finite_all}
use Rattle.rounding.specs.Values.{Held, ulps, unit, negative, over, under}
use Rattle.rounding.proofs.Operations.{Is, is-value}
use Rattle.rounding.proofs.Bounds.{fl, fl-exact, parts, add-upward, mul_is, mul-held, over-is}
use Rattle.residual.specs.Residual.{Entry, longest_row, product, residual_from, total_from, number, share, least, width_from, results_from}
use Rattle.residual.proofs.Run.{results-parts, width-parts}

-- ---- the two factors: nothing is lost in them

-- 2^-52 in units of 2^-1074
unfoldable pub part : ℕ
part = 2 ^ 1022

part-is : part * 2 ^ 52 ≡ unit
unfolding part unit
part-is = refl

whole-value : (x : Float) (n : ℕ) → HasValue x false n 1 → HasValue x false (n * 2 ^ 1074) (2 ^ 1074)
whole-value nan n h = h
whole-value (inf s) n h = h
whole-value (fin s m e) n h = (h.0, ap (λ (z : ℕ). z * 2 ^ 1074) (sym (mul-one (m * up e)) ∙ h.1) ∙ mul_right_comm n (down e) (2 ^ 1074))

value-ends : (x : Float) (s : Bool) (n c : ℕ) → HasValue x s n c → finite x ≡ true
value-ends nan s n c h = absurd h
value-ends (inf t) s n c h = absurd h
value-ends (fin t m e) s n c h = refl

pub number_is : (n : ℕ) → n ≤ 2 ^ 53 → Held (number n) × Is (number n) false (n * unit)
unfolding of_int unit
number_is n h =
    let v = round_whole binary64 false n h in
    (record { ends = value-ends (number n) false n 1 v; fit = is_true _ (of_int-fits binary64 (pos n)) }, is-value (number n) false (n * 2 ^ 1074) (whole-value (number n) n v))

-- 2^-52 and 2^-1074
share-unit : Held (fin false 1 (negsuc 51)) × Is (fin false 1 (negsuc 51)) false part
unfolding ulps negative unit part fits
share-unit = (record { ends = refl; fit = refl }, record { sign = refl; size = refl })

least-unit : Held (fin false 1 (negsuc 1073)) × Is (fin false 1 (negsuc 1073)) false 1
unfolding ulps negative unit fits
least-unit = (record { ends = refl; fit = refl }, record { sign = refl; size = refl })

pub share-is : (q : ℕ) → q ≤ longest_row → finite (share q) ≡ true → Held (share q) × Is (share q) false ((q + 2) * part)
unfolding share part
share-is q h t =
    let n = number_is (q + 2) (omega arith) in
    let is = mul_is (number (q + 2)) (fin false 1 (negsuc 51)) n.0 share-unit.0 t in (
      mul-held (number (q + 2)) (fin false 1 (negsuc 51)) t,
      record {
        sign = is.sign ∙ rw (n.1.sign, share-unit.1.sign);
        size = is.size ∙ rw (n.1.size, share-unit.1.size, mul_right_comm (q + 2) unit part) (fl-exact (q + 2) 1022 (omega arith));
      },
    )

pub least-is : (q : ℕ) → q ≤ longest_row → finite (least q) ≡ true → Held (least q) × Is (least q) false q
unfolding least
least-is q h t =
    let n = number_is q (omega arith) in
    let is = mul_is (number q) (fin false 1 (negsuc 1073)) n.0 least-unit.0 t in
    let e : fl (q * unit) ≡ q = rw mul-one at (fl-exact q 0 (omega arith)) in (
      mul-held (number q) (fin false 1 (negsuc 1073)) t,
      record { sign = is.sign ∙ rw (n.1.sign, least-unit.1.sign); size = is.size ∙ rw (n.1.size, least-unit.1.size, mul-one) e },
    )

-- ---- the width

-- a product with a number above zero keeps the side of zero
mul-upward : (x y : Float) (v : ℕ) → Held x → Held y → finite (mul binary64 x y) ≡ true → under x ≡ 0 → Is y false v
    → (under (mul binary64 x y) ≡ 0) × (ulps (mul binary64 x y) ≡ fl (ulps x * v))
unfolding under
mul-upward x y v h k t u is =
    let m = mul_is x y h k t in
    let sign : negative (mul binary64 x y) ≡ unlike (negative x) false = m.sign ∙ rw is.sign in
    let size : ulps (mul binary64 x y) ≡ fl (ulps x * v) = m.size ∙ rw is.size in
    (rw (sign, size) (go (negative x) (ulps x) u), size)
  where
    go : (s : Bool) (w : ℕ) → cond s w 0 ≡ 0 → cond (unlike s false) (fl (w * v)) 0 ≡ 0
    go true w e = rw (e, zero-mul) (rw zero-mul at (fl-exact 0 0 (omega arith)))
    go false w e = refl

-- T·(q + 2)·2^-52, in units of 2^-2148
abbrev pub scaled : ℕ → ℕ → ℕ
scaled T q = T * ((q + 2) * part)

-- (q + 2)·T·U is 2^52 times Z
pub scaled-is : (T q : ℕ) → scaled T q * 2 ^ 52 ≡ q * (T * unit) + T * unit * 2
scaled-is T q =
    mul_assoc T ((q + 2) * part) (2 ^ 52) ∙ ap (λ (z : ℕ). T * z) (mul_assoc (q + 2) part (2 ^ 52) ∙ ap (λ (z : ℕ). (q + 2) * z) part-is)
    ∙ mul_left_comm T (q + 2) unit ∙ add-mul q 2 (T * unit) ∙ omega arith

-- a number that is not below zero
upward-size : (x : Float) → under x ≡ 0 → over x ≡ ulps x
upward-size x u = let p = parts x in omega arith

-- the results behind the last entry
pub last-results : (r t : Float) (q : ℕ) (l : List Entry) → finite_all (results_from r t q l) ≡ true → finite_all (results_from (residual_from r l) (total_from t l) q []) ≡ true
unfolding residual_from total_from
last-results r t q [] g = g
last-results r t q (e ∷ l) g = last-results (sub binary64 r (product e)) (add binary64 t (magnitude (product e))) q l (results-parts r t q e l g).3

pub width_is : (r t : Float) (q : ℕ) → q ≤ longest_row → Held t → under t ≡ 0 → finite_all (results_from r t q []) ≡ true
    → (over (width_from t q) ≡ ulps (width_from t q)) × (ulps (width_from t q) ≡ fl ((fl (scaled (ulps t) q) + q) * unit))
unfolding width_from
width_is r t q h ht u g =
    let f = width-parts r t q g in
    let s = share-is q h f.0 in
    let l = least-is q h f.2 in
    let m = mul-upward t (share q) ((q + 2) * part) ht s.0 f.1 u s.1 in
    let a = add-upward (mul binary64 t (share q)) (least q) (mul-held t (share q) f.1) l.0 m.0 (over-is (least q) false q l.1).1 f.3 in
    (upward-size (width_from t q) a.0, a.1 ∙ rw (m.1, l.1.size))
