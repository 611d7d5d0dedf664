-- "How far off is a score": the residual and the width of one row, each operation rounded once, and the exact residual and sum beside them.
-- Definitions only.
use Rattle.std.specs.Prelude.{ℕ, ◌+◌, ◌*◌, ◌^◌, List, [], ◌∷◌, false, length, pos, negsuc, Float}
use Rattle.std.specs.Float.{fin, binary64}
use Rattle.std.specs.Float.Ieee.{add, sub, mul, of_int}
use Rattle.base.specs.Magnitude.{magnitude}
use Rattle.rounding.specs.Values.{Whole, ulps, product_of, less_of}

-- the greatest q for which both statements are proved: sixteen times the present limit of e, so that they stand when collections grow. Up to it q + 2 is
-- exact in binary64, and q·2^−53, by which the sums of a row can be off, is below 2^−32
abbrev pub longest_row : ℕ
longest_row = 2 ^ 20

-- an entry of the row: its stored value, and x at its column
abbrev pub Entry : Type 0
Entry = Float × Float

abbrev pub product : Entry → Float
product e = mul binary64 e.0 e.1

-- ---- the listed operations

-- "The residual starts as b and subtracts each product value·x in stored order"
unfoldable pub residual_from : Float → List Entry → Float
residual_from r [] = r
residual_from r (e ∷ l) = residual_from (sub binary64 r (product e)) l

-- "T starts as the magnitude of b and adds each product's magnitude"
unfoldable pub total_from : Float → List Entry → Float
total_from t [] = t
total_from t (e ∷ l) = total_from (add binary64 t (magnitude (product e))) l

abbrev pub number : ℕ → Float
number n = of_int binary64 (pos n)

-- "(q + 2)·2^−52"
unfoldable pub share : ℕ → Float
share q = mul binary64 (number (q + 2)) (fin false 1 (negsuc 51))

-- "q·2^−1074"
unfoldable pub least : ℕ → Float
least q = mul binary64 (number q) (fin false 1 (negsuc 1073))

-- "width = T·((q + 2)·2^−52) + q·2^−1074"
unfoldable pub width_from : Float → ℕ → Float
width_from t q = add binary64 (mul binary64 t (share q)) (least q)

-- of a row with the right side b
abbrev pub total_of : Float → List Entry → Float
total_of b l = total_from (magnitude b) l

abbrev pub width_of : Float → List Entry → Float
width_of b l = width_from (total_of b l) (length l)

-- the results: each product, residual and T so far; then (q + 2)·2^−52, T times it, q·2^−1074 and their sum
unfoldable pub results_from : Float → Float → ℕ → List Entry → List Float
results_from r t q [] = share q ∷ mul binary64 t (share q) ∷ least q ∷ width_from t q ∷ []
results_from r t q (e ∷ l) =
    let p = product e in
    p ∷ sub binary64 r p ∷ add binary64 t (magnitude p) ∷ results_from (sub binary64 r p) (add binary64 t (magnitude p)) q l

abbrev pub results : Float → List Entry → List Float
results b l = results_from b (magnitude b) (length l) l

-- ---- exactly, in units of 2^-2148

-- the residual of the stored entries
unfoldable pub exact_from : Whole → List Entry → Whole
exact_from w [] = w
exact_from w (e ∷ l) = exact_from (less_of w (product_of e.0 e.1)) l

-- "S the exact sum of the magnitude of b and of all products"
unfoldable pub sum_from : ℕ → List Entry → ℕ
sum_from s [] = s
sum_from s (e ∷ l) = sum_from (s + ulps e.0 * ulps e.1) l
