-- The paper's three lines, and a refusal's.
use mathlib.Core.Path.{◌≡◌, refl}
use mathlib.Core.List.{[], ◌∷◌}
use Rattle.printing.specs.Print.{digit, digits, width_in, decimal, hexadecimal, labelled, bits_end, counts_line, value_line, refused_line}

-- `n 2 lower 1 upper 1 products 1`
pub counts : counts_line 2 (record { lower = 1; upper = 1; products = 1 })
    ≡ 110 ∷ 32 ∷ 50 ∷ 32 ∷ 108 ∷ 111 ∷ 119 ∷ 101 ∷ 114 ∷ 32 ∷ 49 ∷ 32 ∷ 117 ∷ 112 ∷ 112 ∷ 101 ∷ 114 ∷ 32 ∷ 49 ∷ 32 ∷ 112 ∷ 114 ∷ 111 ∷ 100 ∷ 117 ∷ 99 ∷ 116 ∷ 115 ∷ 32 ∷ 49 ∷ 10 ∷ []
unfolding counts_line labelled decimal width_in digits digit
counts = refl

-- `x 0 3FF0000000000000`
pub value : value_line 0 0x3ff0000000000000 ≡ 120 ∷ 32 ∷ 48 ∷ 32 ∷ 51 ∷ 70 ∷ 70 ∷ 48 ∷ 48 ∷ 48 ∷ 48 ∷ 48 ∷ 48 ∷ 48 ∷ 48 ∷ 48 ∷ 48 ∷ 48 ∷ 48 ∷ 48 ∷ 10 ∷ []
unfolding value_line labelled bits_end hexadecimal decimal width_in digits digit
value = refl

-- `refused 12 0`
pub refused : refused_line 12 0 ≡ 114 ∷ 101 ∷ 102 ∷ 117 ∷ 115 ∷ 101 ∷ 100 ∷ 32 ∷ 49 ∷ 50 ∷ 32 ∷ 48 ∷ 10 ∷ []
unfolding refused_line labelled decimal width_in digits digit
refused = refl
