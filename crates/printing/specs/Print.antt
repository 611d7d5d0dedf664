-- Numbers, and what the program prints, as bytes. Definitions only.
use Rattle.std.specs.Prelude.{cond, List, [], ◌∷◌, ◌++◌, ℕ, zero, suc, ◌+◌, ◌-◌, ◌/◌, ◌%◌, length, replicate, ltb}
use Rattle.base.specs.declared.Counts.{Counts}

-- the character of a digit: 0 to 9, then capital letters
unfoldable pub digit : ℕ → ℕ
digit d = cond (ltb d 10) (48 + d) (55 + d)

-- the last w digits of x to a base, as characters
unfoldable pub digits : ℕ → ℕ → ℕ → List ℕ
digits base zero x = []
digits base (suc w) x = digits base w (x / base) ++ (digit (x % base) ∷ [])

-- how many decimal digits a number below 10^f has
unfoldable pub width_in : ℕ → ℕ → ℕ
width_in zero x = 0
width_in (suc f) x = cond (ltb x 10) 1 (suc (width_in f (x / 10)))

-- a 64-bit number in decimal, and in "16 capital hexadecimal digits"
unfoldable pub decimal : ℕ → List ℕ
decimal x = digits 10 (width_in 20 x) x

unfoldable pub hexadecimal : ℕ → List ℕ
hexadecimal x = digits 16 16 x

-- a number at the right end of a column w wide: "blanks on the left of numbers"
unfoldable pub column : ℕ → ℕ → List ℕ
column w x = replicate (w - length (decimal x)) 32 ++ decimal x

-- ---- the lines

-- a text and a number
unfoldable pub labelled : List ℕ → ℕ → List ℕ
labelled text x = text ++ decimal x

-- `n 2 lower 1 upper 1 products 1`
unfoldable pub counts_line : ℕ → Counts → List ℕ
counts_line n c =
    labelled (110 ∷ 32 ∷ []) n ++ labelled (32 ∷ 108 ∷ 111 ∷ 119 ∷ 101 ∷ 114 ∷ 32 ∷ []) c.lower ++ labelled (32 ∷ 117 ∷ 112 ∷ 112 ∷ 101 ∷ 114 ∷ 32 ∷ []) c.upper
    ++ labelled (32 ∷ 112 ∷ 114 ∷ 111 ∷ 100 ∷ 117 ∷ 99 ∷ 116 ∷ 115 ∷ 32 ∷ []) c.products ++ (10 ∷ [])

-- a blank, the bits, the line's end
unfoldable pub bits_end : ℕ → List ℕ
bits_end bits = (32 ∷ []) ++ hexadecimal bits ++ (10 ∷ [])

-- `x 0 3FF0000000000000`
unfoldable pub value_line : ℕ → ℕ → List ℕ
value_line j bits = labelled (120 ∷ 32 ∷ []) j ++ bits_end bits

-- `refused 12 0`
unfoldable pub refused_line : ℕ → ℕ → List ℕ
refused_line q k = labelled (114 ∷ 101 ∷ 102 ∷ 117 ∷ 115 ∷ 101 ∷ 100 ∷ 32 ∷ []) q ++ labelled (32 ∷ []) k ++ (10 ∷ [])

-- `too large`
unfoldable pub too_large_line : List ℕ
too_large_line = 116 ∷ 111 ∷ 111 ∷ 32 ∷ 108 ∷ 97 ∷ 114 ∷ 103 ∷ 101 ∷ 10 ∷ []
