-- "Blocks of 512 bytes: payload 504": the joined payloads of a file, and the numbers in them. Definitions only.
use Rattle.std.specs.Prelude.{Bool, not, List, [], ◌∷◌, map, ℕ, ◌+◌, ◌-◌, ◌*◌, ◌/◌, ◌%◌, length, get_or, eqb, Float}
use Rattle.std.specs.Float.{binary64}
use Rattle.std.specs.Float.Ieee.{of_bits, to_bits}
use Rattle.base.specs.Lists.{table}
use Rattle.base.specs.First.{first, is_at}
use Rattle.fields.specs.Numbers.{le, Part, part, Span}

-- payload byte at is byte at % 504 of block at / 504
abbrev pub place : ℕ → ℕ
place at = at / 504 * 512 + at % 504

-- how many payload bytes the whole blocks of a file hold
abbrev pub room : List ℕ → ℕ
room file = length file / 512 * 504

abbrev pub payload : List ℕ → ℕ → ℕ
payload file at = get_or file (place at) 0

-- the first n bytes of the joined payloads
abbrev pub payloads : List ℕ → ℕ → List ℕ
payloads file n = table (payload file) n

-- number k of those of w bytes that stand one after another from at on
abbrev pub field_at : ℕ → List ℕ → ℕ → ℕ → ℕ
field_at w file at k = le w (payload file) (at + w * k)

unfoldable pub fields_at : ℕ → List ℕ → ℕ → ℕ → List ℕ
fields_at w file at n = table (field_at w file at) n

-- "values (8, IEEE 754 bits)": every pattern of a NaN is the one NaN
unfoldable pub floats_at : List ℕ → ℕ → ℕ → List Float
floats_at file at n = map (of_bits binary64) (fields_at 8 file at n)

-- a number's bits; a NaN is written as this pattern
abbrev pub bits_of : List Float → List ℕ
bits_of xs = map (to_bits binary64) xs

abbrev pub quiet : ℕ
quiet = 0x7FF8_0000_0000_0000

-- parts of the given spans, one after another from at on
unfoldable pub parts_at : List ℕ → ℕ → List Span → List Part
parts_at file at [] = []
parts_at file at (s ∷ ss) = part s.width (fields_at s.width file at s.count) ∷ parts_at file (at + s.width * s.count) ss

-- "then zeros to the block's end": no payload byte from a place on differs from zero
unfoldable pub marked : List ℕ → ℕ → ℕ → Bool
marked file from i = not (eqb (payload file (from + i)) 0)

abbrev pub zero_from : List ℕ → ℕ → Bool
zero_from file from = not (is_at (first (marked file from) (room file - from)))
