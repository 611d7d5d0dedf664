-- "All fields little-endian": a number as bytes, least first, at any width; lists of numbers, and parts of a file one after another. Definitions only.
use Rattle.std.specs.Prelude.{List, [], ◌∷◌, ◌++◌, ℕ, zero, suc, ◌+◌, ◌*◌, ◌/◌, ◌%◌, length}

-- the number in the w bytes that f holds from at
unfoldable pub le : ℕ → (ℕ → ℕ) → ℕ → ℕ
le zero f at = 0
le (suc w) f at = f at + 256 * le w f (at + 1)

-- the w bytes of n
unfoldable pub bytes : ℕ → ℕ → List ℕ
bytes zero n = []
bytes (suc w) n = n % 256 ∷ bytes w (n / 256)

-- the bytes of numbers of one width
unfoldable pub fields : ℕ → List ℕ → List ℕ
fields w [] = []
fields w (x ∷ xs) = bytes w x ++ fields w xs

-- a part of a file: numbers of one width
pub record Part : Type 0 where
  pub width : ℕ
  pub numbers : List ℕ

abbrev pub part : ℕ → List ℕ → Part
part w xs = record { width = w; numbers = xs }

-- the bytes of the parts, one part after another
unfoldable pub stream : List Part → List ℕ
stream [] = []
stream (p ∷ ps) = fields p.width p.numbers ++ stream ps

-- the room that a part takes: a width, and how many numbers of it
pub record Span : Type 0 where
  pub width : ℕ
  pub count : ℕ

abbrev pub span : ℕ → ℕ → Span
span w c = record { width = w; count = c }

abbrev pub spans_of : List Part → List Span
spans_of [] = []
spans_of (p ∷ ps) = span p.width (length p.numbers) ∷ spans_of ps

-- the bytes that parts of these spans take
unfoldable pub extent : List Span → ℕ
extent [] = 0
extent (s ∷ ss) = s.width * s.count + extent ss
