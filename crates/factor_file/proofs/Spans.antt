-- The spans of a factor file's parts, and its numbers where a place is spelt otherwise.
use mathlib.Core.Path.{◌≡◌, sym, ap}
use mathlib.Core.List.{List, [], ◌∷◌}
use Prim.Native.Nat.{ℕ, ◌+◌}
use native.Mathlib.Omega.{arith}
use Rattle.fields.specs.Numbers.{Span, span, extent}
use Rattle.fields.specs.Payload.{fields_at, floats_at}
use Rattle.factor_contents.specs.FactorFile.{size_of}

abbrev pub spans : ℕ → ℕ → ℕ → List Span
spans n a b =
    span 4 3 ∷ span 8 1 ∷ span 4 (n + 1) ∷ span 4 (n + 1) ∷ span 2 a ∷ span 2 b ∷ span 8 a ∷ span 8 n ∷ span 8 b ∷ span 2 n ∷ span 2 n ∷ []

pub extent-spans : (n a b : ℕ) → extent (spans n a b) ≡ size_of n a b
unfolding extent
extent-spans n a b = omega arith

-- the same numbers, where the place is spelt otherwise
pub moved : (w : ℕ) (file : List ℕ) (m at at' : ℕ) → at ≡ at' → fields_at w file at' m ≡ fields_at w file at m
moved w file m at at' e = ap (λ (p : ℕ). fields_at w file p m) (sym e)

pub moved-floats : (file : List ℕ) (m at at' : ℕ) → at ≡ at' → floats_at file at' m ≡ floats_at file at m
moved-floats file m at at' e = ap (λ (p : ℕ). floats_at file p m) (sym e)
