-- The code's test of a float: x - x is zero exactly where x is finite.
use mathlib.Core.Path.{◌≡◌, refl, sym, ◌∙◌}
use Prim.Native.Nat.{ℕ, ◌*◌, ◌<◌}
use native.Mathlib.Nat.{sub_self, zero-mul, mul-one, mul-pos, le_refl, eq_of_mul-eq-mul_right}
use mathlib.Core.Bool.{Bool, true, false, ◌&&◌, beq}
use borrow.Author.Tests.{le-ltb}
use lib.Dec.{lit<}
use lib.Ieee.{Float, nan, inf, fin, binary64, up, down, neg, add, sub, sum, eq, round}
use lib.Ieee.Fits.{down_pos}
use lib.Ieee.Exact.{HasValue, round_exact}
use lib.Ieee.Scale.{finite}
use Rattle.base.specs.Lists.{nought}

-- a value of size 0 equals +0
zero-eq : (x : Float) (c : ℕ) → 0 < c → HasValue x false 0 c → eq x nought ≡ true
unfolding eq
zero-eq nan c p h = absurd h
zero-eq (inf s) c p h = absurd h
zero-eq (fin t m e) c p h = rw (h.0, mul-one, zero-mul, no_size (m * up e) c p (h.1 ∙ zero-mul (down e)))
  where
    no_size : (a c : ℕ) → 0 < c → a * c ≡ 0 → a ≡ 0
    no_size a c p h = eq_of_mul-eq-mul_right c p a 0 (h ∙ sym (zero-mul c))

round-zero : (c : ℕ) → 0 < c → eq (round binary64 false 0 c) nought ≡ true
round-zero c p = zero-eq (round binary64 false 0 c) c p (round_exact binary64 false 0 c 0 0 p (lit< tt) (lit< tt) (sym (zero-mul c)))

sum-zero : (s t : Bool) (a c : ℕ) → beq s t ≡ false → 0 < c → eq (sum binary64 s a t a c) nought ≡ true
unfolding sum
sum-zero s t a c n p = rw (n, le-ltb a a (le_refl a), sub_self) (go s)
  where
    go : (s : Bool) → eq (round binary64 (s && false) 0 c) nought ≡ true
    go true = round-zero c p
    go false = round-zero c p

pub test : (x : Float) → eq (sub binary64 x x) nought ≡ finite x
unfolding sub add neg eq
test nan = refl
test (inf true) = refl
test (inf false) = refl
test (fin true m e) = sum-zero true false (m * up e * down e) (down e * down e) refl (mul-pos (down_pos e) (down_pos e))
test (fin false m e) = sum-zero false true (m * up e * down e) (down e * down e) refl (mul-pos (down_pos e) (down_pos e))
