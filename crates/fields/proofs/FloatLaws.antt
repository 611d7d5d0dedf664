-- A binary64 number and its bits, where a NaN may stand.
use mathlib.Core.Path.{◌≡◌, refl, sym, subst, ◌∙◌}
use mathlib.Core.Bool.{Bool, true, false, not}
use Prim.Native.Nat.{ℕ, ◌<◌, ◌≤◌, ◌%◌}
use lib.Dec.{T}
use lib.Ieee.{Float, nan, inf, fin, binary64, ne, is_nan, nan_bits, of_bits, to_bits}
use lib.Ieee.Compare.{differs_from_itself}
use lib.Ieee.Bits.{nan_bits_is, nan_bits_above}
use Rattle.fields.specs.Payload.{quiet}
use borrow.Author.Tests.{lt-ltb, le-ltb}

is_true : (b : Bool) → b ≡ true → T b
is_true true e = tt
is_true false e = subst T (sym e) tt

pub ne-nan : (x : Float) → ne x x ≡ true → x ≡ nan
ne-nan x e = differs_from_itself x (is_true (ne x x) e)

pub no_nan : (x : Float) → ne x x ≡ false → T (not (is_nan x))
unfolding ne is_nan
no_nan nan e = subst T e tt
no_nan (inf s) e = tt
no_nan (fin s m e) h = tt

pub nan-from : (x : Float) → is_nan x ≡ true → x ≡ nan
unfolding is_nan
nan-from nan e = refl
nan-from (inf s) e = absurd (subst T (sym e) tt)
nan-from (fin s m d) e = absurd (subst T (sym e) tt)

-- a pattern above an infinity's, the sign's bit dropped, is a NaN's, and no other is
pub above-nan : (n : ℕ) → 0x7FF0_0000_0000_0000 < n % 0x8000_0000_0000_0000 → of_bits binary64 n ≡ nan
above-nan n h = nan-from (of_bits binary64 n) (sym (nan_bits_is binary64 n) ∙ (nan_bits_above binary64 n ∙ lt-ltb _ _ h))

pub not-above : (n : ℕ) → n % 0x8000_0000_0000_0000 ≤ 0x7FF0_0000_0000_0000 → nan_bits binary64 n ≡ false
not-above n h = nan_bits_above binary64 n ∙ le-ltb _ _ h

pub to_bits_nan : to_bits binary64 nan ≡ quiet
unfolding to_bits
to_bits_nan = refl
