-- The exact value of a finite binary64 number, as a whole number of units: the unit of a number is 2^-1074, that of a product of two is 2^-2148.
-- Definitions only.
use Rattle.std.specs.Prelude.{ℕ, ◌+◌, ◌*◌, ◌/◌, ◌^◌, ◌≤◌, ◌≡◌, Bool, true, false, cond, Float}
use Rattle.std.specs.Float.{nan, inf, fin, binary64}
use Rattle.std.specs.Float.Ieee.{up, down, fits}
use Rattle.std.specs.Float.Ieee.Scale.{finite}

-- how many units of a product are one unit of a number
unfoldable pub unit : ℕ
unit = 2 ^ 1074

-- the size of a finite number in units of 2^-1074, and 0 for the others; of a number of the format nothing is lost in the division (Operations.own-value)
unfoldable pub ulps : Float → ℕ
unfolding unit
ulps nan = 0
ulps (inf s) = 0
ulps (fin s m e) = m * up e * unit / down e

unfoldable pub negative : Float → Bool
negative nan = false
negative (inf s) = false
negative (fin s m e) = s

-- a whole number, plus − minus
pub record Whole : Type 0 where
  pub plus : ℕ
  pub minus : ℕ

-- the size of a number above zero, and of one below
unfoldable pub over : Float → ℕ
unfolding ulps negative
over x = cond (negative x) 0 (ulps x)

unfoldable pub under : Float → ℕ
unfolding ulps negative
under x = cond (negative x) (ulps x) 0

-- a number in units of 2^-1074, and in units of 2^-2148
abbrev pub value_of : Float → Whole
value_of x = record { plus = over x; minus = under x }

abbrev pub fine : Float → Whole
fine x = record { plus = over x * unit; minus = under x * unit }

-- the exact product of two numbers, in units of 2^-2148
abbrev pub product_of : Float → Float → Whole
product_of x y = record { plus = over x * over y + under x * under y; minus = over x * under y + under x * over y }

-- |x − y| · k ≤ w
pub record Within (x y : Whole) (k w : ℕ) : Type 0 where
  pub above : (x.plus + y.minus) * k ≤ (y.plus + x.minus) * k + w
  pub below : (y.plus + x.minus) * k ≤ (x.plus + y.minus) * k + w

-- x + y and x − y
abbrev pub plus_of : Whole → Whole → Whole
plus_of x y = record { plus = x.plus + y.plus; minus = x.minus + y.minus }

abbrev pub less_of : Whole → Whole → Whole
less_of x y = record { plus = x.plus + y.minus; minus = x.minus + y.plus }

-- a finite number of the format
pub record Held (x : Float) : Type 0 where
  pub ends : finite x ≡ true
  pub fit : fits binary64 x ≡ true
