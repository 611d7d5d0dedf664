-- The tests of finiteness that the code makes, once a row.
use Rattle.std.specs.Prelude.{ℕ, Bool, true, cond, ◌&&◌, List, [], ◌∷◌, ◌++◌, get_or, Float}
use Rattle.std.specs.Float.{nan, binary64}
use Rattle.std.specs.Float.Ieee.{mul}
use Rattle.std.specs.Float.Ieee.Scale.{finite}
use Rattle.arithmetic.specs.Arith.{Out, ok, met, overflow, Work, Row}
use Rattle.arithmetic.specs.Stopping.{◌>>=◌, finish, at}

-- the test at a row's end: the sum, and the listed slots
abbrev pub finite_on : List ℕ → List Float → Bool
finite_on [] w = true
finite_on (j ∷ js) w = finite (get_or w j nan) && finite_on js w

abbrev pub quiet : ℕ → List ℕ → Work → Out Work
quiet k P a = cond (finite a.s && finite_on P a.w) (ok a) (met (overflow k))

abbrev pub finite_all : List Float → Bool
finite_all [] = true
finite_all (u ∷ us) = finite u && finite_all us

-- the products themselves
abbrev pub products : Float → List Float → List ℕ → List Float
products d w [] = []
products d w (j ∷ js) = mul binary64 (get_or w j nan) d ∷ products d w js

-- a row from the end of step 2 on: one test of its filled places, and step 3
abbrev pub row_end : ℕ → Float → List ℕ → List ℕ → Work → Out Row
row_end k f lower above a = quiet k (lower ++ k ∷ above) a >>= finish (at k) k f above
