-- "Another right side repeats the s, y and back steps with stored L, d and u". Definitions only.
use Rattle.std.specs.Prelude.{ℕ, zero, suc, List, [], ◌∷◌, ◌++◌, get_or, replicate, Float}
use Rattle.std.specs.Float.{nan, binary64}
use Rattle.std.specs.Float.Ieee.{mul}
use Rattle.base.specs.Lists.{nought}
use Rattle.arithmetic.specs.Arith.{Run, give, ◌▸◌, op, Given, rest_run, back_run}

-- stored factors by place: lower row k with its L, d, and T with its u; and the right side
pub record Factors : Type 0 where
  pub n : ℕ
  pub lower : ℕ → List (ℕ × Float)
  pub d : ℕ → Float
  pub upper : ℕ → List ℕ
  pub u : ℕ → List Float
  pub rhs : ℕ → Float

-- "s = s − m·y(i)" along lower row k, "y(k) = s·d(k)"
unfoldable pub y_run : Factors → List Float → ℕ → Run Float
unfolding rest_run
y_run F ys k = rest_run k (F.rhs k) (F.lower k) ys ▸ λ s. op k (mul binary64 s (F.d k))

-- y of places k, k + 1, .., as many as f
unfoldable pub again_run : Factors → ℕ → ℕ → List Float → Run (List Float)
unfolding y_run
again_run F zero k ys = give ys
again_run F (suc f) k ys = y_run F ys k ▸ λ y. again_run F f (suc k) (ys ++ (y ∷ []))

abbrev pub given_by : Factors → List Float → Given
given_by F ys = record { upper = F.upper; u = F.u; y = λ i. get_or ys i nan }

-- z, whose place k is x(c(k))
unfoldable pub whole_again : Factors → Run (List Float)
unfolding again_run back_run
whole_again F = again_run F F.n 0 [] ▸ λ ys. back_run (given_by F ys) F.n (replicate F.n nought)
