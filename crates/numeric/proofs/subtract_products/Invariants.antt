use Rattle.arithmetic.specs.Stopping.{any, rest}
use lib.ListN.{drop}
use mathlib.Core.Path.{◌≡◌}
use Rattle.numeric.proofs.subtract_products.Given as goal

abbrev pub invariant-loop-p : goal.invariant-loop-p
invariant-loop-p l = rest any l.s (drop l.p l.places) (drop l.p l.factors) l.z ≡ rest any l.t l.places l.factors l.z
