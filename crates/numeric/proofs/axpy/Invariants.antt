use Rattle.arithmetic.specs.Stopping.{any, subtract}
use lib.ListN.{drop}
use mathlib.Core.Path.{◌≡◌}
use Rattle.numeric.proofs.axpy.Given as goal

abbrev pub invariant-loop-p : goal.invariant-loop-p
invariant-loop-p l = subtract any l.m (drop l.p l.columns) (drop l.p l.u) l.w ≡ subtract any l.m l.columns l.u l.initial.w
