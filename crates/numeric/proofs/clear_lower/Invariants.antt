use Rattle.numeric.specs.Stores.{zeroed}
use lib.ListN.{drop}
use mathlib.Core.Path.{◌≡◌}
use Rattle.numeric.proofs.clear_lower.Given as goal

abbrev pub invariant-loop-i : goal.invariant-loop-i
invariant-loop-i l = zeroed (drop l.i-index l.places) l.w ≡ zeroed l.places l.initial.w
