use mathlib.Core.Path.{◌≡◌}
use lib.ListN.{drop}
use Rattle.outcome.specs.Resolve.{rises_in}
use Rattle.factors.proofs.rises_in.Given as goal

abbrev pub invariant-loop-place : goal.invariant-loop-place
invariant-loop-place l = rises_in l.least l.to (drop l.place-index l.list) ≡ rises_in l.from l.to l.list
