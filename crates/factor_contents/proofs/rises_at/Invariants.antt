use mathlib.Core.Path.{◌≡◌}
use lib.ListN.{drop}
use Rattle.fields.specs.Payload.{fields_at}
use Rattle.outcome.specs.Resolve.{rises_in}
use Rattle.factor_contents.proofs.rises_at.Given as goal

abbrev pub invariant-loop-i : goal.invariant-loop-i
invariant-loop-i l = rises_in l.least l.to (drop l.i (fields_at 2 l.file l.at l.count)) ≡ rises_in l.from l.to (fields_at 2 l.file l.at l.count)
