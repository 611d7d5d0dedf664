use mathlib.Core.Path.{◌∙◌}
use native.Mathlib.Omega.{arith}
use Rattle.report.proofs.Laws.{slots-turn, slots-end}
use Rattle.report.proofs.put_told.Goals as goal

pub loop-i-init : goal.loop-i-init
loop-i-init g c = rw (c.put.ensures, c.place.ensures)

pub loop-i-preserved : goal.loop-i-preserved
loop-i-preserved g c = rw c.put-in-loop-i.ensures (slots-turn c.loop-i.report _ c.loop-i.i (omega arith)) ∙ c.loop-i.invariant

pub returns : goal.returns
returns g c = record { value = c.number.ensures; report_after = slots-end c.loop-i.report _ c.loop-i.i (omega arith) ∙ c.loop-i.invariant }
