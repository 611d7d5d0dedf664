use Rattle.columns.proofs.ListLaws.{leads-none, leads-node}
use native.Mathlib.Omega.{arith}
use Rattle.columns.proofs.leads_with.Goals as goal

pub returns-then-head-eq0 : goal.returns-then-head-eq0
returns-then-head-eq0 c = leads-none c.slot-head.ensures.0 c.if-head-eq0.true

pub returns : goal.returns
returns c = leads-node c.slot-head.ensures.0 (omega arith) c.slot.ensures.0
