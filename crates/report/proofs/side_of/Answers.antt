use Rattle.report.proofs.Laws.{side-lower, side-upper}
use Rattle.report.proofs.side_of.Goals as goal

pub returns-then-side-eq0 : goal.returns-then-side-eq0
returns-then-side-eq0 c = side-lower _ c.if-side-eq0.true

pub returns-else-side-eq0 : goal.returns-else-side-eq0
returns-else-side-eq0 c = side-upper _ c.if-side-eq0.false
