use Rattle.std.proofs.Common.{sym, arith}
use Rattle.program.proofs.Laws.{values-start, values-more, values-end}
use Rattle.program.proofs.put_values.Goals as goal

pub loop-j-init : goal.loop-j-init
loop-j-init c = values-start _ _

pub loop-j-preserved : goal.loop-j-preserved
loop-j-preserved c =
    let w = c.value.ensures in
    values-more _ _ c.loop-j-test.true c.loop-j.invariant (rw (sym c.bits_of.ensures) w.prints) w.most

pub returns : goal.returns
returns c = values-end _ _ (omega arith) c.loop-j.invariant
