use Rattle.base.specs.ZerosLaws.{filling-none, filling-more, filling-all}
use Rattle.base.proofs.clear.Goals as goal

pub loop-x-init : goal.loop-x-init
loop-x-init g c = filling-none g.T.Zero.nil _

pub loop-x-preserved : goal.loop-x-preserved
loop-x-preserved g c = rw c.zero.ensures (filling-more g.T.Zero.nil _ _ _ c.loop-x-test.true c.loop-x.invariant)

pub returns : goal.returns
returns g c = filling-all g.T.Zero.nil _ _ c.loop-x.x-index c.loop-x-test.false c.loop-x.auto.x-index-end c.loop-x.invariant
