use Rattle.std.proofs.Common.{arith}
use Rattle.blocks.proofs.SealLaws.{seal-start, seal-more, seal-end}
use Rattle.blocks.proofs.seal_all.Goals as goal

pub loop-k-init : goal.loop-k-init
loop-k-init c = seal-start _

pub loop-k-preserved : goal.loop-k-preserved
loop-k-preserved c = seal-more _ _ _ c.loop-k.k (omega arith) c.seal_block.ensures c.loop-k.invariant

pub returns : goal.returns
returns c = seal-end _ _ c.loop-k.k (omega arith) c.loop-k.invariant
