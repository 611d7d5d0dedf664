use Rattle.std.proofs.Common.{ap, arith}
use mathlib.Core.Bool.{not}
use Rattle.base.specs.FirstLaws.{first-zero, scan-hit, scan-more, first-end}
use Rattle.blocks.proofs.CheckLaws.{wrong-from}
use Rattle.blocks.proofs.first_wrong.Goals as goal

pub loop-k-init : goal.loop-k-init
loop-k-init c = first-zero _

pub returns-then-not-right_block : goal.returns-then-not-right_block
returns-then-not-right_block c = scan-hit _ _ _ _ c.loop-k-test.true c.loop-k.invariant (wrong-from _ _ _ c.right_block.ensures) (ap not c.if-not-right_block.true)

pub loop-k-preserved : goal.loop-k-preserved
loop-k-preserved c = scan-more _ _ _ c.loop-k.invariant (wrong-from _ _ _ c.right_block.ensures) (ap not c.if-not-right_block.false)

pub returns : goal.returns
returns c = first-end _ _ _ c.loop-k-test.false (omega arith) c.loop-k.invariant
