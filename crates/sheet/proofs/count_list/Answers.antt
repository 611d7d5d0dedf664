use Rattle.std.proofs.Common.{arith}
use Rattle.sheet.proofs.CountLaws.{tally-start, tally-end, read_small, read-turn}
use Rattle.sheet.proofs.count_list.Goals as goal

pub loop-i-init : goal.loop-i-init
loop-i-init c = tally-start _ _

pub overflow_add-counts : goal.overflow_add-counts
overflow_add-counts c = record { fits = omega (arith, read_small _ _ c.requires _ c.loop-i-test.true _ c.loop-i.invariant _ c.wide.ensures.0) }

pub loop-i-preserved : goal.loop-i-preserved
loop-i-preserved c = read-turn _ _ c.requires _ c.loop-i-test.true _ c.loop-i.invariant _ c.wide.ensures.0

pub returns : goal.returns
returns c = tally-end _ _ _ _ c.loop-i-test.false c.loop-i.invariant
