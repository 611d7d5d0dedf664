use Rattle.std.proofs.Common.{◌+◌, ◌-◌}
use Rattle.fields.proofs.NumberLaws.{read-start, read_more, read-room, read-end}
use native.Mathlib.Omega.{arith}
use Rattle.blocks.proofs.number_in.Goals as goal

pub loop-i-init : goal.loop-i-init
loop-i-init c = read-start _ _ _

pub overflow_mul-n : goal.overflow_mul-n
overflow_mul-n c = omega (arith, read-room _ _ _ _ _ c.loop-i-test.true c.requires.0 c.loop-i.invariant)

pub overflow_add-n : goal.overflow_add-n
overflow_add-n c = omega (arith, read-room _ _ _ _ _ c.loop-i-test.true c.requires.0 c.loop-i.invariant)

pub loop-i-preserved : goal.loop-i-preserved
loop-i-preserved c = read_more _ _ _ _ _ _ c.loop-i-test.true c.loop-i.invariant c.from.ensures (omega (arith, c.from.ensures, c.type_inv.file (c.args.from + (c.args.at + (c.loop-i.i - 1)))))

pub returns : goal.returns
returns c = read-end _ _ _ _ _ (omega arith) c.loop-i.invariant
