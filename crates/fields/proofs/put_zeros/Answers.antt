use Rattle.std.proofs.Common.{arith}
use Rattle.fields.proofs.PutLaws.{zero-start, zero_more, zero-end}
use Rattle.fields.proofs.put_zeros.Goals as goal

pub loop-p-init : goal.loop-p-init
loop-p-init c = zero-start _ _

pub loop-p-preserved : goal.loop-p-preserved
loop-p-preserved c = let s = c.put_number in zero_more _ _ _ _ _ _ (omega arith) s.ensures.0 s.ensures.1 c.loop-p.invariant

pub returns : goal.returns
returns c = zero-end _ c.args.from _ c.loop-p.p (omega arith) c.loop-p.invariant
