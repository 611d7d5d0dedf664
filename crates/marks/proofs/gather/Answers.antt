use Rattle.marks.specs.BlockLaws.{filled-start, filled_more, filled-skip}
use native.Mathlib.Omega.{arith}
use Rattle.marks.proofs.gather.Goals as goal

pub loop-j-preserved-then-marks-n : goal.loop-j-preserved-then-marks-n
loop-j-preserved-then-marks-n c =
    let f = c.loop-j.invariant.1 in
    (omega arith, filled_more _ _ _ _ _ _ _ _ f _ _ _ (omega arith) (omega arith) c.gather_block-count.ensures.0 c.gather_block-count.ensures.1)

pub loop-j-preserved : goal.loop-j-preserved
loop-j-preserved c =
    let r = c.next_block-j.ensures in
    (r.within, filled-skip _ _ _ _ _ _ _ _ c.loop-j.invariant.1 c.args.n _ _ c.requires.blocks (omega arith) c.requires.bounds.1 r)

pub loop-j-init : goal.loop-j-init
loop-j-init c = (omega arith, filled-start _ _ _ _ _)
