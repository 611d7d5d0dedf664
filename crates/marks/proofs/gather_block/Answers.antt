use Rattle.marks.specs.BlockLaws.{filled-start, filled-hit, filled-miss}
use native.Mathlib.Omega.{arith}
use Rattle.marks.proofs.gather_block.Goals as goal
use Rattle.marks.proofs.gather_block.Goals.{then-marks-q, else-marks-q}

pub loop-q-init : goal.loop-q-init
loop-q-init c = filled-start _ _ _ _ _

pub loop-q-preserved : goal.loop-q-preserved
loop-q-preserved c =
    let f = c.loop-q.invariant in
    elim c.if-marks-q.branch [
      | then-marks-q w ↦ filled-hit _ _ _ _ _ _ _ _ f _ _ (omega arith) w.if-marks-q.true w.marks-is w.count-is
      | else-marks-q w ↦ filled-miss _ _ _ _ _ _ _ _ f _ _ (omega arith) w.if-marks-q.false w.marks-is w.count-is
    ]
