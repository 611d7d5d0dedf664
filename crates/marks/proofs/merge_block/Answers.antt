use Rattle.marks.specs.MergeLaws.{along-miss, along-hit, listed-parts, room-set}
use mathlib.Core.Path.{◌∙◌}
use native.Mathlib.Omega.{arith}
use Rattle.marks.proofs.merge_block.Goals as goal
use Rattle.marks.proofs.merge_block.Goals.{then-marks-i, else-marks-i}

pub merge_run-requires : goal.merge_run-requires
merge_run-requires c =
    let b = c.requires.bounds.3 in
    let p = listed-parts c.args.n _ _ _ _ _ _ _ c.args.end c.requires.bounds.2 c.loop-i.marks c.loop-i.i c.loop-i.count (omega arith) c.loop-i.invariant b in
    record { room = (room-set _ c.loop-i.marks _ _ c.loop-i.invariant.room, b, p.read c.loop-i.i (omega arith)); below = p.below c.loop-i.i (omega arith) }

pub loop-i-preserved : goal.loop-i-preserved
loop-i-preserved c =
    let b = c.requires.bounds in
    elim c.if-marks-i.branch [
      | then-marks-i w ↦ along-hit c.args.n _ _ _ _ _ _ _ _ b.2 c.loop-i.marks c.loop-i.i c.loop-i.count (omega arith) c.loop-i.invariant b.3 _ _ (w.marks-is ∙ w.merge_run.ensures) w.count-is w.if-marks-i.true
      | else-marks-i w ↦ along-miss c.args.n _ _ _ _ _ _ _ _ b.2 c.loop-i.marks c.loop-i.i c.loop-i.count (omega arith) c.loop-i.invariant _ _ w.marks-is w.count-is w.if-marks-i.false
    ]
