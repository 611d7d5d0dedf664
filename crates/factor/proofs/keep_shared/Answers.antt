use Rattle.factor.proofs.Spreads.{spreading-start, spreading-more, spreading-end, column-in, cursor-few, slot-in}
use native.Mathlib.Omega.{arith}
use Rattle.factor.proofs.keep_shared.Goals as goal

pub overflow_mul-cursors : goal.overflow_mul-cursors
overflow_mul-cursors c = omega (arith, c.requires.1.lower.few)

pub overflow_mul-lower : goal.overflow_mul-lower
overflow_mul-lower c = omega (arith, c.requires.1.lower.few)

pub loop-p-init : goal.loop-p-init
loop-p-init c = spreading-start _ _ _ _ _ _

pub bounds-marks-lower : goal.bounds-marks-lower
bounds-marks-lower c = omega (arith, c.requires.1.lower.room, c.loop-p.invariant.size, c.loop-p-test.true)

pub overflow_add-used : goal.overflow_add-used
overflow_add-used c = omega (arith, c.requires.1.lower.few, c.slot-i.ensures.1)

pub offset_bounds-marks-cursors : goal.offset_bounds-marks-cursors
offset_bounds-marks-cursors c = omega (arith, c.requires.1.lower.few, c.slot-i.ensures.1)

pub bounds-marks-cursors : goal.bounds-marks-cursors
bounds-marks-cursors c = omega (arith, c.requires.1.lower.room, c.loop-p.invariant.size, column-in c.requires.1 c.loop-p.invariant c.loop-p-test.true _ c.slot-i.ensures.0)

pub bounds-lower_starts-i : goal.bounds-lower_starts-i
bounds-lower_starts-i c = omega (arith, c.requires.1.start, column-in c.requires.1 c.loop-p.invariant c.loop-p-test.true _ c.slot-i.ensures.0)

pub bounds-w-i : goal.bounds-w-i
bounds-w-i c = omega (arith, c.requires.0, column-in c.requires.1 c.loop-p.invariant c.loop-p-test.true _ c.slot-i.ensures.0)

pub overflow_add-lower_values : goal.overflow_add-lower_values
overflow_add-lower_values c = omega (arith, c.slot.ensures.1, c.slot-start.ensures.1)

pub bounds-lower_values-start : goal.bounds-lower_values-start
bounds-lower_values-start c = slot-in c.requires.1 c.loop-p.invariant c.loop-p-test.true _ c.slot-i.ensures.0 _ _ c.slot-start.ensures.0 c.slot.ensures.0

pub overflow_add-marks : goal.overflow_add-marks
overflow_add-marks c = omega (arith, cursor-few c.requires.1 c.loop-p.invariant c.loop-p-test.true _ c.slot-i.ensures.0)

pub overflow_add-marks-in-loop-p : goal.overflow_add-marks-in-loop-p
overflow_add-marks-in-loop-p c = omega (arith, c.requires.1.lower.few, c.slot-i.ensures.1)

pub offset_bounds-marks-cursors-in-loop-p : goal.offset_bounds-marks-cursors-in-loop-p
offset_bounds-marks-cursors-in-loop-p c = omega (arith, c.requires.1.lower.few, c.slot-i.ensures.1)

pub bounds-marks-cursors-in-loop-p : goal.bounds-marks-cursors-in-loop-p
bounds-marks-cursors-in-loop-p c = omega (arith, c.requires.1.lower.room, c.loop-p.invariant.size, column-in c.requires.1 c.loop-p.invariant c.loop-p-test.true _ c.slot-i.ensures.0)

pub loop-p-preserved : goal.loop-p-preserved
loop-p-preserved c = spreading-more c.requires.1 c.loop-p.invariant c.loop-p-test.true _ c.slot-i.ensures.0 _ _ c.slot-start.ensures.0 c.slot.ensures.0

pub returns : goal.returns
returns c = spreading-end c.loop-p.invariant c.requires.1.lower c.loop-p-test.false
