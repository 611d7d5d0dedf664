use Rattle.std.proofs.Common.{ap}
use mathlib.Core.Bool.{not}
use Rattle.base.specs.FirstLaws.{passed-on}
use Rattle.factor_reading.proofs.ReadLaws.{judge-stop, judge-rows, judge-lengths, judge-room, judge-done}
use Rattle.factor_reading.proofs.judge.Goals as goal

pub lengths_fit-requires : goal.lengths_fit-requires
lengths_fit-requires c = judge-rows _ 0 0 0 0 0 0 0 0 0 _ c.factor_file_shape.ensures _ c.in_ok-s.was

pub returns-then-not-lengths_fit : goal.returns-then-not-lengths_fit
returns-then-not-lengths_fit c =
    judge-lengths _ _ _ _ _ _ _ _ _ _ _ c.factor_file_shape.ensures _ c.in_ok-s.was _ c.lengths_fit.ensures (ap not c.if-not-lengths_fit.true)

pub judge_contents-requires : goal.judge_contents-requires
judge_contents-requires c =
    judge-room _ _ _ _ _ _ _ _ _ _ _ c.factor_file_shape.ensures _ c.in_ok-s.was _ c.lengths_fit.ensures (ap not c.if-not-lengths_fit.false)

pub returns-in_err-s : goal.returns-in_err-s
returns-in_err-s c = rw (passed-on _ _ c.from_residual.ensures.1) (judge-stop _ _ _ _ _ _ _ _ _ _ _ c.factor_file_shape.ensures _ c.in_err-s.was)

pub returns : goal.returns
returns c =
    judge-done _ _ _ _ _ _ _ _ _ _ _ c.factor_file_shape.ensures _ c.in_ok-s.was _ c.lengths_fit.ensures (ap not c.if-not-lengths_fit.false) _ c.judge_contents.ensures
