use mathlib.Core.Path.{refl}
use Rattle.columns.proofs.WindowLaws.{one-counted, counted-before}
use native.Mathlib.Omega.{arith}
use Rattle.columns.proofs.count_one.Goals as goal

pub returns-then-marks-n : goal.returns-then-marks-n
returns-then-marks-n c = counted-before (omega arith) c.if-marks-n.true

pub returns : goal.returns
returns c = one-counted c.requires.room (omega arith) c.if-marks-n.false refl
