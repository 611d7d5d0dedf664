use mathlib.Core.Path.{refl}
use native.Mathlib.Omega.{arith}
use Rattle.factor_contents.proofs.JudgingLaws.{length-beyond, length-is}
use Rattle.factor_contents.proofs.length_at.Goals as goal

pub returns-then-n-j : goal.returns-then-n-j
returns-then-n-j c = (length-beyond _ _ _ _ c.if-n-j.true, omega arith)

pub returns-then-hi-lo : goal.returns-then-hi-lo
returns-then-hi-lo c = (length-is _ _ _ _ _ _ (omega arith) c.start_at-lo.ensures.0 c.start_at-hi.ensures.0 0 (omega arith), omega arith)

pub returns : goal.returns
returns c = (length-is _ _ _ _ _ _ (omega arith) c.start_at-lo.ensures.0 c.start_at-hi.ensures.0 _ refl, omega arith)
