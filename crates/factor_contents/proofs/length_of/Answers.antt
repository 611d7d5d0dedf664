use native.Mathlib.Omega.{arith}
use Rattle.factor_contents.proofs.JudgingLaws.{length_none}
use Rattle.factor_contents.proofs.length_of.Goals as goal

pub returns-then-starts-j : goal.returns-then-starts-j
returns-then-starts-j c = (length_none c.args.starts.now c.args.j c.if-starts-j.true, omega arith)
