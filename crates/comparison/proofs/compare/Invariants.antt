use Rattle.comparison.specs.Comparing.{MetIn}
use Rattle.comparison.proofs.compare.Given as goal

abbrev pub invariant-loop-k : goal.invariant-loop-k
invariant-loop-k l = MetIn l.way l.input l.input.c.now l.lower l.upper l.k l.marks l.g
