use Rattle.marks.specs.BlockLaws.{Filled}
use Rattle.marks.proofs.gather_block.Given as goal

abbrev pub invariant-loop-q : goal.invariant-loop-q
invariant-loop-q l = Filled l.stamp l.initial.marks l.from l.at l.had l.marks l.count l.q
