use Rattle.marks.specs.MergeLaws.{Along}
use Rattle.marks.proofs.merge_block.Given as goal

abbrev pub invariant-loop-i : goal.invariant-loop-i
invariant-loop-i l = Along l.n l.stamp l.cuts l.runs l.index l.initial.marks l.from l.had l.end l.marks l.i l.count
