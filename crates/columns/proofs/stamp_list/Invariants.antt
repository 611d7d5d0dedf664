use Rattle.columns.proofs.ListLaws.{Walk}
use Rattle.columns.proofs.stamp_list.Given as goal

abbrev pub invariant-loop-h : goal.invariant-loop-h
invariant-loop-h l = Walk l.n l.stamp l.head l.h l.initial.marks l.marks

abbrev pub decreases-loop-h : goal.decreases-loop-h
decreases-loop-h l = l.h
