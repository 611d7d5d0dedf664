use Rattle.questions.specs.MarkingLaws.{Marking}
use Rattle.questions.proofs.first_fault.Given as goal

abbrev pub invariant-loop-p : goal.invariant-loop-p
invariant-loop-p l = Marking l.n l.list l.initial.marks l.marks l.p
