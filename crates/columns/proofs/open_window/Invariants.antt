use Rattle.columns.proofs.WindowLaws.{Opening}
use Rattle.columns.proofs.open_window.Given as goal

abbrev pub invariant-loop-hi : goal.invariant-loop-hi
invariant-loop-hi l = Opening l.n l.lo l.hi l.left l.initial.marks l.marks
