use Rattle.program.proofs.Laws.{First}
use Rattle.program.proofs.put_values.Given as goal

abbrev pub invariant-loop-j : goal.invariant-loop-j
invariant-loop-j l = First l.x l.j l.initial.printer l.printer
