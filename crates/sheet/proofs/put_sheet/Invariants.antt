use Rattle.sheet.specs.Printing.{line_in}
use Rattle.sheet.proofs.Laws.{Pages}
use Rattle.sheet.proofs.put_sheet.Given as goal

abbrev pub invariant-loop-p : goal.invariant-loop-p
invariant-loop-p l = Pages l.n (line_in l.r l.lower l.starts l.runs) l.p l.initial.printer l.printer
