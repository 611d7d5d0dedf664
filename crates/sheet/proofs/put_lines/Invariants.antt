use Rattle.sheet.specs.Printing.{LinesWritten, line_in}
use Rattle.sheet.proofs.put_lines.Given as goal

abbrev pub invariant-loop-j : goal.invariant-loop-j
invariant-loop-j l = LinesWritten l.n (line_in l.r l.lower l.starts l.runs) l.first l.j l.initial.printer l.printer
