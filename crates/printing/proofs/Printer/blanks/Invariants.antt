use Rattle.std.proofs.Common.{replicate}
use Rattle.printing.specs.Prints.{Prints}
use Rattle.printing.proofs.Printer.blanks.Given as goal

abbrev pub invariant-loop : goal.invariant-loop
invariant-loop l = Prints (replicate l.counter 32) l.initial.self l.self
