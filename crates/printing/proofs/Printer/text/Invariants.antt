use Rattle.std.proofs.Common.{take}
use Rattle.printing.specs.Prints.{Prints}
use Rattle.printing.proofs.Printer.text.Given as goal

abbrev pub invariant-loop-b : goal.invariant-loop-b
invariant-loop-b l = Prints (take l.b-index l.text) l.initial.self l.self
