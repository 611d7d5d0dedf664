use Rattle.std.proofs.Common.{◌≡◌}
use Rattle.std.proofs.lemmas.List.Edits.{sets}
use Rattle.printing.specs.Print.{digits}
use Rattle.printing.proofs.Printer.digits.Given as goal

abbrev pub invariant-loop-i : goal.invariant-loop-i
invariant-loop-i l = sets l.out l.at (digits l.base l.i l.rest) ≡ sets l.initial.out l.at (digits l.base l.width l.x)
