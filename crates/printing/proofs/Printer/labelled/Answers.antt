use Rattle.printing.specs.Prints.{then-prints}
use Rattle.printing.specs.Print.{labelled}
use native.Mathlib.Omega.{arith}
use Rattle.printing.proofs.Printer.labelled.Goals as goal

pub returns : goal.returns
unfolding labelled
returns c =
    let a = c.text.ensures in
    let b = c.decimal.ensures in
    record { prints = then-prints a b.prints; most = omega (arith, a.written.next, b.most, c.requires) }
