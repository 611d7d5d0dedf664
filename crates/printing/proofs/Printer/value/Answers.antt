use Rattle.printing.specs.Prints.{then-prints}
use Rattle.printing.specs.Print.{value_line}
use Rattle.printing.proofs.Laws.{bits-length}
use native.Mathlib.Omega.{arith}
use Rattle.printing.proofs.Printer.value.Goals as goal

pub returns : goal.returns
unfolding value_line
returns c =
    let a = c.labelled.ensures in
    let b = c.bits.ensures in
    record { prints = then-prints a.prints b; most = omega (arith, a.most, b.written.next, bits-length c.args.bits) }
