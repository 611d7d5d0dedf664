use Rattle.printing.specs.Prints.{then-prints}
use Rattle.printing.specs.Print.{refused_line}
use native.Mathlib.Omega.{arith}
use Rattle.printing.proofs.Printer.refused.Goals as goal

pub returns : goal.returns
unfolding refused_line
returns c =
    let a = c.labelled.ensures in
    let b = c.labelled-2.ensures in
    let d = c.text.ensures in
    record { prints = rw (← c.from.ensures, ← c.from-2.ensures) (then-prints (then-prints a.prints b.prints) d); most = omega (arith, a.most, b.most, d.written.next) }
