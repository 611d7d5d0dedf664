use Rattle.printing.proofs.Laws.{digits-length}
use Rattle.printing.specs.Print.{decimal}
use native.Mathlib.Omega.{arith}
use Rattle.printing.proofs.Printer.decimal.Goals as goal

pub returns : goal.returns
unfolding decimal
returns c =
    let p = c.digits.ensures in
    let w = c.width_of in
    record { prints = rw (← w.ensures.0) p; most = omega (arith, p.written.next, w.ensures.1, digits-length 10 w.result c.args.x) }
