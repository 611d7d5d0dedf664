use Rattle.printing.specs.Print.{too_large_line}
use native.Mathlib.Omega.{arith}
use Rattle.printing.proofs.Printer.too_large.Goals as goal

pub returns : goal.returns
unfolding too_large_line
returns c = let d = c.text.ensures in record { prints = d; most = omega (arith, d.written.next) }
