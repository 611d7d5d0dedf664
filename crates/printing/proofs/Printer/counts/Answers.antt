use Rattle.printing.specs.Prints.{then-prints}
use Rattle.printing.specs.Print.{counts_line}
use native.Mathlib.Omega.{arith}
use Rattle.printing.proofs.Printer.counts.Goals as goal

pub returns : goal.returns
unfolding counts_line
returns c =
    let a = c.labelled.ensures in
    let b = c.labelled-2.ensures in
    let d = c.labelled-3.ensures in
    let e = c.labelled-4.ensures in
    let f = c.text.ensures in
    record {
      prints = then-prints (then-prints (then-prints (then-prints a.prints b.prints) d.prints) e.prints) f;
      most = omega (arith, a.most, b.most, d.most, e.most, f.written.next);
    }
