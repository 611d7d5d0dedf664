use Rattle.std.proofs.Common.{add-one}
use Rattle.std.proofs.Math.Seq.{take-suc}
use Rattle.printing.specs.Prints.{then-prints}
use Rattle.printing.proofs.Printer.text.Goals as goal

pub loop-b-preserved : goal.loop-b-preserved
loop-b-preserved c = rw (add-one, take-suc c.args.text.now c.loop-b.b-index 0 c.loop-b-test.true) (then-prints c.loop-b.invariant c.byte.ensures)
