use Rattle.std.proofs.Common.{ℕ}
use Rattle.std.proofs.lemmas.Grind.{replicate_next}
use Rattle.printing.specs.Prints.{then-prints}
use Rattle.printing.proofs.Printer.blanks.Goals as goal

pub loop-preserved : goal.loop-preserved
loop-preserved c = rw (replicate_next {X = ℕ} c.loop.counter 32) (then-prints c.loop.invariant c.byte.ensures)
