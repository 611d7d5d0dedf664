use Rattle.std.proofs.Common.{ap}
use mathlib.Core.Bool.{not}
use Rattle.blocks.proofs.FileLaws.{asked-16, block-fits, asked-17, asked-pass}
use Rattle.blocks.proofs.ask_blocks.Goals as goal

pub returns-then-not-n : goal.returns-then-not-n
returns-then-not-n c = asked-16 _ (ap not c.if-not-n.true)

pub overflow_cast-result : goal.overflow_cast-result
overflow_cast-result c = record { fits = block-fits _ _ (ap not c.if-not-n.false) c.first_wrong-wrong.ensures _ c.in-Some.is }

pub returns-in-Some : goal.returns-in-Some
returns-in-Some c = asked-17 _ _ (ap not c.if-not-n.false) c.first_wrong-wrong.ensures _ c.in-Some.is

pub returns-in-None : goal.returns-in-None
returns-in-None c = asked-pass _ _ (ap not c.if-not-n.false) c.first_wrong-wrong.ensures c.in-None.is
