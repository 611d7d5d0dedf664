use Rattle.blocks.specs.Blocks.{byte_from}
use Rattle.blocks.proofs.CheckLaws.{Running}
use Rattle.blocks.proofs.checks_of.Given as goal

abbrev pub invariant-loop-x : goal.invariant-loop-x
invariant-loop-x l = Running (byte_from l.file l.from) l.x-index l.a l.b
