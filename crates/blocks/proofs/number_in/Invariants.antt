use Rattle.blocks.specs.Blocks.{byte_from}
use Rattle.fields.proofs.NumberLaws.{Reading}
use Rattle.blocks.proofs.number_in.Given as goal

abbrev pub invariant-loop-i : goal.invariant-loop-i
invariant-loop-i l = Reading (byte_from l.file l.from) l.width l.at l.i l.n
