use Rattle.blocks.proofs.SealLaws.{Sealing}
use Rattle.blocks.proofs.seal_all.Given as goal

abbrev pub invariant-loop-k : goal.invariant-loop-k
invariant-loop-k l = Sealing l.initial.file l.file l.k
