use Rattle.fields.specs.Payload.{payload}
use Rattle.fields.proofs.NumberLaws.{Reading}
use Rattle.fields.proofs.number_at.Given as goal

abbrev pub invariant-loop-i : goal.invariant-loop-i
invariant-loop-i l = Reading (payload l.file) l.width l.at l.i l.n
