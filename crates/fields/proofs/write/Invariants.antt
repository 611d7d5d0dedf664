use Rattle.std.proofs.Common.{map}
use Rattle.fields.proofs.PutLaws.{Writing}
use Rattle.fields.proofs.write.Given as goal

abbrev pub invariant-loop-x : goal.invariant-loop-x
invariant-loop-x g l = Writing g.T.Field.WIDTH l.initial.file l.at (map g.T.Field.number_of l.src) l.file l.p l.x-index
