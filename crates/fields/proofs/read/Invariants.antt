use Rattle.fields.proofs.FieldLaws.{Values}
use Rattle.fields.proofs.read.Given as goal

abbrev pub invariant-loop-x : goal.invariant-loop-x
invariant-loop-x g l = Values g.T.Field.WIDTH g.T.Field.value_of l.file l.at l.out l.p l.x-index
