use Rattle.fields.proofs.FieldLaws.{Values}
use Rattle.fields.proofs.read_as.Given as goal

abbrev pub invariant-loop-x : goal.invariant-loop-x
invariant-loop-x g l = Values g.row.WIDTH g.T.FieldAs.value_of l.file l.at l.out l.p l.x-index
