use Rattle.residual.proofs.Turns.{Going}
use Rattle.residual.proofs.sum_up.Given as goal

abbrev pub invariant-loop-p : goal.invariant-loop-p
invariant-loop-p l = Going l.columns l.values l.x l.b l.residual l.total l.p
