use Rattle.factor.proofs.Spreads.{Spreading}
use Rattle.factor.proofs.keep_shared.Given as goal

abbrev pub invariant-loop-p : goal.invariant-loop-p
invariant-loop-p l = Spreading l.n l.below l.lower_starts l.w l.initial.marks l.initial.lower_values l.marks l.lower_values l.p
