use Rattle.symbolic.specs.Pass.{At}
use Rattle.base.specs.declared.Form.TheVariants.{Shared}
use Rattle.matrix.specs.Input.{lent_pattern}
use Rattle.symbolic.proofs.analyze_shared.Given as goal

abbrev pub invariant-loop-k : goal.invariant-loop-k
invariant-loop-k l = At Shared (lent_pattern l.input) l.initial.lower_index l.lower_values l.initial.upper_index l.upper_values l.k l.lower_starts l.lower_runs l.lower_index l.upper_starts l.upper_runs l.upper_index l.marks l.g
