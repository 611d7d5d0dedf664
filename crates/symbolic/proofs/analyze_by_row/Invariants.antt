use Rattle.symbolic.specs.Pass.{At}
use Rattle.base.specs.declared.Form.TheVariants.{ByRow}
use Rattle.matrix.specs.Input.{lent_pattern}
use mathlib.Core.List.{[]}
use Rattle.symbolic.proofs.analyze_by_row.Given as goal

abbrev pub invariant-loop-k : goal.invariant-loop-k
invariant-loop-k l = At ByRow (lent_pattern l.input) [] 0 l.initial.upper_index l.upper_values l.k [] [] [] l.upper_starts l.upper_runs l.upper_index l.marks l.g
