use Rattle.symbolic.specs.Pass.{At}
use Rattle.base.specs.declared.Form.TheVariants.{Plain}
use Rattle.matrix.specs.Input.{lent_pattern}
use Rattle.symbolic.proofs.analyze_plain.Given as goal

abbrev pub invariant-loop-k : goal.invariant-loop-k
invariant-loop-k l = At Plain (lent_pattern l.input) l.initial.lower_index l.lower_values l.initial.upper_index l.upper_values l.k l.lower_starts l.lower_starts l.lower_index l.upper_starts l.upper_starts l.upper_index l.marks l.g
