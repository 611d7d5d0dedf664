use mathlib.Core.List.{[]}
use Rattle.base.specs.TableLaws.{Filling}
use Rattle.matrix.specs.Input.{input_of, right_at}
use Rattle.substitution.proofs.load_right.Given as goal

abbrev pub invariant-loop-k : goal.invariant-loop-k
invariant-loop-k l = Filling (right_at (input_of l.n [] [] [] l.r [] l.b)) l.n l.sums l.k
