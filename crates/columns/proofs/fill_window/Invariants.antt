use Rattle.matrix.specs.Input.{lent_pattern}
use Rattle.columns.specs.Sides.{rows_in}
use Rattle.columns.proofs.WindowLaws.{Filling}
use Rattle.columns.proofs.fill_window.Given as goal

abbrev pub invariant-loop-k : goal.invariant-loop-k
invariant-loop-k l = Filling l.input.n l.lo l.hi l.k (rows_in (lent_pattern l.input) l.initial.marks) l.initial.marks l.marks l.p
