use Rattle.matrix.specs.Input.{lent_pattern}
use Rattle.columns.specs.Columns.{column, Tally}
use Rattle.columns.specs.Sides.{rows_in}
use Rattle.columns.proofs.count_columns.Given as goal

abbrev pub invariant-loop-k : goal.invariant-loop-k
invariant-loop-k l = Tally l.input.n (column (rows_in (lent_pattern l.input) l.initial.marks) l.k) l.initial.marks l.marks
