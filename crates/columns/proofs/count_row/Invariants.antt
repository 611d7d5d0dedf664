use Rattle.columns.specs.Columns.{Counted}
use Rattle.lent.specs.Reading.{order_of, placed}
use lib.ListN.{take}
use Rattle.columns.proofs.count_row.Given as goal

abbrev pub invariant-loop-column : goal.invariant-loop-column
invariant-loop-column l = Counted l.n l.i (take l.column-index (placed (order_of l.n l.initial.marks) l.cols)) l.initial.marks l.marks
