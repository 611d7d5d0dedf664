use Rattle.lent.specs.Reading.{order_of, placed}
use Rattle.columns.specs.Columns.{Offered}
use lib.ListN.{take}
use Rattle.columns.proofs.offer_row.Given as goal

abbrev pub invariant-loop-column : goal.invariant-loop-column
invariant-loop-column l = Offered l.n l.lo l.hi l.i (take l.column-index (placed (order_of l.n l.initial.marks) l.cols)) l.initial.marks l.marks l.used l.p
