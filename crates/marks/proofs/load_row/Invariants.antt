use Rattle.lent.specs.Reading.{order_of, placed}
use Rattle.marks.specs.MarkLaws.{Load}
use Rattle.marks.proofs.load_row.Given as goal

abbrev pub invariant-loop-column : goal.invariant-loop-column
invariant-loop-column l = Load l.n l.stamp l.column-index (placed (order_of l.n l.initial.marks) l.cols) l.initial.marks l.marks
