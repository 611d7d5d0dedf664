use Rattle.marks.specs.ListLaws.{Added}
use Rattle.marks.proofs.row_products.Given as goal

abbrev pub invariant-loop-i : goal.invariant-loop-i
invariant-loop-i l = Added l.list l.starts l.i-index l.sum
