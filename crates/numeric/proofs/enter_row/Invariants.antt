use Rattle.numeric.specs.Stores.{entering}
use Rattle.lent.specs.Reading.{order_of, placed}
use Rattle.base.specs.Lists.{pairs}
use lib.ListN.{drop}
use mathlib.Core.Path.{◌≡◌}
use Rattle.numeric.proofs.enter_row.Given as goal

abbrev pub invariant-loop-p : goal.invariant-loop-p
invariant-loop-p l =
    entering (pairs (placed (order_of l.n l.marks) (drop l.p l.columns)) (drop l.p l.values)) l.w
    ≡ entering (pairs (placed (order_of l.n l.marks) l.columns) l.values) l.initial.w
