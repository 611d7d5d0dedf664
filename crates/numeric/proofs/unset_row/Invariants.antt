use Rattle.numeric.specs.Stores.{set_all}
use Rattle.lent.specs.Reading.{order_of, placed}
use lib.ListN.{drop}
use lib.Ieee.{nan}
use mathlib.Core.Path.{◌≡◌}
use Rattle.numeric.proofs.unset_row.Given as goal

abbrev pub invariant-loop-p : goal.invariant-loop-p
invariant-loop-p l = set_all nan (placed (order_of l.n l.marks) (drop l.p l.columns)) l.w ≡ set_all nan (placed (order_of l.n l.marks) l.columns) l.initial.w
