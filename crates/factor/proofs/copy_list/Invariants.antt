use mathlib.Core.Path.{◌≡◌}
use Prim.Native.Nat.{◌+◌}
use lib.ListN.{drop}
use lib.Seq.{sets}
use Rattle.factor.proofs.copy_list.Given as goal

abbrev pub invariant-loop-p : goal.invariant-loop-p
invariant-loop-p l = sets l.marks (l.at + l.p) (drop l.p l.list) ≡ sets l.initial.marks l.at l.list
