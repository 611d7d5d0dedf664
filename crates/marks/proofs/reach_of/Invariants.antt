use Rattle.marks.specs.Marks.{upto}
use mathlib.Core.Path.{◌≡◌}
use Prim.Native.Nat.{◌+◌}
use lib.ListN.{drop}
use Rattle.marks.proofs.reach_of.Given as goal

abbrev pub invariant-loop-p : goal.invariant-loop-p
invariant-loop-p l = l.p + upto l.k (drop l.p l.list) ≡ upto l.k l.list
