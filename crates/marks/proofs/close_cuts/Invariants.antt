use Rattle.base.specs.Lists.{list_at}
use Rattle.marks.specs.ListedLaws.{Listed}
use Prim.Native.Nat.{◌≤◌}
use Rattle.marks.proofs.close_cuts.Given as goal

abbrev pub invariant-loop-p : goal.invariant-loop-p
invariant-loop-p l = (l.below ≤ l.n) × Listed l.n l.k l.cuts l.below (list_at l.starts l.runs l.index) l.initial.marks l.marks l.p
