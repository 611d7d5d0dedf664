use Rattle.marks.specs.BlockLaws.{Filled}
use Prim.Native.Nat.{◌≤◌, ◌-◌}
use Rattle.marks.proofs.gather.Given as goal

abbrev pub invariant-loop-j : goal.invariant-loop-j
invariant-loop-j l = (l.j ≤ l.end) × Filled l.stamp l.initial.marks l.from l.at 0 l.marks l.count l.j

abbrev pub decreases-loop-j : goal.decreases-loop-j
decreases-loop-j l = l.end - l.j
