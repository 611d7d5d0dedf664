use Rattle.marks.specs.Marks.{part_at}
use Rattle.marks.specs.MergeLaws.{Going}
use Rattle.std.specs.Prelude.{min}
use Prim.Native.Nat.{◌*◌}
use Rattle.marks.proofs.merge_lower.Given as goal

-- the members before block b are visited
abbrev pub invariant-loop-b : goal.invariant-loop-b
invariant-loop-b l = Going l.n l.stamp (part_at l.initial.marks l.cuts l.runs l.index) l.initial.marks l.marks (min l.k (l.b * 64)) l.count
