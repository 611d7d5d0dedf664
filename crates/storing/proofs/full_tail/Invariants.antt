use Rattle.std.specs.Prelude.{None}
use mathlib.Core.Path.{◌≡◌}
use Rattle.base.specs.First.{first}
use Rattle.storing.specs.Slices.{full_at}
use Rattle.storing.proofs.full_tail.Given as goal

abbrev pub invariant-loop-j : goal.invariant-loop-j
invariant-loop-j l = first (full_at l.starts l.runs l.slots l.k.0 l.count l.row) l.j ≡ None
