use Rattle.marks.specs.Marks.{stamped}
use lib.ListN.{drop}
use mathlib.Core.Path.{◌≡◌}
use Rattle.marks.proofs.merge_list.Given as goal

abbrev pub invariant-loop-j : goal.invariant-loop-j
invariant-loop-j l = stamped l.n l.stamp l.marks (drop l.j-index l.list) ≡ stamped l.n l.stamp l.initial.marks l.list
