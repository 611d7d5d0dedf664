use mathlib.Core.Path.{◌≡◌}
use lib.Seq.{paste}
use Rattle.storing.proofs.append.Given as goal

abbrev pub invariant-loop-j : goal.invariant-loop-j
invariant-loop-j l = l.index ≡ paste l.initial.index l.used l.rest l.j
