use Rattle.numeric.specs.Stores.{gathered}
use lib.Seq.{sets}
use lib.ListN.{drop}
use mathlib.Core.Path.{◌≡◌}
use Prim.Native.Nat.{◌+◌}
use Rattle.numeric.proofs.keep_by_rows.Given as goal

abbrev pub invariant-loop-p : goal.invariant-loop-p
invariant-loop-p l = sets l.l (l.from + l.p) (gathered (drop l.p l.lower) l.w) ≡ sets l.initial.l l.from (gathered l.lower l.w)
