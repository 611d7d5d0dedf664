use mathlib.Core.Path.{◌≡◌}
use mathlib.Core.List.{◌∷◌}
use Prim.Native.Nat.{◌+◌}
use lib.ListN.{drop}
use lib.Seq.{sets}
use Rattle.report.proofs.put_told.Given as goal

abbrev pub invariant-loop-i : goal.invariant-loop-i
invariant-loop-i g l = sets l.report (l.i + 1) (drop l.i l.rest) ≡ sets l.fn.report 0 (g.A.Numbered.place_in l.a ∷ l.rest)
