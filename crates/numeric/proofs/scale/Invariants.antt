use Rattle.arithmetic.specs.RowEnd.{finite_all, products}
use lib.Seq.{sets}
use lib.ListN.{drop}
use mathlib.Core.Path.{◌≡◌}
use Prim.Native.Nat.{◌+◌}
use Rattle.numeric.proofs.scale.Given as goal

abbrev pub invariant-loop-p : goal.invariant-loop-p
invariant-loop-p l = (finite_all (products l.d l.w (drop l.p l.columns)) ≡ finite_all (products l.d l.w l.columns))
    × (sets l.u (l.from + l.p) (products l.d l.w (drop l.p l.columns)) ≡ sets l.initial.u l.from (products l.d l.w l.columns))
