use mathlib.Core.Path.{ap}
use Prim.Native.Nat.{ℕ}
use Rattle.base.specs.declared.OwnNumber.{OwnNumber}
use Rattle.lent.proofs.own_row.Goals as goal

abbrev as_own : ℕ → OwnNumber
as_own v = record { 0 = v }

pub returns : goal.returns
returns c = ap as_own c.number.ensures.0
