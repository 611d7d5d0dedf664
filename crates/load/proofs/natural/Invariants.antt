use Prim.Native.Nat.{ℕ}
use lib.ListN.{length}
use Rattle.base.specs.TableLaws.{Filling}
use Rattle.load.proofs.natural.Given as goal

abbrev pub invariant-loop-k : goal.invariant-loop-k
invariant-loop-k l = Filling (λ (i : ℕ). i) (length l.initial.order) l.order l.k
