use Prim.Native.Nat.{ℕ}
use mathlib.Core.Path.{refl}
use native.Mathlib.Omega.{arith}
use Rattle.base.specs.TableLaws.{fill_start, fill_more}
use Rattle.load.proofs.natural.Goals as goal

pub loop-k-init : goal.loop-k-init
loop-k-init c = fill_start (λ (i : ℕ). i) _ _ refl

pub loop-k-preserved : goal.loop-k-preserved
loop-k-preserved c = fill_more (λ (i : ℕ). i) _ _ c.loop-k.k _ (omega arith) c.narrow.ensures c.loop-k.invariant
