use Prim.Native.Nat.{ℕ}
use Rattle.questions.specs.ScatterLaws.{Scattered}
use Rattle.questions.proofs.invert.Given as goal

abbrev pub invariant-loop-k : goal.invariant-loop-k
invariant-loop-k l = Scattered l.order l.n (λ (i : ℕ). i) 0 l.initial.inverse l.inverse l.k
