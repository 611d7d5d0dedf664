use Prim.Native.Nat.{ℕ}
use lib.ListN.{get_or}
use lib.Ieee.{nan}
use Rattle.questions.specs.ScatterLaws.{Scattered}
use Rattle.questions.proofs.write_solution.Given as goal

abbrev pub invariant-loop-k : goal.invariant-loop-k
invariant-loop-k l = Scattered l.c l.n (λ (i : ℕ). get_or l.z i nan) nan l.initial.x l.x l.k
