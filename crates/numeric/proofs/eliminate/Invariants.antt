use Rattle.numeric.proofs.Turns.{Eliminating}
use Rattle.numeric.specs.Stores.{store_given}
use Rattle.numeric.proofs.eliminate.Given as goal

abbrev pub invariant-loop-i : goal.invariant-loop-i
invariant-loop-i l = Eliminating l.n l.lower (store_given l.n l.initial.f l.starts l.runs l.upper l.u) l.initial.f l.initial.s l.f l.s l.i-index
