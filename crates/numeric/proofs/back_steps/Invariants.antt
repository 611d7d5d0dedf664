use Rattle.numeric.specs.Stores.{store_given}
use Rattle.arithmetic.specs.Stopping.{back}
use lib.ListN.{take, drop}
use mathlib.Core.Path.{◌≡◌}
use Rattle.base.specs.Scratch.{z_from}
use Rattle.numeric.proofs.back_steps.Given as goal

abbrev pub invariant-loop-k : goal.invariant-loop-k
invariant-loop-k l = (l.z ≡ z_from l.n) × (take (z_from l.n) l.f ≡ take (z_from l.n) l.initial.f)
    × (back (store_given l.n l.initial.f l.starts l.runs l.upper l.u) l.k (drop (z_from l.n) l.f) ≡ back (store_given l.n l.initial.f l.starts l.runs l.upper l.u) l.n (drop (z_from l.n) l.initial.f))
