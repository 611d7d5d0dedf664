use Rattle.arithmetic.specs.Again.{Factors}
use Rattle.outcome.specs.Buffers.{side_buffers}
use Rattle.substitution.specs.Sweep.{Tied, Sweep}
use Rattle.substitution.proofs.substitute_rows.Given as goal

abbrev pub invariant-loop-k : goal.invariant-loop-k
invariant-loop-k l =
    (F : Factors) → Tied l.form l.n F (side_buffers l.starts l.runs l.index l.values) l.d → Sweep l.form l.n F (side_buffers l.starts l.runs l.index l.values) 0 l.initial.work
    → Sweep l.form l.n F (side_buffers l.starts l.runs l.index l.values) l.k l.work
