use Rattle.std.specs.Prelude.{None}
use mathlib.Core.Path.{◌≡◌}
use Rattle.base.specs.First.{first}
use Rattle.outcome.specs.Buffers.{side_buffers}
use Rattle.outcome.specs.Resolve.{bad_at}
use Rattle.factors.specs.Presented.{presented}
use Rattle.factors.proofs.ask_factors.Given as goal

abbrev pub invariant-loop-k : goal.invariant-loop-k
invariant-loop-k l =
    first (bad_at l.form l.n (presented (side_buffers l.lower_starts l.lower_runs l.lower_index l.lower_values) (side_buffers l.upper_starts l.upper_runs l.upper_index l.upper_values) l.d)) l.k ≡ None
