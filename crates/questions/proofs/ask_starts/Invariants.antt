use Rattle.std.specs.Prelude.{None}
use mathlib.Core.Path.{◌≡◌}
use Rattle.base.specs.First.{first}
use Rattle.matrix.specs.Questions.{bad_start}
use Rattle.questions.proofs.ask_starts.Given as goal

abbrev pub invariant-loop-i : goal.invariant-loop-i
invariant-loop-i l = first (bad_start l.starts l.n l.e) l.i ≡ None
