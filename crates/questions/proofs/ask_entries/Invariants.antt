use Rattle.std.specs.Prelude.{None}
use mathlib.Core.Path.{◌≡◌}
use Rattle.matrix.specs.Questions.{empty_row}
use Rattle.base.specs.First.{first}
use Rattle.questions.proofs.ask_entries.Given as goal

abbrev pub invariant-loop-k : goal.invariant-loop-k
invariant-loop-k l = first (empty_row l.input.starts.now l.input.r.now) l.k ≡ None
