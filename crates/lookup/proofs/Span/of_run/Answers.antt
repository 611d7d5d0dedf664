use Rattle.lookup.specs.LookupLaws.{run-taken, run-over, run-falls}
use Rattle.lookup.proofs.Span.of_run.Goals.{else-a-b-via-then-a-b+else-run-b, else-a-b-via-else-a-b}
use Rattle.lookup.proofs.Span.of_run.Goals as goal

pub returns-then-run-b : goal.returns-then-run-b
returns-then-run-b c = run-taken _ _ _ _ c.if-a-b.true c.if-run-b.true

pub returns : goal.returns
returns c = elim c.else-a-b.branch [
  | else-a-b-via-then-a-b+else-run-b w ↦ run-over _ _ _ _ w.if-run-b.false
  | else-a-b-via-else-a-b w ↦ run-falls _ _ _ _ w.if-a-b.false
]
