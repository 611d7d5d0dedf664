use Rattle.lookup.specs.LookupLaws.{span-taken, span-high, span-unfit}
use Rattle.lookup.proofs.StoredLists.span.Goals.{else-fit-via-then-fit+else-at-n, else-fit-via-else-fit}
use Rattle.lookup.proofs.StoredLists.span.Goals as goal

pub returns-then-at-n : goal.returns-then-at-n
returns-then-at-n c = span-taken _ _ _ _ _ _ _ _ _ _ _ c.slot-at.ensures.0 c.if-fit.true c.if-at-n.true c.slot.ensures.0 c.slot-then-at-n.ensures.0 c.slot-then-at-n-2.ensures.0 c.of_run.ensures

pub returns : goal.returns
returns c = elim c.else-fit.branch [
  | else-fit-via-then-fit+else-at-n w ↦ span-high _ _ _ _ _ _ _ c.slot-at.ensures.0 w.if-at-n.false
  | else-fit-via-else-fit w ↦ span-unfit _ _ _ _ _ _ w.if-fit.false
]
