use mathlib.Core.Path.{refl}
use Rattle.factors.specs.PresentedLaws.{outside-falls, outside-else}
use Rattle.factors.proofs.outside.Goals as goal

pub returns-then-hi-lo : goal.returns-then-hi-lo
returns-then-hi-lo c =
    outside-falls _ _ _ _ _ _ _ _ refl c.slot-lo.ensures.0 c.slot-hi.ensures.0 c.if-hi-lo.true

pub returns : goal.returns
returns c =
    outside-else _ _ _ _ _ _ _ _ refl c.slot-lo.ensures.0 c.slot-hi.ensures.0 _ c.slot-run.ensures.0 c.if-hi-lo.false
