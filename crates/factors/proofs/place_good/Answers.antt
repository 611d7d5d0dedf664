use Rattle.factors.specs.PresentedLaws.{place-good}
use Rattle.factors.proofs.place_good.Goals as goal

pub returns : goal.returns
returns c =
    place-good _ _ _ _ _ _ _ c.side_good-below.ensures c.side_good-above.ensures c.is_finite-pivot.ensures
