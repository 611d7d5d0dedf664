use mathlib.Core.Path.{refl}
use Rattle.factor.specs.EndLaws.{part-zeroed}
use Rattle.factor.proofs.clear_region.Goals as goal

pub returns : goal.returns
returns c = part-zeroed _ _ _ _ _ c.requires refl c.clear.ensures
