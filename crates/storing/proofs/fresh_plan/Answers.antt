use mathlib.Core.Path.{refl}
use Rattle.placement.specs.Placing.{fresh, append_all}
use Rattle.storing.proofs.fresh_plan.Goals as goal

pub returns : goal.returns
unfolding fresh append_all
returns c = refl
