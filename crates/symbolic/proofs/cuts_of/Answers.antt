use Rattle.symbolic.proofs.Opening.{cuts-upper, cuts-lower}
use Rattle.symbolic.proofs.cuts_of.Goals as goal

pub returns-in-Upper : goal.returns-in-Upper
returns-in-Upper c = cuts-upper _ _ c.in-Upper.is

pub returns-in-Lower : goal.returns-in-Lower
returns-in-Lower c = cuts-lower _ _ c.in-Lower.is
