use Rattle.base.specs.declared.Form.TheVariants.{Plain, Shared}
use Rattle.stages.specs.LengthLaws.{lower-as, side-of}
use Rattle.stages.proofs.lower_fits.Goals as goal

pub returns-in-Plain : goal.returns-in-Plain
returns-in-Plain c = lower-as _ Plain _ _ _ c.in-Plain.is (side-of _ Plain _ _ _ c.in-Plain.is c.side_fits.ensures)

pub returns-in-Shared : goal.returns-in-Shared
returns-in-Shared c = lower-as _ Shared _ _ _ c.in-Shared.is (side-of _ Shared _ _ _ c.in-Shared.is c.side_fits-in-Shared.ensures)
