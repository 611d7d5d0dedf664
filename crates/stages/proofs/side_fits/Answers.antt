use Rattle.base.specs.declared.Form.TheVariants.{Plain, Shared, ByRow}
use Rattle.stages.specs.LengthLaws.{side-as}
use Rattle.stages.proofs.side_fits.Goals as goal

pub returns-in-Plain : goal.returns-in-Plain
returns-in-Plain c = side-as _ Plain _ _ c.in-Plain.is

pub returns-in-Shared : goal.returns-in-Shared
returns-in-Shared c = side-as _ Shared _ _ c.in-Shared.is

pub returns-in-ByRow : goal.returns-in-ByRow
returns-in-ByRow c = side-as _ ByRow _ _ c.in-ByRow.is
