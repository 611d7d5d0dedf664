use Rattle.storing.specs.declared.Way.TheVariants.{OneAfterAnother, Sharing}
use Rattle.refactor.specs.PresentedLaws.{runs_as}
use Rattle.refactor.proofs.runs_lent.Goals as goal

pub returns-in-OneAfterAnother : goal.returns-in-OneAfterAnother
returns-in-OneAfterAnother c = runs_as _ OneAfterAnother _ c.in-OneAfterAnother.is

pub returns-in-Sharing : goal.returns-in-Sharing
returns-in-Sharing c = runs_as _ Sharing _ c.in-Sharing.is
