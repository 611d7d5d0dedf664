use Rattle.storing.specs.declared.Way.TheVariants.{OneAfterAnother, Sharing}
use Rattle.refactor.specs.PresentedLaws.{form-as}
use Rattle.refactor.proofs.form_of.Goals as goal

pub returns-in-OneAfterAnother : goal.returns-in-OneAfterAnother
returns-in-OneAfterAnother c = form-as _ OneAfterAnother c.in-OneAfterAnother.is

pub returns-in-Sharing : goal.returns-in-Sharing
returns-in-Sharing c = form-as _ Sharing c.in-Sharing.is
