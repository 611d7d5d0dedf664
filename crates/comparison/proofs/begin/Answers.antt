use Rattle.comparison.proofs.Ends.{begun-plain}
use Rattle.comparison.proofs.begin.Goals as goal

pub returns-in-OneAfterAnother : goal.returns-in-OneAfterAnother
returns-in-OneAfterAnother c = begun-plain _ _ _ _ c.in-OneAfterAnother.is c.requires c.begin_marks.ensures
