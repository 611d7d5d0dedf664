use Rattle.report.proofs.Laws.{place-told}
use Rattle.report.proofs.place_of.Goals as goal

pub returns : goal.returns
returns c = place-told _ _ c.min.ensures
