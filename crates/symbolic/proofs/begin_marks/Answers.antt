use Rattle.symbolic.proofs.Starts.{inverted-after}
use Rattle.symbolic.proofs.begin_marks.Goals as goal

pub returns : goal.returns
returns c = inverted-after _ _ _ _ _ c.clear.ensures c.invert_at.ensures
