use Rattle.lent.specs.ReadingLaws.{part-is}
use Rattle.lent.proofs.list_at.Goals as goal

pub returns : goal.returns
returns g c = part-is _ _ _ _ _ _ c.slot-a.ensures.0 c.list_length.ensures.0
