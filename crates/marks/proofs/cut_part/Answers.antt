use Rattle.marks.specs.CutLaws.{cut-is}
use Rattle.marks.proofs.cut_part.Goals as goal

pub returns : goal.returns
returns c = cut-is _ _ _ _ _ _ _ c.slot-a.ensures.0 c.slot.ensures.0
