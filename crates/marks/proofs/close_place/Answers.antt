use Rattle.marks.specs.ListLaws.{closing-is}
use Rattle.marks.proofs.close_place.Goals as goal

pub returns : goal.returns
returns c =
    let m = c.merge_lower in
    let q = c.requires.bounds in
    closing-is _ _ _ _ _ _ _ _ _ q.0 q.2 c.requires.parts m.auto.marks m.ensures
