use Rattle.marks.specs.ListLaws.{upper-listed}
use Rattle.marks.proofs.list_upper.Goals as goal

pub returns : goal.returns
returns c =
    let g = c.gather.ensures in
    upper-listed _ _ _ _ _ _ _ c.requires.bounds.0 g.0 g.1
