use Rattle.marks.specs.CutLaws.{renewed}
use Rattle.marks.specs.RenewLaws.{renewed-is}
use Rattle.marks.proofs.renew_cuts.Goals as goal

pub returns : goal.returns
returns c =
    let q = c.requires.bounds in
    λ t e. renewed-is _ _ _ _ _ _ _ _ _ q.0 q.1 q.2 (renewed _ _ _ _ _ _ _ _ (c.close_cuts.ensures t e) c.open_cut.ensures)
