use Rattle.matrix_file.proofs.CallLaws.{loaded}
use Rattle.matrix_file.proofs.load.Goals as goal

pub returns : goal.returns
returns c =
    let s = c.read_as-at.ensures in
    let j = c.read_as-at-2.ensures in
    let v = c.read_as-at-3.ensures in
    let r = c.read_as-at-4.ensures in
    let o = c.read_as-at-5.ensures in
    let b = c.read_as.ensures in
    loaded _ _ _ _ _ _ _ _ _ _ _ _ _ _ _ _ _ _ s.0 s.1 j.0 j.1 v.0 v.1 r.0 r.1 o.0 o.1 b.1
