use Rattle.matrix_file.proofs.CallLaws.{laid-matrix, none-laid}
use native.Mathlib.Omega.{arith}
use Rattle.matrix_file.proofs.lay_matrix.Goals as goal

pub returns : goal.returns
returns c =
    let n = c.put_number-at.ensures in
    let e = c.put_number-at-2.ensures in
    let s = c.write_as-at.ensures in
    let j = c.write_as-at-2.ensures in
    let v = c.write_as.ensures in
    (omega arith, laid-matrix _ _ _ _ _ _ _ _ _ _ _ (none-laid c.args.file.now) n.1 e.1 s.1 j.1 v.1)
