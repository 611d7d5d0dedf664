use Rattle.fields.specs.Payload.{payloads}
use Rattle.matrix_file.proofs.CallLaws.{laid-orders}
use native.Mathlib.Omega.{arith}
use Rattle.matrix_file.proofs.lay_orders.Goals as goal

pub returns : goal.returns
returns c =
    let r = c.write_as-at.ensures in
    let o = c.write_as-at-2.ensures in
    let b = c.write_as.ensures in
    let a = c.args in
    (omega arith, laid-orders a.r.now _ _ (payloads a.file.now a.at) _ _ _ r.1 o.1 b.1)
