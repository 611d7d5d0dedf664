use native.Mathlib.Omega.{arith}
use Rattle.factor_writing.proofs.WriteLaws.{laid-lists}
use Rattle.fields.specs.Payload.{payloads}
use Rattle.factor_writing.proofs.lay_lists.Goals as goal

pub returns : goal.returns
returns c =
    let a = c.args in
    (omega arith, laid-lists a.lower_starts.now _ _ _ (payloads a.file.now a.at) _ _ _ _ c.write_as-at.ensures.1 c.write_as-at-2.ensures.1 c.write_as-at-3.ensures.1 c.write_as.ensures.1)
