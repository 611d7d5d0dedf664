use native.Mathlib.Omega.{arith}
use Rattle.factor_writing.proofs.WriteLaws.{laid-values}
use Rattle.fields.specs.Payload.{payloads, bits_of}
use Rattle.factor_writing.proofs.lay_values.Goals as goal

pub returns : goal.returns
returns c =
    let a = c.args in
    (omega arith, laid-values (bits_of a.lower_values.now) _ _ _ _ (payloads a.file.now a.at) _ _ _ _ _ c.write_as-at.ensures.1 c.write_as-at-2.ensures.1 c.write_as-at-3.ensures.1 c.write_as-at-4.ensures.1 c.write_as.ensures.1)
