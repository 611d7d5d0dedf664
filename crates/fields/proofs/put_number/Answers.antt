use Rattle.std.proofs.Common.{◌++◌, refl, ap, ◌∙◌, ℕ, arith}
use Rattle.fields.specs.Numbers.{bytes}
use Rattle.fields.specs.Payload.{payloads}
use Rattle.fields.proofs.PutLaws.{put-more, put-end}
use Rattle.fields.proofs.put_number.Goals as goal

pub loop-p-init : goal.loop-p-init
loop-p-init c = ap (λ (k : ℕ). payloads c.args.file.now c.args.at ++ bytes k c.args.v) (omega arith)

pub loop-p-preserved : goal.loop-p-preserved
loop-p-preserved c = put-more _ _ _ _ (omega arith) (omega arith) ∙ c.loop-p.invariant

pub returns : goal.returns
returns c = (refl, put-end _ _ c.loop-p.p c.loop-p.rest (omega arith) ∙ c.loop-p.invariant)
