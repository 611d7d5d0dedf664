use Rattle.std.proofs.Common.{ℕ, ap, ◌∙◌, arith}
use Rattle.std.proofs.lemmas.List.Edits.{sets}
use Rattle.fields.specs.Numbers.{bytes}
use Rattle.blocks.proofs.CheckLaws.{store-more, store-end}
use Rattle.blocks.proofs.put_bytes.Goals as goal

pub loop-p-init : goal.loop-p-init
loop-p-init c = ap (λ (k : ℕ). sets c.args.file.now c.args.at (bytes k c.args.v)) (omega arith)

pub loop-p-preserved : goal.loop-p-preserved
loop-p-preserved c = store-more _ _ _ _ c.loop-p-test.true ∙ c.loop-p.invariant

pub returns : goal.returns
returns c = store-end _ _ c.loop-p.p c.loop-p.rest c.loop-p-test.false ∙ c.loop-p.invariant
