use Rattle.std.proofs.Common.{eqb, refl, ◌∙◌, rules, tests}
use Rattle.std.proofs.lemmas.Iterator.{YieldsList-from_range}
use Rattle.std.proofs.lemmas.Iterator.Search.{all_from_yields_List}
use Rattle.fields.specs.Payload.{payload}
use Rattle.fields.proofs.ZeroLaws.{zero-all}
use Rattle.fields.proofs.zero_from.Goals as goal

pub returns : goal.returns
returns c =
    all_from_yields_List (λ p. eqb (payload c.args.file.now p) 0) _ _ _ c.all.ensures.ran (YieldsList-from_range c.args.from _ _ refl refl) (λ x b q k. search (rules, tests))
    ∙ zero-all c.args.file.now c.args.from
