use Rattle.std.proofs.Common.{rules, tests}
use Rattle.std.proofs.lemmas.Iterator.{YieldsList-from_slice}
use Rattle.std.proofs.lemmas.Iterator.Search.{all_from_yields_List}
use Rattle.factors.specs.PresentedLaws.{finite-all}
use lib.Ieee.Scale.{finite}
use mathlib.Core.Path.{◌∙◌}
use Rattle.factors.proofs.all_finite.Goals as goal

pub returns : goal.returns
returns c =
    all_from_yields_List finite _ _ _ c.all.ensures.ran (YieldsList-from_slice c.args.values.now (cc)) (λ x b q k. search (rules, tests)) ∙ finite-all c.args.values.now
