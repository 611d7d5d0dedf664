use Rattle.std.proofs.Common.{rules, tests, ◌<◌, length, get_or}
use Rattle.std.proofs.lemmas.Iterator.{YieldsList-from_slice}
use Rattle.std.proofs.lemmas.Iterator.Adapters.{serves_from_places}
use Rattle.std.proofs.lemmas.Iterator.Search.{all_from_yields_List}
use Rattle.numeric.proofs.Turns.{place_inside, finite_on-all}
use lib.Ieee.{nan}
use lib.Ieee.Scale.{finite}
use mathlib.Core.Path.{◌∙◌}
use Rattle.numeric.proofs.all_finite.Goals as goal

pub all-requires-clause-callable : goal.all-requires-clause-callable
all-requires-clause-callable c =
    serves_from_places (YieldsList-from_slice c.args.columns.now (cc)) (λ x q e. search (rules, tests))
    (λ x k h e. let b : x.now < length c.args.w.now = place_inside _ _ _ k c.requires h e in search (rules, tests))

pub returns : goal.returns
returns c =
    all_from_yields_List (λ j. finite (get_or c.args.w.now j nan)) _ _ _ c.all.ensures.ran (YieldsList-from_slice c.args.columns.now (cc)) (λ x b q k. search (rules, tests))
    ∙ finite_on-all c.args.columns.now c.args.w.now
