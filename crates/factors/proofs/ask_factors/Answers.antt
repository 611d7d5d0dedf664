use mathlib.Core.Path.{refl}
use Rattle.base.specs.FirstLaws.{first-zero, first_more}
use Rattle.questions.specs.AskLaws.{ask-at, ask-pass}
use Rattle.outcome.specs.Resolve.{ask_factors}
use Rattle.factors.specs.PresentedLaws.{was-bad, was-good}
use borrow.Author.Rules.{rules}
use Rattle.factors.proofs.ask_factors.Goals as goal

pub loop-k-init : goal.loop-k-init
loop-k-init c = first-zero _

pub loop-k-preserved : goal.loop-k-preserved
loop-k-preserved c = first_more _ _ c.loop-k.invariant (was-good _ _ c.place_good.ensures c.if-not-place_good.false)

pub returns-then-not-place_good : goal.returns-then-not-place_good
unfolding ask_factors
returns-then-not-place_good c =
    ask-at _ _ _ _ _ (search rules) c.loop-k.invariant (was-bad _ _ c.place_good.ensures c.if-not-place_good.true) refl

pub returns : goal.returns
unfolding ask_factors
returns c = search ask-pass
