use mathlib.Core.Path.{refl, sym, ◌∙◌}
use Rattle.factors.specs.PresentedLaws.{rises-more, rises-stop, rises-end}
use Rattle.factors.proofs.rises_in.Goals as goal

pub loop-place-preserved : goal.loop-place-preserved
loop-place-preserved c =
    let l = c.loop-place in
    rises-more l.least _ _ l.place-index _ _ c.wide-j.ensures.0 refl c.loop-place-test.true c.if-not-least-j.false ∙ l.invariant

pub returns-then-not-least-j : goal.returns-then-not-least-j
returns-then-not-least-j c =
    let l = c.loop-place in
    sym (rises-stop l.least _ _ l.place-index _ _ c.wide-j.ensures.0 refl c.loop-place-test.true c.if-not-least-j.true) ∙ l.invariant

pub returns : goal.returns
returns c = sym (rises-end c.loop-place.least _ _ c.loop-place.place-index c.loop-place-test.false) ∙ c.loop-place.invariant
