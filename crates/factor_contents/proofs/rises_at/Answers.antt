use mathlib.Core.Path.{refl, sym, ◌∙◌}
use Rattle.factor_contents.proofs.JudgingLaws.{rises-more, rises-stop, rises-end}
use Rattle.factor_contents.proofs.rises_at.Goals as goal

pub loop-i-preserved : goal.loop-i-preserved
loop-i-preserved c =
    let l = c.loop-i in
    rises-more _ _ _ l.least _ l.i _ _ c.number_at-j.ensures.0 refl c.loop-i-test.true c.if-not-least-j.false ∙ l.invariant

pub returns-then-not-least-j : goal.returns-then-not-least-j
returns-then-not-least-j c =
    let l = c.loop-i in
    sym (rises-stop _ _ _ l.least _ l.i _ _ c.number_at-j.ensures.0 refl c.loop-i-test.true c.if-not-least-j.true) ∙ l.invariant

pub returns : goal.returns
returns c = sym (rises-end _ _ _ c.loop-i.least _ c.loop-i.i c.loop-i-test.false) ∙ c.loop-i.invariant
