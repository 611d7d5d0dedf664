use Rattle.marks.specs.CutLaws.{upto-hit, upto-miss, upto-end}
use mathlib.Core.Path.{◌≡◌, sym, ◌∙◌}
use lib.ListN.{length}
use native.Mathlib.Omega.{arith}
use Rattle.marks.proofs.reach_of.Goals as goal

pub returns-then-wide-k : goal.returns-then-wide-k
returns-then-wide-k c =
    (sym (upto-hit _ _ c.loop-p.p c.loop-p-test.true (sym c.wide.ensures.0 ∙ c.if-wide-k.true)) ∙ c.loop-p.invariant, omega arith)

pub loop-p-preserved : goal.loop-p-preserved
loop-p-preserved c =
    upto-miss _ _ c.loop-p.p c.loop-p-test.true (λ q. c.if-wide-k.false (c.wide.ensures.0 ∙ q)) ∙ c.loop-p.invariant

pub returns : goal.returns
returns c =
    let q : length c.args.list.now ≡ c.loop-p.p = omega arith in
    (q ∙ sym (upto-end _ _ c.loop-p.p q) ∙ c.loop-p.invariant, omega arith)
