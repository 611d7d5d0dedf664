use Rattle.numeric.proofs.Turns.{rest-turn, rest_end}
use mathlib.Core.Path.{sym, ◌∙◌}
use native.Mathlib.Omega.{arith}
use Rattle.numeric.proofs.subtract_products.Goals as goal

pub loop-p-preserved : goal.loop-p-preserved
loop-p-preserved c =
    let a = c.args in
    let l = c.loop-p in
    rest-turn a.places.now a.factors.now a.z.now l.s l.p _ c.wide-j.ensures.0 c.loop-p-test.true (omega arith) ∙ l.invariant

pub returns : goal.returns
returns c =
    let a = c.args in
    let l = c.loop-p in
    sym l.invariant ∙ rest_end a.places.now a.factors.now a.z.now l.s l.p c.loop-p-test.false
