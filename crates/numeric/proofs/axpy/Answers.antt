use Rattle.numeric.proofs.Turns.{subtract-turn, subtract-end}
use mathlib.Core.Path.{sym, ◌∙◌}
use native.Mathlib.Omega.{arith}
use Rattle.numeric.proofs.axpy.Goals as goal

pub loop-p-preserved : goal.loop-p-preserved
loop-p-preserved c =
    let a = c.args in
    let l = c.loop-p in
    sym (subtract-turn a.m a.columns.now a.u.now l.w l.p _ c.wide-j.ensures.0 c.loop-p-test.true (omega arith)) ∙ l.invariant

pub returns : goal.returns
returns c =
    let a = c.args in
    let l = c.loop-p in
    sym l.invariant ∙ subtract-end a.m a.columns.now a.u.now l.w l.p c.loop-p-test.false
