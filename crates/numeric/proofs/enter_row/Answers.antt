use Rattle.numeric.proofs.Turns.{enter-turn, enter-end}
use Rattle.lent.specs.Reading.{order_of}
use mathlib.Core.Path.{sym, ◌∙◌}
use native.Mathlib.Omega.{arith}
use Rattle.numeric.proofs.enter_row.Goals as goal

pub loop-p-preserved : goal.loop-p-preserved
loop-p-preserved c =
    let a = c.args in
    let l = c.loop-p in
    enter-turn (order_of a.n a.marks.now) a.columns.now a.values.now l.w l.p c.entry_place-j.result _ c.entry_place-j.ensures c.with_value.ensures (omega (arith, c.requires.1.paired)) c.loop-p-test.true ∙ l.invariant

pub returns : goal.returns
returns c =
    let a = c.args in
    let l = c.loop-p in
    sym (enter-end (order_of a.n a.marks.now) a.columns.now a.values.now l.w l.p (omega (arith, c.requires.1.paired))) ∙ l.invariant
