use Rattle.numeric.proofs.Turns.{unset-turn, unset-end}
use Rattle.lent.specs.Reading.{order_of}
use mathlib.Core.Path.{sym, ◌∙◌}
use Rattle.numeric.proofs.unset_row.Goals as goal

pub loop-p-preserved : goal.loop-p-preserved
loop-p-preserved c =
    let a = c.args in
    let l = c.loop-p in
    unset-turn (order_of a.n a.marks.now) a.columns.now l.w l.p c.entry_place-j.result _ c.entry_place-j.ensures c.no_value-none.ensures c.loop-p-test.true ∙ l.invariant

pub returns : goal.returns
returns c =
    let a = c.args in
    let l = c.loop-p in
    sym (unset-end (order_of a.n a.marks.now) a.columns.now l.w l.p c.loop-p-test.false) ∙ l.invariant
