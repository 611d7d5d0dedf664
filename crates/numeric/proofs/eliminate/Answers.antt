use Rattle.numeric.proofs.Turns.{eliminating-more, steps-end}
use mathlib.Core.Path.{sym, ◌∙◌}
use Rattle.numeric.proofs.eliminate.Goals as goal

pub loop-i-preserved : goal.loop-i-preserved
loop-i-preserved c =
    let a = c.args in
    let l = c.loop-i in
    eliminating-more a.n a.lower.now a.starts.now a.runs.now a.upper.now a.u.now a.f.now l.f c.subtract_row-s.new.f a.row l.s c.subtract_row-s.result l.i-index
    c.loop-i-test.true c.requires.2 c.subtract_row-s.auto.f l.invariant (rw c.slot.ensures.0 at c.subtract_row-s.ensures)

pub returns : goal.returns
returns c =
    let l = c.loop-i in
    record { l = l.invariant.l; working = sym l.invariant.working ∙ steps-end _ c.args.lower.now _ l.i-index c.loop-i-test.false; kept = l.invariant.kept }
