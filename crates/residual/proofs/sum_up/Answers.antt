use borrow.Author.Rules.{rules, scaled_Fits}
use Rattle.residual.proofs.Turns.{going_start, going_more, going_end, column-under}
use Rattle.residual.proofs.sum_up.Goals as goal

pub loop-p-init : goal.loop-p-init
loop-p-init c = going_start _ _ _ _ _ c.magnitude-total.ensures

pub offset_bounds-x-j : goal.offset_bounds-x-j
offset_bounds-x-j c = scaled_Fits _ _ 8 (column-under _ _ _ _ _ c.requires (search rules) c.wide-j.ensures.0) (search rules)

pub bounds-x-j : goal.bounds-x-j
bounds-x-j c = column-under _ _ _ _ _ c.requires (search rules) c.wide-j.ensures.0

pub loop-p-preserved : goal.loop-p-preserved
loop-p-preserved c =
    going_more _ _ _ _ _ _ _ _ _ c.requires c.loop-p.invariant (search rules)
    c.wide-j.ensures.0 c.magnitude-total-in-loop-p.ensures

pub returns : goal.returns
returns c = going_end _ _ _ _ _ _ _ c.requires.same (search rules) c.loop-p.invariant
