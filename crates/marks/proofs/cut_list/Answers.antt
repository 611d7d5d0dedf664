use Rattle.marks.specs.CutLaws.{cut-yes, cut-no}
use mathlib.Core.Path.{sym, ◌∙◌}
use Rattle.marks.proofs.cut_list.Goals as goal

pub returns-then-slot-list : goal.returns-then-slot-list
returns-then-slot-list c =
    let l = c.list_at-list in
    let w = c.slot.ensures in
    cut-yes _ _ _ _ _ _ _ (sym l.ensures) (sym w.0 ∙ c.if-slot-list.true) c.reach_of-c.ensures.0

pub returns-else-slot-list : goal.returns-else-slot-list
returns-else-slot-list c =
    let l = c.list_at-list in
    let w = c.slot.ensures in
    cut-no _ _ _ _ _ _ (sym l.ensures) (λ q. c.if-slot-list.false (w.0 ∙ q))
