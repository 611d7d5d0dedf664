use Rattle.questions.specs.MarkingLaws.{index-out, marking-none, marking-seen, marking-more}
use mathlib.Core.Path.{sym, ◌∙◌}
use Rattle.base.specs.FirstLaws.{first-at, first-end}
use borrow.Author.Rules.{rules}
use Rattle.questions.proofs.first_fault.Goals.{then-j-n-via-then-j-n, then-j-n-via-else-j-n+then-mark_slot}
use Rattle.questions.proofs.first_fault.Goals as goal

pub loop-p-init : goal.loop-p-init
loop-p-init c = marking-none _ _ _ c.requires

pub returns-then-j-n : goal.returns-then-j-n
returns-then-j-n c =
    let h = c.loop-p.invariant in
    let e = c.wide-j.ensures.0 in
    elim c.then-j-n.branch [
      | then-j-n-via-then-j-n w ↦ sym (first-at _ _ _ (search rules) h.fine (index-out _ _ _ (rw e at w.if-j-n.true)))
      | then-j-n-via-else-j-n+then-mark_slot w ↦ (
          let m = rw e at w.mark_slot.ensures in
          sym (first-at _ _ _ (search rules) h.fine (marking-seen _ _ _ _ _ c.requires h (rw e at w.if-j-n.false) _ m.0 ∙ w.if-mark_slot.true)))
    ]

pub loop-p-preserved : goal.loop-p-preserved
loop-p-preserved c =
    let h = c.loop-p.invariant in
    let e = c.wide-j.ensures.0 in
    let w = rw e at c.mark_slot.ensures in
    marking-more _ _ _ _ _ c.requires h (rw e at c.if-j-n.false) _ _ (search rules) w.0 c.if-mark_slot.false w.1

pub returns : goal.returns
returns c = first-end _ _ _ (search rules) (search rules) c.loop-p.invariant.fine
