use Rattle.marks.specs.MarkLaws.{room-kept}
use Rattle.columns.proofs.ListLaws.{walk-node, walk_more, left_end}
use native.Mathlib.Omega.{arith}
use Rattle.columns.proofs.stamp_list.Goals as goal

pub mark-requires : goal.mark-requires
mark-requires c =
    let d = walk-node c.loop-h.invariant c.requires.has_chain (omega arith) in
    (omega (arith, d.row, c.slot-i.ensures.0), room-kept _ _ _ c.loop-h.invariant.size c.requires.room)

pub loop-h-smaller : goal.loop-h-smaller
loop-h-smaller c =
    let d = walk-node c.loop-h.invariant c.requires.has_chain (omega arith) in
    omega (arith, d.next, c.slot-rest.ensures.0)

pub loop-h-preserved : goal.loop-h-preserved
loop-h-preserved c =
    walk_more c.requires.has_chain (omega arith) c.slot-i.ensures.0 c.slot-rest.ensures.0 c.mark.ensures c.loop-h.invariant

pub returns : goal.returns
returns c = λ l k. left_end (omega arith) (c.loop-h.invariant.left l k)
