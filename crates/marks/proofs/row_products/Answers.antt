use Rattle.marks.specs.ListLaws.{added_more, added-end}
use native.Mathlib.Omega.{arith}
use Rattle.marks.proofs.row_products.Goals as goal

pub loop-i-preserved : goal.loop-i-preserved
loop-i-preserved c =
    added_more _ _ _ _ _ _ (omega arith) c.slot-at.ensures.0 c.list_length.ensures.0 c.list_length.ensures.1 c.loop-i.invariant

pub returns : goal.returns
returns c = added-end _ _ _ _ (omega arith) c.loop-i.invariant
