use Rattle.numeric.proofs.Ends.{end-zero, end-d, end-y, end-u, end_kept}
use lib.Ieee.{of_bits}
use native.Mathlib.Omega.{arith}
use Rattle.numeric.proofs.finish_row.Goals as goal
use Rattle.numeric.proofs.finish_row.Goals.{else-is_finite-via-then-is_finite+then-is_finite-2+else-scale, else-is_finite-via-then-is_finite+else-is_finite-2, else-is_finite-via-else-is_finite}

pub returns-then-at_most : goal.returns-then-at_most
unfolding of_bits
returns-then-at_most c = end-zero _ c.row_finite.ensures c.if-not-row_finite.false _ c.at_most.ensures c.if-at_most.true

pub returns-then-scale : goal.returns-then-scale
unfolding of_bits
returns-then-scale c = end_kept _ c.row_finite.ensures c.if-not-row_finite.false _ c.at_most.ensures c.if-at_most.false _ c.is_finite.ensures c.if-is_finite.true _ c.is_finite-then-is_finite.ensures c.if-is_finite-2.true
    _ c.scale.ensures.0 (omega (arith, c.requires.2)) c.scale.ensures.1 c.if-scale.true

pub returns : goal.returns
unfolding of_bits
returns c =
    elim c.else-is_finite.branch [
      | else-is_finite-via-then-is_finite+then-is_finite-2+else-scale w ↦
          end-u _ c.row_finite.ensures c.if-not-row_finite.false _ c.at_most.ensures c.if-at_most.false _ c.is_finite.ensures w.if-is_finite.true
          _ w.is_finite-then-is_finite.ensures w.if-is_finite-2.true _ w.scale.ensures.0 w.if-scale.false
      | else-is_finite-via-then-is_finite+else-is_finite-2 w ↦
          end-y _ c.row_finite.ensures c.if-not-row_finite.false _ c.at_most.ensures c.if-at_most.false _ c.is_finite.ensures w.if-is_finite.true _ w.is_finite-then-is_finite.ensures w.if-is_finite-2.false
      | else-is_finite-via-else-is_finite w ↦
          end-d _ c.row_finite.ensures c.if-not-row_finite.false _ c.at_most.ensures c.if-at_most.false _ c.is_finite.ensures w.if-is_finite.false
    ]
