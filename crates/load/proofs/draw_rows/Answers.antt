use mathlib.Core.Path.{refl}
use native.Mathlib.Omega.{arith}
use Rattle.load.proofs.RowsLaws.{drawing-start, row-drawable, drawing-more, drawing-end, columns-same, values_same}
use Rattle.load.proofs.draw_rows.Goals as goal

pub draw_row-d-requires : goal.draw_row-d-requires
draw_row-d-requires c =
    row-drawable c.loop-k.invariant c.requires.few (omega arith)

pub loop-k-preserved : goal.loop-k-preserved
loop-k-preserved c =
    drawing-more c.loop-k.invariant (omega arith) _ _ _ c.draw_row-d.ensures _ refl

pub loop-k-init : goal.loop-k-init
loop-k-init c = drawing-start _ _ _ _ _ c.requires

pub shape_of-columns : goal.shape_of-columns
shape_of-columns c = columns-same c.requires c.loop-k.invariant

pub shape_of-values : goal.shape_of-values
shape_of-values c = values_same c.requires c.loop-k.invariant

pub returns : goal.returns
returns c = drawing-end c.loop-k.invariant (omega arith)
