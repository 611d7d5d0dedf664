use Rattle.program.proofs.Laws.{over-length, small-shape, well-shaped, ill-shaped, over-size}
use Rattle.program.proofs.put_file.Goals as goal

pub returns-then-file-gt11776 : goal.returns-then-file-gt11776
returns-then-file-gt11776 c = over-length _ c.requires c.if-file-gt11776.true c.too_large.ensures

pub shaped_lines-requires : goal.shaped_lines-requires
shaped_lines-requires c = let h = small-shape _ _ _ c.matrix_file_shape-found.ensures c.in-Ok.is c.if-m.true in (c.requires, h.0, h.1, h.2)

pub returns-then-m : goal.returns-then-m
returns-then-m c = well-shaped _ _ c.if-file-gt11776.false c.matrix_file_shape-found.ensures _ c.in-Ok.is c.if-m.true c.shaped_lines.ensures

pub returns-in-Err : goal.returns-in-Err
returns-in-Err c = ill-shaped _ _ c.if-file-gt11776.false c.matrix_file_shape-found.ensures _ _ _ c.requires c.in-Err.is c.number.ensures c.place.ensures c.refused.ensures

pub returns-else-m : goal.returns-else-m
returns-else-m c = over-size _ _ c.if-file-gt11776.false c.matrix_file_shape-found.ensures _ c.in-Ok.is c.requires c.if-m.false c.too_large-in-Ok.ensures
