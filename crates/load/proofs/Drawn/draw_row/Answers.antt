use mathlib.Core.Path.{refl}
use lib.Ieee.{of_bits}
use Rattle.load.proofs.DrawLaws.{row-drew}
use Rattle.load.proofs.Drawn.draw_row.Goals as goal

pub returns : goal.returns
unfolding of_bits
returns c =
    row-drew _ _ _ _ _ _ _ c.narrow.ensures refl _ _ _ _ _ _ _ _ _ c.draw-a.ensures c.draw-b.ensures c.draw.ensures
