use lib.Ieee.{of_bits}
use Rattle.base.proofs.Floors.{below-zero, is_zero, above_zero}
use Rattle.base.proofs.magnitude.Goals as goal

pub returns-then-x : goal.returns-then-x
unfolding of_bits
returns-then-x c = below-zero _ c.if-x.true

pub returns-then-x-2 : goal.returns-then-x-2
unfolding of_bits
returns-then-x-2 c = is_zero c.args.x c.well_formed.0.1 c.if-x-2.true

pub returns : goal.returns
unfolding of_bits
returns c = above_zero _ c.if-x.false c.if-x-2.false
