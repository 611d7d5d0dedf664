use lib.Ieee.{of_bits}
use Rattle.base.proofs.Floors.{most-negative, most_other}
use Rattle.base.proofs.at_most.Goals as goal

pub returns-then-p : goal.returns-then-p
unfolding of_bits
returns-then-p c = most-negative _ _ c.if-p.true

pub returns : goal.returns
unfolding of_bits
returns c = most_other _ _ c.if-p.false
