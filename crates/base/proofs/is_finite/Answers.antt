use lib.Ieee.{of_bits}
use Rattle.base.proofs.Finite.{test}
use Rattle.base.proofs.is_finite.Goals as goal

pub returns : goal.returns
unfolding of_bits
returns c = test c.args.x
