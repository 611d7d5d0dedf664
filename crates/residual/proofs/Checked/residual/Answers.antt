use lib.Ieee.{of_bits}
use Rattle.residual.proofs.Checked.residual.Goals as goal

pub returns-in-Refused : goal.returns-in-Refused
unfolding of_bits
returns-in-Refused c = rw c.in-Refused.is
