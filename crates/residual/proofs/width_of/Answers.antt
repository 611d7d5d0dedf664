use mathlib.Core.Path.{refl}
use lib.Ieee.{of_bits}
use Rattle.residual.specs.Residual.{share, least, width_from}
use Rattle.residual.proofs.width_of.Goals as goal

pub returns : goal.returns
unfolding width_from share least of_bits
returns c = rw (c.number_of-share.ensures, c.number_of-least.ensures) refl
