use mathlib.Core.Path.{refl}
use native.Mathlib.Omega.{arith}
use Rattle.load.specs.Load.{drawn}
use Rattle.load.proofs.next.Goals as goal

pub returns : goal.returns
unfolding drawn
returns c = (refl, omega arith)
