use native.Mathlib.Omega.{arith}
use mathlib.Core.Path.{refl}
use Rattle.lookup.specs.Lookup.{within}
use Rattle.lookup.proofs.Span.part.Goals as goal

pub returns : goal.returns
unfolding within
returns c = record { holds = refl; count = omega arith; block = refl; offset = omega arith }
