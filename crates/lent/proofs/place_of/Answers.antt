use Rattle.lent.specs.ReadingLaws.{place_read}
use native.Mathlib.Omega.{arith}
use Rattle.lent.proofs.place_of.Goals as goal

pub returns : goal.returns
returns c = place_read _ _ _ _ (omega arith) (omega arith)
