use mathlib.Core.Path.{sym}
use lib.Seq.{set_out}
use native.Mathlib.Omega.{arith}
use Rattle.base.proofs.put.Goals as goal

pub returns-else-at-s : goal.returns-else-at-s
returns-else-at-s g c = sym (set_out _ _ _ (omega arith))
