use Prim.Native.Nat.{◌*◌}
use Rattle.factor.proofs.Parts.{part-from}
use Rattle.factor.proofs.lower_part.Goals as goal

pub returns : goal.returns
returns c = part-from c.args.marks.now (5 * c.args.n) c.args.below
