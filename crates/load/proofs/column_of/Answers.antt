use mathlib.Core.Path.{refl}
use native.Mathlib.Nat.{mod-lt}
use Rattle.load.specs.Load.{column_of}
use Rattle.load.proofs.column_of.Goals as goal

pub returns : goal.returns
unfolding column_of
returns c = (refl, mod-lt _ {m = c.args.n} c.requires)
