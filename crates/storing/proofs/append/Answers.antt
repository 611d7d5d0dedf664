use native.Mathlib.Omega.{arith}
use Rattle.storing.specs.LoopLaws.{append-turn}
use Rattle.storing.proofs.append.Goals as goal

pub loop-j-preserved : goal.loop-j-preserved
loop-j-preserved c =
    append-turn c.args.index.now c.loop-j.index c.args.rest.now c.args.used c.loop-j.j _ c.loop-j.invariant c.narrow.ensures (omega arith) c.requires.rest_in_bounds
