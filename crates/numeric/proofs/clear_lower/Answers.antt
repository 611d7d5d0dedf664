use Rattle.numeric.proofs.Turns.{zero_turn, zero-end}
use lib.ListN.{length}
use Prim.Native.Nat.{◌<◌}
use mathlib.Core.Path.{◌≡◌, sym, ◌∙◌}
use native.Mathlib.Omega.{arith}
use Rattle.numeric.proofs.clear_lower.Goals as goal

pub loop-i-preserved : goal.loop-i-preserved
unfolding lib.Ieee.of_bits
loop-i-preserved c =
    let l = c.loop-i in
    zero_turn c.args.places.now l.w l.i-index _ c.slot.ensures.0 c.loop-i-test.true ∙ l.invariant

pub returns : goal.returns
returns c = sym (zero-end c.args.places.now c.loop-i.w c.loop-i.i-index c.loop-i-test.false) ∙ c.loop-i.invariant
