use native.Mathlib.Omega.{arith}
use Rattle.storing.specs.TailLaws.{tail-long}
use Rattle.storing.proofs.tail_start.Goals as goal

pub overflow_sub-result : goal.overflow_sub-result
overflow_sub-result c =
    let s = c.requires in
    omega (arith, c.list_length.ensures.0, tail-long _ _ _ _ _ s, s.fits)

pub returns : goal.returns
returns c =
    let s = c.requires in
    omega (arith, c.slot.ensures.0, c.list_length.ensures.0, tail-long _ _ _ _ _ s)
