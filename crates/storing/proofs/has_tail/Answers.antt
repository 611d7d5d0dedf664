use Rattle.storing.specs.TailLaws.{tail-short, tail-told}
use Rattle.storing.proofs.has_tail.Goals as goal

pub returns-then-length-count : goal.returns-then-length-count
returns-then-length-count c = tail-short _ _ _ _ _ _ _ c.requires.tailed c.list_length-length.ensures.0 c.if-length-count.true

pub returns : goal.returns
returns c =
    let s = c.requires in
    tail-told _ _ _ _ _ _ _ s.tailed c.list_length-length.ensures.0 s.count_nonzero c.if-length-count.false _ _ c.slot.ensures.0 c.number.ensures.0
