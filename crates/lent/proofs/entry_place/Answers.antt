use Rattle.lent.specs.Reading.{order_of}
use Rattle.lent.specs.ReadingLaws.{place_is}
use Rattle.lent.proofs.entry_place.Goals as goal

pub returns : goal.returns
returns c =
    place_is c.place_of-place.result (order_of c.args.n c.args.marks.now) c.number.result _ c.place_of-place.ensures c.number.ensures.0
