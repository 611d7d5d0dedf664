use Rattle.lookup.proofs.StoredLaws.{named-fits, named-holds}
use Rattle.lookup.proofs.Stored.list.Goals as goal

pub part-requires : goal.part-requires
part-requires c = named-fits _ _ _ _ _ _ _ c.named-lists.ensures _ c.span.ensures

pub returns-clause-listed : goal.returns-clause-listed
returns-clause-listed c = named-holds _ _ _ _ _ _ _ c.named-lists.ensures _ _ c.span.ensures c.part.ensures.holds
