use Rattle.lookup.proofs.StoredLaws.{named-lent, named-span}
use Rattle.lookup.proofs.Stored.span.Goals as goal

pub span-requires : goal.span-requires
span-requires c = named-lent _ c.args.side c.args.k _ _ _ _ c.named-lists.ensures c.fits.ensures c.fits-2.ensures

pub returns : goal.returns
returns c = named-span _ _ _ _ _ _ _ c.named-lists.ensures _ c.fits.ensures c.fits-2.ensures c.span.ensures
