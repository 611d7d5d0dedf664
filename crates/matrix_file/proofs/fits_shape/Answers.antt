use borrow.Author.Tests.{le-leb, lt-leb}
use Rattle.base.specs.Limits.{max_entries}
use Rattle.matrix_file.proofs.fits_shape.Goals as goal

pub returns-then-e-gt-MAX_ENTRIES : goal.returns-then-e-gt-MAX_ENTRIES
returns-then-e-gt-MAX_ENTRIES c = rw (lt-leb c.args.e max_entries c.if-e-gt-MAX_ENTRIES.true)

pub returns : goal.returns
returns c = rw (le-leb c.args.e max_entries c.if-e-gt-MAX_ENTRIES.false) c.ends_at.ensures
