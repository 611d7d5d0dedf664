use borrow.Author.Tests.{eq-eqb, ne_eqb}
use Rattle.blocks.proofs.ends_at.Goals as goal

pub returns-then-file-size : goal.returns-then-file-size
returns-then-file-size c = rw (ne_eqb _ _ c.if-file-size.true)

pub returns : goal.returns
returns c = rw (eq-eqb _ _ c.if-file-size.false) c.zero_from.ensures
