use Rattle.base.specs.Limits.{max_entries}
use Rattle.matrix.specs.Shape.{shape_of}
use borrow.Author.Tests.{le-leb, lt-leb}
use native.Mathlib.Omega.{arith}
use Rattle.matrix.proofs.Matrix.new.Goals as goal

pub returns-then-e-le-MAX_ENTRIES : goal.returns-then-e-le-MAX_ENTRIES
unfolding shape_of
returns-then-e-le-MAX_ENTRIES c = rw (← c.rows_within.ensures, c.if-rows_within.true, le-leb c.args.e max_entries c.if-e-le-MAX_ENTRIES.true)

pub returns-then-rows_within : goal.returns-then-rows_within
unfolding shape_of
returns-then-rows_within c = rw (← c.rows_within.ensures, c.if-rows_within.true, lt-leb c.args.e max_entries (omega arith))

pub returns : goal.returns
unfolding shape_of
returns c = rw (← c.rows_within.ensures, c.if-rows_within.false)
