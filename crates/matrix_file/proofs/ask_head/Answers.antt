use Rattle.std.proofs.Common.{ap}
use mathlib.Core.Bool.{not}
use Rattle.matrix_file.specs.MatrixFile.{ask_head}
use Rattle.blocks.proofs.AskLaws.{then-no, then-yes, holds-no, holds-yes}
use Rattle.matrix.specs.ListsLaws.{range-of}
use Rattle.matrix_file.proofs.ask_head.Goals as goal

pub returns-then-not-rows_within : goal.returns-then-not-rows_within
unfolding ask_head
returns-then-not-rows_within c = then-no _ _ _ _ c.rows_within.ensures (ap not c.if-not-rows_within.true)

pub fits_shape-requires : goal.fits_shape-requires
fits_shape-requires c = range-of _ _ c.rows_within.ensures (ap not c.if-not-rows_within.false)

pub returns-then-not-fits_shape : goal.returns-then-not-fits_shape
unfolding ask_head
returns-then-not-fits_shape c = then-yes _ _ _ _ _ c.rows_within.ensures (ap not c.if-not-rows_within.false) (holds-no _ _ _ c.fits_shape.ensures (ap not c.if-not-fits_shape.true))

pub returns : goal.returns
unfolding ask_head
returns c = then-yes _ _ _ _ _ c.rows_within.ensures (ap not c.if-not-rows_within.false) (holds-yes _ _ _ c.fits_shape.ensures (ap not c.if-not-fits_shape.false))
