use Rattle.std.proofs.Common.{ap}
use mathlib.Core.Bool.{not}
use Rattle.matrix.specs.ListsLaws.{range-of}
use Rattle.factor_writing.proofs.WriteLaws.{ask-1, ask-fit, ask-file, ask-pass, slots-few}
use Rattle.factor_writing.proofs.ask_lengths.Goals as goal

pub returns-then-not-rows_within : goal.returns-then-not-rows_within
returns-then-not-rows_within c = ask-1 _ _ _ _ _ _ c.rows_within.ensures (ap not c.if-not-rows_within.true)

pub lengths_fit-requires : goal.lengths_fit-requires
lengths_fit-requires c = range-of _ _ c.rows_within.ensures (ap not c.if-not-rows_within.false)

pub returns-then-not-lengths_fit : goal.returns-then-not-lengths_fit
returns-then-not-lengths_fit c = ask-fit _ _ _ _ _ _ c.rows_within.ensures (ap not c.if-not-rows_within.false) _ c.lengths_fit.ensures (ap not c.if-not-lengths_fit.true)

pub file_fits-requires : goal.file_fits-requires
file_fits-requires c =
    let a = c.args in
    let few = slots-few a.n a.lower a.upper a.r a.c a.lower_starts a.lower_index a.lower_values a.upper_starts a.upper_index a.upper_values a.d _ c.lengths_fit.ensures (ap not c.if-not-lengths_fit.false) in
    (range-of _ _ c.rows_within.ensures (ap not c.if-not-rows_within.false), few.0, few.1)

pub returns-then-not-file_fits : goal.returns-then-not-file_fits
returns-then-not-file_fits c = ask-file _ _ _ _ _ _ c.rows_within.ensures (ap not c.if-not-rows_within.false) _ c.lengths_fit.ensures (ap not c.if-not-lengths_fit.false) _ c.file_fits.ensures (ap not c.if-not-file_fits.true)

pub returns : goal.returns
returns c = ask-pass _ _ _ _ _ _ c.rows_within.ensures (ap not c.if-not-rows_within.false) _ c.lengths_fit.ensures (ap not c.if-not-lengths_fit.false) _ c.file_fits.ensures (ap not c.if-not-file_fits.false)
