use mathlib.Core.Path.{refl, sym, ap, ◌∙◌}
use Rattle.std.specs.Prelude.{is_err}
use Rattle.base.specs.FirstLaws.{passed-on}
use Rattle.fill_sheet.proofs.Call.{wrong-out, refused-left, print-lent, done-left}
use Rattle.fill_sheet.proofs.fill_sheet.Goals as goal

pub returns-then-wrong_length : goal.returns-then-wrong_length
returns-then-wrong_length c = wrong-out _ _ _ _ c.wrong_length.ensures c.if-wrong_length.true

pub returns-in_err-counts : goal.returns-in_err-counts
returns-in_err-counts c =
    rw (passed-on _ _ c.from_residual.ensures.1 ∙ sym c.in_err-counts.was)
    (refused-left _ _ _ _ c.wrong_length.ensures c.if-wrong_length.false _ _ _ refl (ap is_err c.in_err-counts.was) c.structure_shared.ensures)

pub print-requires : goal.print-requires
print-requires c =
    print-lent _ _ _ _ _ refl (ap is_err c.in_ok-counts.was) c.structure_shared.ensures

pub returns : goal.returns
returns c =
    let h = done-left _ _ _ _ c.wrong_length.ensures c.if-wrong_length.false _ _ _ c.print.ensures _ _ refl (ap is_err c.in_ok-counts.was) c.structure_shared.ensures in
    rw c.in_ok-counts.was at h

pub shape_of-lower_starts-in_err-counts : goal.shape_of-lower_starts-in_err-counts
shape_of-lower_starts-in_err-counts c = c.structure_shared.auto.lower_starts

pub shape_of-lower_runs-in_err-counts : goal.shape_of-lower_runs-in_err-counts
shape_of-lower_runs-in_err-counts c = c.structure_shared.auto.lower_runs

pub shape_of-lower_index-in_err-counts : goal.shape_of-lower_index-in_err-counts
shape_of-lower_index-in_err-counts c = c.structure_shared.auto.lower_index

pub shape_of-lower_values-in_err-counts : goal.shape_of-lower_values-in_err-counts
shape_of-lower_values-in_err-counts c = c.structure_shared.auto.lower_values

pub shape_of-upper_starts-in_err-counts : goal.shape_of-upper_starts-in_err-counts
shape_of-upper_starts-in_err-counts c = c.structure_shared.auto.upper_starts

pub shape_of-upper_runs-in_err-counts : goal.shape_of-upper_runs-in_err-counts
shape_of-upper_runs-in_err-counts c = c.structure_shared.auto.upper_runs

pub shape_of-upper_index-in_err-counts : goal.shape_of-upper_index-in_err-counts
shape_of-upper_index-in_err-counts c = c.structure_shared.auto.upper_index

pub shape_of-upper_values-in_err-counts : goal.shape_of-upper_values-in_err-counts
shape_of-upper_values-in_err-counts c = c.structure_shared.auto.upper_values

pub shape_of-work-in_err-counts : goal.shape_of-work-in_err-counts
shape_of-work-in_err-counts c = c.structure_shared.auto.work

pub shape_of-marks-in_err-counts : goal.shape_of-marks-in_err-counts
shape_of-marks-in_err-counts c = c.structure_shared.auto.marks

pub shape_of-lower_starts : goal.shape_of-lower_starts
shape_of-lower_starts c = c.structure_shared.auto.lower_starts

pub shape_of-lower_runs : goal.shape_of-lower_runs
shape_of-lower_runs c = c.structure_shared.auto.lower_runs

pub shape_of-lower_index : goal.shape_of-lower_index
shape_of-lower_index c = c.structure_shared.auto.lower_index

pub shape_of-lower_values : goal.shape_of-lower_values
shape_of-lower_values c = c.structure_shared.auto.lower_values

pub shape_of-upper_starts : goal.shape_of-upper_starts
shape_of-upper_starts c = c.structure_shared.auto.upper_starts

pub shape_of-upper_runs : goal.shape_of-upper_runs
shape_of-upper_runs c = c.structure_shared.auto.upper_runs

pub shape_of-upper_index : goal.shape_of-upper_index
shape_of-upper_index c = c.structure_shared.auto.upper_index

pub shape_of-upper_values : goal.shape_of-upper_values
shape_of-upper_values c = c.structure_shared.auto.upper_values

pub shape_of-work : goal.shape_of-work
shape_of-work c = c.structure_shared.auto.work

pub shape_of-marks : goal.shape_of-marks
shape_of-marks c = c.print.auto.counts ∙ c.structure_shared.auto.marks

pub shape_of-sheet : goal.shape_of-sheet
shape_of-sheet c = c.print.auto.out
