use mathlib.Core.Path.{refl, ◌∙◌}
use Rattle.base.specs.declared.Form.TheVariants.{ByRow}
use Rattle.questions.specs.SettledLaws.{settled}
use Rattle.stages.specs.ShapedLaws.{row-lent, pattern-structured}
use Rattle.stages.specs.Branches.{answer-err, answer-ok}
use Rattle.stages.specs.Ends.{leaves-passed-on, row-due, row-leaves}
use Rattle.row_form.proofs.analyze_and_solve.Goals as goal

pub analyze_by_row-requires : goal.analyze_by_row-requires
analyze_by_row-requires c = let h = c.requires in row-lent _ _ _ _ _ _ _ _ _ _ h.shaped.structure (pattern-structured _ (settled _ h.passed).structured)

pub returns-in_err-counts : goal.returns-in_err-counts
returns-in_err-counts c = leaves-passed-on ByRow _ _ _ _ _ _ _ _ _ c.analyze_by_row.ensures _ _ c.in_err-counts.was c.from_residual.ensures.1 refl

pub factor_and_solve-requires : goal.factor_and_solve-requires
factor_and_solve-requires c =
    row-due _ _ _ _ _ _ _ _ _ _ _ _ _ _ _ _ c.analyze_by_row.ensures c.in_ok-counts.was c.requires c.analyze_by_row.auto.marks refl refl refl refl

pub returns-in_err-factor_and_solve : goal.returns-in_err-factor_and_solve
returns-in_err-factor_and_solve c =
    let q = c.factor_and_solve in
    row-leaves _ _ _ _ _ _ _ _ _ _ _ _ _ _ q.new.lower_values _ _ _ _ _ _ _ _ c.analyze_by_row.ensures c.in_ok-counts.was q.ensures (answer-err _ _ _ _ c.in_err-factor_and_solve.was c.from_residual-in_err-factor_and_solve.ensures.1) q.auto.lower_values

pub returns : goal.returns
returns c =
    let q = c.factor_and_solve in
    row-leaves _ _ _ _ _ _ _ _ _ _ _ _ _ _ q.new.lower_values _ _ _ _ _ _ _ _ c.analyze_by_row.ensures c.in_ok-counts.was q.ensures (answer-ok _ _ c.in_ok-factor_and_solve.was) q.auto.lower_values

pub shape_of-upper_starts-in_err-counts : goal.shape_of-upper_starts-in_err-counts
shape_of-upper_starts-in_err-counts c = c.analyze_by_row.auto.upper_starts

pub shape_of-upper_runs-in_err-counts : goal.shape_of-upper_runs-in_err-counts
shape_of-upper_runs-in_err-counts c = c.analyze_by_row.auto.upper_runs

pub shape_of-upper_index-in_err-counts : goal.shape_of-upper_index-in_err-counts
shape_of-upper_index-in_err-counts c = c.analyze_by_row.auto.upper_index

pub shape_of-marks-in_err-counts : goal.shape_of-marks-in_err-counts
shape_of-marks-in_err-counts c = c.analyze_by_row.auto.marks

pub shape_of-upper_starts : goal.shape_of-upper_starts
shape_of-upper_starts c = c.analyze_by_row.auto.upper_starts

pub shape_of-upper_runs : goal.shape_of-upper_runs
shape_of-upper_runs c = c.analyze_by_row.auto.upper_runs

pub shape_of-upper_index : goal.shape_of-upper_index
shape_of-upper_index c = c.analyze_by_row.auto.upper_index

pub shape_of-upper_values : goal.shape_of-upper_values
shape_of-upper_values c = c.factor_and_solve.auto.upper_values

pub shape_of-d : goal.shape_of-d
shape_of-d c = c.factor_and_solve.auto.d

pub shape_of-x : goal.shape_of-x
shape_of-x c = c.factor_and_solve.auto.x

pub shape_of-work : goal.shape_of-work
shape_of-work c = c.factor_and_solve.auto.work

pub shape_of-marks : goal.shape_of-marks
shape_of-marks c = c.factor_and_solve.auto.marks ∙ c.analyze_by_row.auto.marks

pub shape_of-upper_starts-in_err-factor_and_solve : goal.shape_of-upper_starts-in_err-factor_and_solve
shape_of-upper_starts-in_err-factor_and_solve c = c.analyze_by_row.auto.upper_starts

pub shape_of-upper_runs-in_err-factor_and_solve : goal.shape_of-upper_runs-in_err-factor_and_solve
shape_of-upper_runs-in_err-factor_and_solve c = c.analyze_by_row.auto.upper_runs

pub shape_of-upper_index-in_err-factor_and_solve : goal.shape_of-upper_index-in_err-factor_and_solve
shape_of-upper_index-in_err-factor_and_solve c = c.analyze_by_row.auto.upper_index

pub shape_of-upper_values-in_err-factor_and_solve : goal.shape_of-upper_values-in_err-factor_and_solve
shape_of-upper_values-in_err-factor_and_solve c = c.factor_and_solve.auto.upper_values

pub shape_of-d-in_err-factor_and_solve : goal.shape_of-d-in_err-factor_and_solve
shape_of-d-in_err-factor_and_solve c = c.factor_and_solve.auto.d

pub shape_of-x-in_err-factor_and_solve : goal.shape_of-x-in_err-factor_and_solve
shape_of-x-in_err-factor_and_solve c = c.factor_and_solve.auto.x

pub shape_of-work-in_err-factor_and_solve : goal.shape_of-work-in_err-factor_and_solve
shape_of-work-in_err-factor_and_solve c = c.factor_and_solve.auto.work

pub shape_of-marks-in_err-factor_and_solve : goal.shape_of-marks-in_err-factor_and_solve
shape_of-marks-in_err-factor_and_solve c = c.factor_and_solve.auto.marks ∙ c.analyze_by_row.auto.marks
