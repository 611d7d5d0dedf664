use mathlib.Core.Path.{refl, ◌∙◌}
use mathlib.Core.Bool.{true}
use Rattle.base.specs.Lists.{nought}
use Rattle.base.specs.declared.Form.TheVariants.{ByRow}
use Rattle.stages.specs.ShapedLaws.{due-again}
use Rattle.stages.specs.Asking.{solve-refuses}
use Rattle.stages.specs.Ends.{none-if, solve-ends}
use Rattle.row_form.proofs.solve_row.Goals as goal

pub returns-in_err-ask_solve : goal.returns-in_err-ask_solve
returns-in_err-ask_solve c =
    solve-refuses ByRow _ _ _ _ _ _ _ _ _ _ _ c.ask_solve.ensures _ c.in_err-ask_solve.was c.from_residual.ensures.1

pub analyze_and_solve-a-requires : goal.analyze_and_solve-a-requires
analyze_and_solve-a-requires c =
    let p = c.ask_solve in
    due-again ByRow _ _ _ _ _ _ _ _ _ p.auto.work p.auto.marks (p.ensures.due c.in_ok-ask_solve.was)

pub returns : goal.returns
returns c =
    let p = c.analyze_and_solve-a in
    let a = c.ask_solve in
    solve-ends ByRow _ _ _ _ _ _ _ _ _ _ _ _ _ _ _ _ _ _ _ _ _ _ true a.ensures c.in_ok-ask_solve.was p.ensures refl
    a.auto.work a.auto.marks
    (record { starts = refl; runs = refl; index = refl; values = refl })
    (record { starts = p.auto.upper_starts; runs = p.auto.upper_runs; index = p.auto.upper_index; values = p.auto.upper_values })
    p.auto.d p.auto.work p.auto.marks
    (record { starts = none-if true 0; runs = none-if true 0; index = none-if true 0; values = none-if true nought })
    (record { starts = c.clear.ensures; runs = c.clear-2.ensures; index = c.clear-3.ensures; values = c.clear-4.ensures })
    c.clear-5.ensures c.clear_scratch.ensures

pub shape_of-work-in_err-ask_solve : goal.shape_of-work-in_err-ask_solve
shape_of-work-in_err-ask_solve c = c.ask_solve.auto.work

pub shape_of-marks-in_err-ask_solve : goal.shape_of-marks-in_err-ask_solve
shape_of-marks-in_err-ask_solve c = c.ask_solve.auto.marks

pub shape_of-upper_starts : goal.shape_of-upper_starts
shape_of-upper_starts c = c.clear.auto.s ∙ c.analyze_and_solve-a.auto.upper_starts

pub shape_of-upper_runs : goal.shape_of-upper_runs
shape_of-upper_runs c = c.clear-2.auto.s ∙ c.analyze_and_solve-a.auto.upper_runs

pub shape_of-upper_index : goal.shape_of-upper_index
shape_of-upper_index c = c.clear-3.auto.s ∙ c.analyze_and_solve-a.auto.upper_index

pub shape_of-upper_values : goal.shape_of-upper_values
shape_of-upper_values c = c.clear-4.auto.s ∙ c.analyze_and_solve-a.auto.upper_values

pub shape_of-d : goal.shape_of-d
shape_of-d c = c.clear-5.auto.s ∙ c.analyze_and_solve-a.auto.d

pub shape_of-x : goal.shape_of-x
shape_of-x c = c.analyze_and_solve-a.auto.x

pub shape_of-work : goal.shape_of-work
shape_of-work c = c.clear_scratch.auto.work ∙ c.analyze_and_solve-a.auto.work ∙ c.ask_solve.auto.work

pub shape_of-marks : goal.shape_of-marks
shape_of-marks c = c.clear_scratch.auto.marks ∙ c.analyze_and_solve-a.auto.marks ∙ c.ask_solve.auto.marks
