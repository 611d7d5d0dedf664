use mathlib.Core.Path.{refl, ◌∙◌}
use Rattle.base.specs.declared.Form.TheVariants.{Plain}
use Rattle.stages.specs.ShapedLaws.{due-again}
use Rattle.stages.specs.Asking.{solve-refuses}
use Rattle.stages.specs.Ends.{none-if, solve-ends}
use Rattle.plain_form.proofs.solve_plain.Goals as goal

pub returns-in_err-ask_solve : goal.returns-in_err-ask_solve
returns-in_err-ask_solve c =
    solve-refuses Plain _ _ _ _ _ _ _ _ _ _ _ c.ask_solve.ensures _ c.in_err-ask_solve.was c.from_residual.ensures.1

pub analyze_and_solve-a-requires : goal.analyze_and_solve-a-requires
analyze_and_solve-a-requires c =
    let p = c.ask_solve in
    due-again Plain _ _ _ _ _ _ _ _ _ p.auto.work p.auto.marks (p.ensures.due c.in_ok-ask_solve.was)

pub returns : goal.returns
returns c =
    let p = c.analyze_and_solve-a in
    let a = c.ask_solve in
    let n = c.clear_numbers_if.ensures in
    solve-ends Plain _ _ _ _ _ _ _ _ _ _ _ _ _ _ _ _ _ _ _ _ _ _ _ a.ensures c.in_ok-ask_solve.was p.ensures c.is_err-refused.ensures.value
    a.auto.work a.auto.marks
    (record { starts = p.auto.lower_starts; runs = refl; index = p.auto.lower_index; values = p.auto.lower_values })
    (record { starts = p.auto.upper_starts; runs = refl; index = p.auto.upper_index; values = p.auto.upper_values })
    p.auto.d p.auto.work p.auto.marks
    (record { starts = c.clear_lists_if.ensures.0; runs = none-if c.is_err-refused.result 0; index = c.clear_lists_if.ensures.1; values = n.0 })
    (record { starts = c.clear_lists_if-2.ensures.0; runs = none-if c.is_err-refused.result 0; index = c.clear_lists_if-2.ensures.1; values = n.1 })
    n.2 c.clear_scratch.ensures

pub shape_of-work-in_err-ask_solve : goal.shape_of-work-in_err-ask_solve
shape_of-work-in_err-ask_solve c = c.ask_solve.auto.work

pub shape_of-marks-in_err-ask_solve : goal.shape_of-marks-in_err-ask_solve
shape_of-marks-in_err-ask_solve c = c.ask_solve.auto.marks

pub shape_of-lower_starts : goal.shape_of-lower_starts
shape_of-lower_starts c = c.clear_lists_if.auto.starts ∙ c.analyze_and_solve-a.auto.lower_starts

pub shape_of-lower_index : goal.shape_of-lower_index
shape_of-lower_index c = c.clear_lists_if.auto.index ∙ c.analyze_and_solve-a.auto.lower_index

pub shape_of-lower_values : goal.shape_of-lower_values
shape_of-lower_values c = c.clear_numbers_if.auto.lower ∙ c.analyze_and_solve-a.auto.lower_values

pub shape_of-upper_starts : goal.shape_of-upper_starts
shape_of-upper_starts c = c.clear_lists_if-2.auto.starts ∙ c.analyze_and_solve-a.auto.upper_starts

pub shape_of-upper_index : goal.shape_of-upper_index
shape_of-upper_index c = c.clear_lists_if-2.auto.index ∙ c.analyze_and_solve-a.auto.upper_index

pub shape_of-upper_values : goal.shape_of-upper_values
shape_of-upper_values c = c.clear_numbers_if.auto.upper ∙ c.analyze_and_solve-a.auto.upper_values

pub shape_of-d : goal.shape_of-d
shape_of-d c = c.clear_numbers_if.auto.d ∙ c.analyze_and_solve-a.auto.d

pub shape_of-x : goal.shape_of-x
shape_of-x c = c.analyze_and_solve-a.auto.x

pub shape_of-work : goal.shape_of-work
shape_of-work c = c.clear_scratch.auto.work ∙ c.analyze_and_solve-a.auto.work ∙ c.ask_solve.auto.work

pub shape_of-marks : goal.shape_of-marks
shape_of-marks c = c.clear_scratch.auto.marks ∙ c.analyze_and_solve-a.auto.marks ∙ c.ask_solve.auto.marks
