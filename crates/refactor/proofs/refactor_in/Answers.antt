use mathlib.Core.Path.{refl, sym, ap, ◌∙◌}
use Rattle.std.specs.Prelude.{is_err}
use Rattle.base.specs.FirstLaws.{passed-on}
use Rattle.refactor.specs.PresentedLaws.{due-by, refactor-stops, refactor-ends}
use Rattle.refactor.proofs.refactor_in.Goals as goal

pub returns-in_err-ask : goal.returns-in_err-ask
returns-in_err-ask c =
    refactor-stops c.args.way _ _ _ _ _ _ _ _ _ _ _ _ _ _ _ _ c.ask.ensures _ (ap is_err c.in_err-ask.was) (passed-on _ _ c.from_residual.ensures.1 ∙ sym c.in_err-ask.was)

pub factor_and_solve-fault-requires : goal.factor_and_solve-fault-requires
factor_and_solve-fault-requires c =
    due-by _ _ _ _ _ _ c.form_of-form.ensures (c.ask.ensures.due c.in_ok-ask.was)

pub returns : goal.returns
returns c =
    let q = c.factor_and_solve-fault in
    let n = c.clear_numbers_if.ensures in
    refactor-ends c.args.way _ _ _ _ _ _ _ _ _ _ _ _ _ _ _ _ c.ask.ensures _ _ _ _ _ _ _ _ _ _ _ _ _ _ _ c.in_ok-ask.was c.form_of-form.ensures q.ensures c.is_err-refused.ensures.value refl
    q.auto.lower_values q.auto.upper_values q.auto.d (q.auto.work ∙ c.ask.auto.work) (q.auto.marks ∙ c.ask.auto.marks)
    n.0 n.1 n.2 c.clear_scratch.ensures

pub ask-requires : goal.ask-requires
ask-requires c = c.requires

pub shape_of-lower_values-in_err-ask : goal.shape_of-lower_values-in_err-ask
shape_of-lower_values-in_err-ask c = refl

pub shape_of-upper_values-in_err-ask : goal.shape_of-upper_values-in_err-ask
shape_of-upper_values-in_err-ask c = refl

pub shape_of-d-in_err-ask : goal.shape_of-d-in_err-ask
shape_of-d-in_err-ask c = refl

pub shape_of-x-in_err-ask : goal.shape_of-x-in_err-ask
shape_of-x-in_err-ask c = refl

pub shape_of-work-in_err-ask : goal.shape_of-work-in_err-ask
shape_of-work-in_err-ask c = c.ask.auto.work

pub shape_of-marks-in_err-ask : goal.shape_of-marks-in_err-ask
shape_of-marks-in_err-ask c = c.ask.auto.marks

pub shape_of-lower_values : goal.shape_of-lower_values
shape_of-lower_values c = c.clear_numbers_if.auto.lower ∙ c.factor_and_solve-fault.auto.lower_values

pub shape_of-upper_values : goal.shape_of-upper_values
shape_of-upper_values c = c.clear_numbers_if.auto.upper ∙ c.factor_and_solve-fault.auto.upper_values

pub shape_of-d : goal.shape_of-d
shape_of-d c = c.clear_numbers_if.auto.d ∙ c.factor_and_solve-fault.auto.d

pub shape_of-x : goal.shape_of-x
shape_of-x c = c.factor_and_solve-fault.auto.x

pub shape_of-work : goal.shape_of-work
shape_of-work c = c.clear_scratch.auto.work ∙ c.factor_and_solve-fault.auto.work ∙ c.ask.auto.work

pub shape_of-marks : goal.shape_of-marks
shape_of-marks c = c.clear_scratch.auto.marks ∙ c.factor_and_solve-fault.auto.marks ∙ c.ask.auto.marks
