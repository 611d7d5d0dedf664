use mathlib.Core.Path.{sym, ap, ◌∙◌}
use Rattle.std.specs.Prelude.{is_err}
use Rattle.base.specs.FirstLaws.{passed-on}
use Rattle.matrix.specs.Input.{Input, lent}
use Rattle.outcome.specs.Buffers.{Buffers, sizes}
use Rattle.comparison.specs.Comparing.{form_of, buffers_by}
use Rattle.stages.specs.Asking.{SolveAsking}
use Rattle.stages.specs.Ends.{blank_of}
use Rattle.refactor.specs.PresentedLaws.{presenting, asked_by, earlier-stop, presented-stop, presented-pass}
use Rattle.refactor.proofs.ask.Goals as goal
use Rattle.refactor.proofs.ask.Goals.{After-ask_solve}

abbrev given : After-ask_solve → Input
given s = lent s.args.input

abbrev buffers : After-ask_solve → Buffers
buffers s = let a = s.args in buffers_by a.way a.lower_starts.now a.lower_runs.now a.lower_index.now a.lower_values.now a.upper_starts.now a.upper_runs.now a.upper_index.now a.upper_values.now a.d.now a.x.now a.work.now a.marks.now

asked : (s : After-ask_solve) → SolveAsking (form_of s.args.way) (given s) (sizes (buffers s)) s.args.work.now s.args.marks.now s.ask_solve.new.work s.ask_solve.new.marks s.ask_solve.result
asked s = asked_by _ _ _ _ _ _ _ _ _ _ _ _ _ _ _ _ _ _ _ _ _ _ s.form_of-form.ensures s.runs_lent-below.ensures s.runs_lent-above.ensures s.ask_solve.ensures

pub returns-in_err-ask_solve : goal.returns-in_err-ask_solve
returns-in_err-ask_solve c =
    let s = (goal.at.returns-in_err-ask_solve c).After-ask_solve in
    rw (passed-on _ _ c.from_residual.ensures.1 ∙ sym c.in_err-ask_solve.was) (earlier-stop c.args.way (given s) _ _ _ _ _ _ _ _ _ _ _ _ _ _ _ (asked s) (ap is_err c.in_err-ask_solve.was))

pub compare-same-requires : goal.compare-same-requires
compare-same-requires c =
    let s = (goal.at.compare-same-requires c).After-ask_solve in
    presenting c.args.way (given s) _ _ _ _ _ _ _ _ _ _ _ _ _ ((asked s).due c.in_ok-ask_solve.was) c.ask_solve.auto.marks c.requires.0 c.requires.1

pub returns-then-is_err : goal.returns-then-is_err
returns-then-is_err c =
    let e = c.clear_scratch.ensures in
    let s = (goal.at.returns-then-is_err c).After-ask_solve in
    presented-stop c.args.way (given s) _ _ _ _ _ _ _ _ _ _ _ _ _ _ _ (asked s) _ _ _ _ c.in_ok-ask_solve.was c.compare-same.ensures (sym c.is_err.ensures.value ∙ c.if-is_err.true)
    (blank_of _ _ _ _ c.ask_solve.auto.work e.0, blank_of _ _ _ _ (c.compare-same.auto.marks ∙ c.ask_solve.auto.marks) e.1)

pub returns-else-is_err : goal.returns-else-is_err
returns-else-is_err c =
    let s = (goal.at.returns-else-is_err c).After-ask_solve in
    presented-pass c.args.way (given s) _ _ _ _ _ _ _ _ _ _ _ _ _ _ _ (asked s) _ _ _ c.in_ok-ask_solve.was c.compare-same.ensures (sym c.is_err.ensures.value ∙ c.if-is_err.false)
    c.ask_solve.auto.work (c.compare-same.auto.marks ∙ c.ask_solve.auto.marks)

pub shape_of-work-in_err-ask_solve : goal.shape_of-work-in_err-ask_solve
shape_of-work-in_err-ask_solve c = c.ask_solve.auto.work

pub shape_of-marks-in_err-ask_solve : goal.shape_of-marks-in_err-ask_solve
shape_of-marks-in_err-ask_solve c = c.ask_solve.auto.marks

pub shape_of-work-then-is_err : goal.shape_of-work-then-is_err
shape_of-work-then-is_err c = c.clear_scratch.auto.work ∙ c.ask_solve.auto.work

pub shape_of-marks-then-is_err : goal.shape_of-marks-then-is_err
shape_of-marks-then-is_err c = c.clear_scratch.auto.marks ∙ c.compare-same.auto.marks ∙ c.ask_solve.auto.marks

pub shape_of-work-else-is_err : goal.shape_of-work-else-is_err
shape_of-work-else-is_err c = c.ask_solve.auto.work

pub shape_of-marks-else-is_err : goal.shape_of-marks-else-is_err
shape_of-marks-else-is_err c = c.compare-same.auto.marks ∙ c.ask_solve.auto.marks
