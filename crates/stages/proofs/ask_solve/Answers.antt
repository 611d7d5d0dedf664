use mathlib.Core.Path.{◌≡◌, sym, ◌∙◌}
use Rattle.matrix.specs.Input.{Input, lent}
use Rattle.outcome.specs.Solve.{shape}
use Rattle.stages.specs.Branches.{never}
use Rattle.stages.specs.Shaped.{pattern}
use Rattle.stages.specs.ShapedLaws.{shape-floor, solve-shaped, lent_of}
use Rattle.stages.specs.Ends.{blank_of}
use Rattle.stages.specs.Asking.{asking-refused, asking-passed, solve-due}
use Rattle.stages.proofs.ask_solve.Goals as goal
use Rattle.stages.proofs.ask_solve.Goals.{After-shape_solve}

abbrev given : After-shape_solve → Input
given s = lent s.args.input

shaped : (s : After-shape_solve) → s.shape_solve.result ≡ shape s.args.form (given s) s.args.sizes
shaped s = s.shape_solve.ensures ∙ shape-floor _ s.args.input.floor _ _

pub returns-in_err-shape_solve : goal.returns-in_err-shape_solve
returns-in_err-shape_solve c = asking-refused _ _ _ _ _ _ _ _ (shaped (goal.at.returns-in_err-shape_solve c).After-shape_solve) c.in_err-shape_solve.was c.from_residual.ensures.1

pub ask_solve-a-requires : goal.ask_solve-a-requires
ask_solve-a-requires c =
    let s = (goal.at.ask_solve-a-requires c).After-shape_solve in
    let h = solve-shaped c.args.form (given s) c.args.sizes (sym (shaped s) ∙ c.in_ok-shape_solve.was) in
    record { lent = lent_of c.args.form (pattern (given s)) c.args.sizes h.structure _ c.requires; values = h.values; right = h.right }

pub returns-then-is_err : goal.returns-then-is_err
returns-then-is_err c =
    let s = (goal.at.returns-then-is_err c).After-shape_solve in
    let e = c.clear_scratch.ensures in
    asking-passed _ _ _ _ _ _ _ _ _ (shaped s) c.in_ok-shape_solve.was c.ask_solve-a.ensures
    (λ h. (e.0, blank_of 0 _ _ _ c.ask_solve-a.auto.marks e.1)) (solve-due c.args.form (given s) c.args.sizes)

pub returns-else-is_err : goal.returns-else-is_err
returns-else-is_err c =
    let s = (goal.at.returns-else-is_err c).After-shape_solve in
    asking-passed _ _ _ _ _ _ _ _ _ (shaped s) c.in_ok-shape_solve.was c.ask_solve-a.ensures
    (λ h. never _ c.if-is_err.false (c.is_err.ensures.value ∙ h)) (solve-due c.args.form (given s) c.args.sizes)
