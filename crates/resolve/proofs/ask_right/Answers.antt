use mathlib.Core.Path.{sym, ◌∙◌}
use mathlib.Core.List.{[]}
use Rattle.matrix.specs.Input.{Input, input_of}
use Rattle.stages.specs.Branches.{never}
use Rattle.stages.specs.Ends.{blank_of}
use Rattle.stages.specs.Asking.{asking-refused, asking-passed}
use Rattle.resolve.specs.AgainLaws.{right-lent, again-due}
use Rattle.resolve.proofs.ask_right.Goals as goal
use Rattle.resolve.proofs.ask_right.Goals.{Start}

abbrev given : Start → Input
given s = let a = s.args in input_of a.n [] [] [] a.r.now a.c.now a.b.now

pub returns-in_err-ask_shape : goal.returns-in_err-ask_shape
returns-in_err-ask_shape c = asking-refused _ _ _ _ _ _ _ _ c.ask_shape.ensures c.in_err-ask_shape.was c.from_residual.ensures.1

pub ask_right-a-requires : goal.ask_right-a-requires
ask_right-a-requires c =
    right-lent c.args.form (given (goal.at.ask_right-a-requires c).Start) c.args.sizes (sym c.ask_shape.ensures ∙ c.in_ok-ask_shape.was) _ c.requires

pub returns-then-is_err : goal.returns-then-is_err
returns-then-is_err c =
    let e = c.clear_scratch.ensures in
    asking-passed _ _ _ _ _ _ _ _ _ c.ask_shape.ensures c.in_ok-ask_shape.was c.ask_right-a.ensures
    (λ h. (e.0, blank_of 0 _ _ _ c.ask_right-a.auto.marks e.1)) (again-due c.args.form (given (goal.at.returns-then-is_err c).Start) c.args.sizes)

pub returns-else-is_err : goal.returns-else-is_err
returns-else-is_err c =
    asking-passed _ _ _ _ _ _ _ _ _ c.ask_shape.ensures c.in_ok-ask_shape.was c.ask_right-a.ensures
    (λ h. never _ c.if-is_err.false (c.is_err.ensures.value ∙ h)) (again-due c.args.form (given (goal.at.returns-else-is_err c).Start) c.args.sizes)
