use mathlib.Core.Path.{sym, ◌∙◌}
use Rattle.matrix.specs.Input.{Input, lent_pattern}
use Rattle.stages.specs.Branches.{never}
use Rattle.stages.specs.ShapedLaws.{structure-shaped, lent_of}
use Rattle.stages.specs.Ends.{blank_of}
use Rattle.stages.specs.Asking.{asking-refused, asking-passed, structure-due}
use Rattle.stages.proofs.ask_structure.Goals as goal
use Rattle.stages.proofs.ask_structure.Goals.{Start}

abbrev given : Start → Input
given s = lent_pattern s.args.input

pub returns-in_err-shape_structure : goal.returns-in_err-shape_structure
returns-in_err-shape_structure c = asking-refused _ _ _ _ _ _ _ _ c.shape_structure.ensures c.in_err-shape_structure.was c.from_residual.ensures.1

pub ask_structure-a-requires : goal.ask_structure-a-requires
ask_structure-a-requires c =
    let s = (goal.at.ask_structure-a-requires c).Start in
    lent_of c.args.form (given s) c.args.sizes (structure-shaped c.args.form (given s) c.args.sizes (sym c.shape_structure.ensures ∙ c.in_ok-shape_structure.was)) _ c.requires

pub returns-then-is_err : goal.returns-then-is_err
returns-then-is_err c =
    let s = (goal.at.returns-then-is_err c).Start in
    let e = c.clear_scratch.ensures in
    asking-passed _ _ _ _ _ _ _ _ _ c.shape_structure.ensures c.in_ok-shape_structure.was c.ask_structure-a.ensures
    (λ h. (e.0, blank_of 0 _ _ _ c.ask_structure-a.auto.marks e.1)) (structure-due c.args.form (given s) c.args.sizes)

pub returns-else-is_err : goal.returns-else-is_err
returns-else-is_err c =
    let s = (goal.at.returns-else-is_err c).Start in
    asking-passed _ _ _ _ _ _ _ _ _ c.shape_structure.ensures c.in_ok-shape_structure.was c.ask_structure-a.ensures
    (λ h. never _ c.if-is_err.false (c.is_err.ensures.value ∙ h)) (structure-due c.args.form (given s) c.args.sizes)
