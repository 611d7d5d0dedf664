use mathlib.Core.Path.{refl, ◌∙◌}
use mathlib.Core.List.{[]}
use Rattle.base.specs.declared.Form.TheVariants.{Plain}
use Rattle.outcome.specs.Buffers.{SideBuffers, side_buffers}
use Rattle.questions.specs.SettledLaws.{structured}
use Rattle.stages.specs.ShapedLaws.{shaped-again, plain-lent}
use Rattle.stages.specs.Asking.{structure-refuses}
use Rattle.stages.specs.Ends.{none-if, structure-ends}
use Rattle.plain_form.proofs.structure_plain.Goals as goal
use Rattle.plain_form.proofs.structure_plain.Goals.{After-analyze_plain-a}

-- the sides as the pass leaves them
abbrev lower : After-analyze_plain-a → SideBuffers
lower s = side_buffers s.analyze_plain-a.new.lower_starts [] s.analyze_plain-a.new.lower_index s.args.lower_values.now

abbrev upper : After-analyze_plain-a → SideBuffers
upper s = side_buffers s.analyze_plain-a.new.upper_starts [] s.analyze_plain-a.new.upper_index s.args.upper_values.now

pub returns-in_err-ask_structure : goal.returns-in_err-ask_structure
returns-in_err-ask_structure c =
    structure-refuses Plain _ _ _ _ _ _ _ _ _ _ _ c.ask_structure.ensures _ c.in_err-ask_structure.was c.from_residual.ensures.1

pub analyze_plain-a-requires : goal.analyze_plain-a-requires
analyze_plain-a-requires c =
    let p = c.ask_structure in
    let q = p.ensures.due c.in_ok-ask_structure.was in
    plain-lent _ _ _ _ _ _ _ _ _ _ _ _ _ (shaped-again Plain _ _ _ _ _ _ _ _ p.auto.marks q.shaped) (structured _ q.passed)

pub returns : goal.returns
returns c =
    let p = c.analyze_plain-a in
    let a = c.ask_structure in
    structure-ends Plain _ _ _ (lower (goal.at.returns c).After-analyze_plain-a) (upper (goal.at.returns c).After-analyze_plain-a) _ _ _ _ _ _ _ _ _ _ _ _ _ _ a.ensures c.in_ok-ask_structure.was p.ensures c.is_err-refused.ensures.value (λ h. refl) (λ h. refl)
    (record { starts = p.auto.lower_starts; runs = refl; index = p.auto.lower_index; values = refl })
    (record { starts = p.auto.upper_starts; runs = refl; index = p.auto.upper_index; values = refl })
    a.auto.work (p.auto.marks ∙ a.auto.marks)
    (record { starts = c.clear_lists_if.ensures.0; runs = none-if c.is_err-refused.result 0; index = c.clear_lists_if.ensures.1; values = c.clear.ensures })
    (record { starts = c.clear_lists_if-2.ensures.0; runs = none-if c.is_err-refused.result 0; index = c.clear_lists_if-2.ensures.1; values = c.clear-2.ensures })
    c.clear_scratch.ensures

pub shape_of-work-in_err-ask_structure : goal.shape_of-work-in_err-ask_structure
shape_of-work-in_err-ask_structure c = c.ask_structure.auto.work

pub shape_of-marks-in_err-ask_structure : goal.shape_of-marks-in_err-ask_structure
shape_of-marks-in_err-ask_structure c = c.ask_structure.auto.marks

pub shape_of-lower_starts : goal.shape_of-lower_starts
shape_of-lower_starts c = c.clear_lists_if.auto.starts ∙ c.analyze_plain-a.auto.lower_starts

pub shape_of-lower_index : goal.shape_of-lower_index
shape_of-lower_index c = c.clear_lists_if.auto.index ∙ c.analyze_plain-a.auto.lower_index

pub shape_of-lower_values : goal.shape_of-lower_values
shape_of-lower_values c = c.clear.auto.s

pub shape_of-upper_starts : goal.shape_of-upper_starts
shape_of-upper_starts c = c.clear_lists_if-2.auto.starts ∙ c.analyze_plain-a.auto.upper_starts

pub shape_of-upper_index : goal.shape_of-upper_index
shape_of-upper_index c = c.clear_lists_if-2.auto.index ∙ c.analyze_plain-a.auto.upper_index

pub shape_of-upper_values : goal.shape_of-upper_values
shape_of-upper_values c = c.clear-2.auto.s

pub shape_of-work : goal.shape_of-work
shape_of-work c = c.clear_scratch.auto.work ∙ c.ask_structure.auto.work

pub shape_of-marks : goal.shape_of-marks
shape_of-marks c = c.clear_scratch.auto.marks ∙ c.analyze_plain-a.auto.marks ∙ c.ask_structure.auto.marks
