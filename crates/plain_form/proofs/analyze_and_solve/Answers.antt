use mathlib.Core.Path.{refl, ◌∙◌}
use Rattle.base.specs.declared.Form.TheVariants.{Plain}
use Rattle.questions.specs.SettledLaws.{settled}
use Rattle.stages.specs.ShapedLaws.{plain-lent, pattern-structured}
use Rattle.stages.specs.Branches.{answer-err, answer-ok}
use Rattle.stages.specs.Ends.{leaves-passed-on, both-due, both-leaves}
use Rattle.plain_form.proofs.analyze_and_solve.Goals as goal

pub analyze_plain-requires : goal.analyze_plain-requires
analyze_plain-requires c = let h = c.requires in plain-lent _ _ _ _ _ _ _ _ _ _ _ _ _ h.shaped.structure (pattern-structured _ (settled _ h.passed).structured)

pub returns-in_err-counts : goal.returns-in_err-counts
returns-in_err-counts c = leaves-passed-on Plain _ _ _ _ _ _ _ _ _ c.analyze_plain.ensures.found _ _ c.in_err-counts.was c.from_residual.ensures.1 refl

pub factor_and_solve-requires : goal.factor_and_solve-requires
factor_and_solve-requires c =
    both-due Plain _ _ _ _ _ _ _ _ _ _ _ _ _ _ _ _ _ c.analyze_plain.ensures c.in_ok-counts.was c.requires c.analyze_plain.auto.marks refl refl refl (λ h. h)

pub returns-in_err-factor_and_solve : goal.returns-in_err-factor_and_solve
returns-in_err-factor_and_solve c =
    let p = c.analyze_plain in
    let q = c.factor_and_solve in
    both-leaves Plain _ _ _ _ _ _ _ _ _ _ _ _ _ _ _ _ _ _ _ _ _ _ _ _ _ _ _ _ _ _ _ _ p.ensures c.in_ok-counts.was q.ensures (answer-err _ _ _ _ c.in_err-factor_and_solve.was c.from_residual-in_err-factor_and_solve.ensures.1)
    p.auto.lower_starts refl p.auto.lower_index q.auto.lower_values
    p.auto.upper_starts refl p.auto.upper_index q.auto.upper_values
    q.auto.work (q.auto.marks ∙ p.auto.marks) (λ h. refl) (λ h. refl)

pub returns : goal.returns
returns c =
    let p = c.analyze_plain in
    let q = c.factor_and_solve in
    both-leaves Plain _ _ _ _ _ _ _ _ _ _ _ _ _ _ _ _ _ _ _ _ _ _ _ _ _ _ _ _ _ _ _ _ p.ensures c.in_ok-counts.was q.ensures (answer-ok _ _ c.in_ok-factor_and_solve.was)
    p.auto.lower_starts refl p.auto.lower_index q.auto.lower_values
    p.auto.upper_starts refl p.auto.upper_index q.auto.upper_values
    q.auto.work (q.auto.marks ∙ p.auto.marks) (λ h. refl) (λ h. refl)

pub shape_of-lower_starts-in_err-counts : goal.shape_of-lower_starts-in_err-counts
shape_of-lower_starts-in_err-counts c = c.analyze_plain.auto.lower_starts

pub shape_of-lower_index-in_err-counts : goal.shape_of-lower_index-in_err-counts
shape_of-lower_index-in_err-counts c = c.analyze_plain.auto.lower_index

pub shape_of-upper_starts-in_err-counts : goal.shape_of-upper_starts-in_err-counts
shape_of-upper_starts-in_err-counts c = c.analyze_plain.auto.upper_starts

pub shape_of-upper_index-in_err-counts : goal.shape_of-upper_index-in_err-counts
shape_of-upper_index-in_err-counts c = c.analyze_plain.auto.upper_index

pub shape_of-marks-in_err-counts : goal.shape_of-marks-in_err-counts
shape_of-marks-in_err-counts c = c.analyze_plain.auto.marks

pub shape_of-lower_starts : goal.shape_of-lower_starts
shape_of-lower_starts c = c.analyze_plain.auto.lower_starts

pub shape_of-lower_index : goal.shape_of-lower_index
shape_of-lower_index c = c.analyze_plain.auto.lower_index

pub shape_of-lower_values : goal.shape_of-lower_values
shape_of-lower_values c = c.factor_and_solve.auto.lower_values

pub shape_of-upper_starts : goal.shape_of-upper_starts
shape_of-upper_starts c = c.analyze_plain.auto.upper_starts

pub shape_of-upper_index : goal.shape_of-upper_index
shape_of-upper_index c = c.analyze_plain.auto.upper_index

pub shape_of-upper_values : goal.shape_of-upper_values
shape_of-upper_values c = c.factor_and_solve.auto.upper_values

pub shape_of-d : goal.shape_of-d
shape_of-d c = c.factor_and_solve.auto.d

pub shape_of-x : goal.shape_of-x
shape_of-x c = c.factor_and_solve.auto.x

pub shape_of-work : goal.shape_of-work
shape_of-work c = c.factor_and_solve.auto.work

pub shape_of-marks : goal.shape_of-marks
shape_of-marks c = c.factor_and_solve.auto.marks ∙ c.analyze_plain.auto.marks

pub shape_of-lower_starts-in_err-factor_and_solve : goal.shape_of-lower_starts-in_err-factor_and_solve
shape_of-lower_starts-in_err-factor_and_solve c = c.analyze_plain.auto.lower_starts

pub shape_of-lower_index-in_err-factor_and_solve : goal.shape_of-lower_index-in_err-factor_and_solve
shape_of-lower_index-in_err-factor_and_solve c = c.analyze_plain.auto.lower_index

pub shape_of-lower_values-in_err-factor_and_solve : goal.shape_of-lower_values-in_err-factor_and_solve
shape_of-lower_values-in_err-factor_and_solve c = c.factor_and_solve.auto.lower_values

pub shape_of-upper_starts-in_err-factor_and_solve : goal.shape_of-upper_starts-in_err-factor_and_solve
shape_of-upper_starts-in_err-factor_and_solve c = c.analyze_plain.auto.upper_starts

pub shape_of-upper_index-in_err-factor_and_solve : goal.shape_of-upper_index-in_err-factor_and_solve
shape_of-upper_index-in_err-factor_and_solve c = c.analyze_plain.auto.upper_index

pub shape_of-upper_values-in_err-factor_and_solve : goal.shape_of-upper_values-in_err-factor_and_solve
shape_of-upper_values-in_err-factor_and_solve c = c.factor_and_solve.auto.upper_values

pub shape_of-d-in_err-factor_and_solve : goal.shape_of-d-in_err-factor_and_solve
shape_of-d-in_err-factor_and_solve c = c.factor_and_solve.auto.d

pub shape_of-x-in_err-factor_and_solve : goal.shape_of-x-in_err-factor_and_solve
shape_of-x-in_err-factor_and_solve c = c.factor_and_solve.auto.x

pub shape_of-work-in_err-factor_and_solve : goal.shape_of-work-in_err-factor_and_solve
shape_of-work-in_err-factor_and_solve c = c.factor_and_solve.auto.work

pub shape_of-marks-in_err-factor_and_solve : goal.shape_of-marks-in_err-factor_and_solve
shape_of-marks-in_err-factor_and_solve c = c.factor_and_solve.auto.marks ∙ c.analyze_plain.auto.marks
