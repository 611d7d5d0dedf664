use mathlib.Core.Path.{sym, ◌∙◌}
use lib.ListN.{length-set}
use Rattle.outcome.specs.Buffers.{SideBuffers, side_buffers}
use Rattle.substitution.specs.EndLaws.{sum-stops, product-stops, goes_on}
use Rattle.substitution.proofs.substitute_row.Goals as goal
use Rattle.substitution.proofs.substitute_row.Goals.{Start}

abbrev side : Start → SideBuffers
side s = let a = s.args in side_buffers a.starts.now a.runs.now a.index.now a.values.now

pub returns-then-is_finite-2 : goal.returns-then-is_finite-2
returns-then-is_finite-2 c =
    λ F T I. goes_on c.args.form c.args.n c.args.k F (side (goal.at.returns-then-is_finite-2 c).Start) c.args.d.now c.args.work.now _ c.requires.0 c.requires.1.sound c.sum_at-s.ensures T I _ c.requires.1.scratch (sym c.is_finite.ensures ∙ c.if-is_finite.true)
    (sym c.is_finite-then-is_finite.ensures ∙ c.if-is_finite-2.true) c.spread.ensures

pub shape_of-work-then-is_finite-2 : goal.shape_of-work-then-is_finite-2
shape_of-work-then-is_finite-2 c = c.spread.auto.work ∙ simp length-set

pub returns-else-is_finite-2 : goal.returns-else-is_finite-2
returns-else-is_finite-2 c =
    λ F T I. product-stops c.args.form c.args.n c.args.k F (side (goal.at.returns-else-is_finite-2 c).Start) c.args.d.now c.args.work.now _ c.requires.0 c.requires.1.sound c.sum_at-s.ensures T I (sym c.is_finite.ensures ∙ c.if-is_finite.true) (sym c.is_finite-then-is_finite.ensures ∙ c.if-is_finite-2.false)

pub returns-else-is_finite : goal.returns-else-is_finite
returns-else-is_finite c =
    λ F T I. sum-stops c.args.form c.args.n c.args.k F (side (goal.at.returns-else-is_finite c).Start) c.args.d.now c.args.work.now _ c.requires.0 c.requires.1.sound c.sum_at-s.ensures T I (sym c.is_finite.ensures ∙ c.if-is_finite.false)
