use mathlib.Core.Path.{◌∙◌}
use Rattle.outcome.specs.Buffers.{SideBuffers, side_buffers}
use Rattle.substitution.specs.EndLaws.{swept-on, swept-off, swept-whole}
use borrow.Author.Rules.{rules}
use Rattle.substitution.proofs.substitute_rows.Goals as goal
use Rattle.substitution.proofs.substitute_rows.Goals.{Start}

abbrev side : Start → SideBuffers
side s = let a = s.args in side_buffers a.starts.now a.runs.now a.index.now a.values.now

pub substitute_row-requires : goal.substitute_row-requires
substitute_row-requires c =
    let h = c.requires in
    (c.loop-k-test.true, record { few = h.few; sound = h.sound; reciprocals = h.reciprocals; scratch = c.loop-k.auto.work ∙ h.scratch })

pub loop-k-init : goal.loop-k-init
loop-k-init c = λ F T I. I

pub loop-k-preserved : goal.loop-k-preserved
loop-k-preserved c =
    let l = c.loop-k in
    λ F T I. swept-on c.args.form c.args.n F (side (goal.at.loop-k-preserved c).Start) l.k _ _ (c.substitute_row.ensures F T (l.invariant F T I)) c.if-not-substitute_row.false

pub returns-then-not-substitute_row : goal.returns-then-not-substitute_row
returns-then-not-substitute_row c =
    let l = c.loop-k in
    λ F T I. (c.loop-k-test.true, swept-off c.args.form c.args.n F (side (goal.at.returns-then-not-substitute_row c).Start) l.k _ _ (c.substitute_row.ensures F T (l.invariant F T I)) c.if-not-substitute_row.true)

pub returns : goal.returns
returns c =
    let l = c.loop-k in
    λ F T I. swept-whole c.args.form c.args.n F (side (goal.at.returns c).Start) l.k _ (search rules) (l.invariant F T I)
