use mathlib.Core.Path.{sym, ◌∙◌}
use native.Mathlib.Omega.{arith}
use lib.Seq.{length-take-le}
use Rattle.numeric.specs.StoreLaws.{ready}
use Rattle.outcome.specs.Buffers.{SideBuffers, side_buffers}
use Rattle.substitution.specs.SweepLaws.{spread-columns, spread-rows}
use Rattle.substitution.specs.EndLaws.{column-spread}
use Rattle.substitution.proofs.spread.Goals as goal
use Rattle.substitution.proofs.spread.Goals.{Start}

abbrev side : Start → SideBuffers
side s = let a = s.args in side_buffers a.starts.now a.runs.now a.index.now a.values.now

pub list_at-column-requires : goal.list_at-column-requires
list_at-column-requires c = c.requires.2.list c.args.k c.requires.0

pub values_at-l-requires : goal.values_at-l-requires
values_at-l-requires c = c.requires.2.values c.args.k c.requires.0

pub slice_bounds-axpy-end-then-by_columns : goal.slice_bounds-axpy-end-then-by_columns
slice_bounds-axpy-end-then-by_columns c = sym (length-take-le c.args.n c.args.work.now (omega (arith, c.requires.1)))

pub axpy-requires : goal.axpy-requires
axpy-requires c =
    let a = c.args in
    let r = ready a.n a.k a.starts.now a.runs.now a.index.now a.values.now _ _ c.requires.2 c.requires.0 c.list_at-column.ensures c.values_at-l.ensures in
    (r.0, rw (length-take-le a.n a.work.now (omega (arith, c.requires.1))) r.1)

pub returns-then-by_columns : goal.returns-then-by_columns
returns-then-by_columns c =
    spread-columns c.args.form _ c.by_columns.ensures c.args.n c.args.k (side (goal.at.returns-then-by_columns c).Start) c.args.work.now c.args.y _ c.if-by_columns.true
    (column-spread c.args.n c.args.k (side (goal.at.returns-then-by_columns c).Start) c.args.y c.args.work.now c.axpy.new.w _ _ (c.axpy.auto.w ∙ length-take-le c.args.n c.args.work.now (omega (arith, c.requires.1)))
    c.list_at-column.ensures c.values_at-l.ensures c.axpy.ensures)

pub returns-else-by_columns : goal.returns-else-by_columns
returns-else-by_columns c = spread-rows c.args.form _ c.by_columns.ensures c.args.n c.args.k (side (goal.at.returns-else-by_columns c).Start) c.args.work.now c.args.y c.if-by_columns.false
