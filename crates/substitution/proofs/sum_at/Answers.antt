use Rattle.numeric.specs.StoreLaws.{ready}
use Rattle.lent.specs.ReadingLaws.{take_rest}
use Rattle.outcome.specs.Buffers.{SideBuffers, side_buffers}
use Rattle.substitution.specs.SweepLaws.{sum-columns, sum_rows}
use Rattle.substitution.specs.EndLaws.{below-tail}
use Rattle.substitution.proofs.sum_at.Goals as goal
use Rattle.substitution.proofs.sum_at.Goals.{Start}

abbrev side : Start → SideBuffers
side s = let a = s.args in side_buffers a.starts.now a.runs.now a.index.now a.values.now

pub returns-then-by_columns : goal.returns-then-by_columns
returns-then-by_columns c = sum-columns c.args.form _ c.by_columns.ensures c.args.n c.args.k (side (goal.at.returns-then-by_columns c).Start) c.args.work.now c.if-by_columns.true

pub list_at-row-requires : goal.list_at-row-requires
list_at-row-requires c = c.requires.2.list c.args.k c.requires.0

pub values_at-l-requires : goal.values_at-l-requires
values_at-l-requires c = c.requires.2.values c.args.k c.requires.0

pub subtract_products-requires : goal.subtract_products-requires
subtract_products-requires c =
    let a = c.args in
    let r = ready a.n a.k a.starts.now a.runs.now a.index.now a.values.now _ _ c.requires.2 c.requires.0 c.list_at-row.ensures c.values_at-l.ensures in
    (r.0, below-tail a.n a.work.now c.list_at-row.result.now c.requires.1 r.1)

pub returns : goal.returns
returns c =
    sum_rows c.args.form _ c.by_columns.ensures c.args.n c.args.k (side (goal.at.returns c).Start) c.args.work.now _ c.if-by_columns.false
    (rw (c.list_at-row.ensures, c.values_at-l.ensures, take_rest c.args.n c.args.work.now) at c.subtract_products.ensures)
