use Rattle.columns.proofs.WindowLaws.{count_room}
use Rattle.columns.proofs.ColumnLaws.{row-start, row_more, row-end}
use Rattle.lent.specs.ReadingLaws.{place_is, placed-length}
use Rattle.marks.specs.MarkLaws.{entry_read, entry-below}
use Rattle.lent.specs.Reading.{order_of, placed}
use lib.ListN.{length, get_or}
use mathlib.Core.Path.{◌≡◌}
use Prim.Native.Nat.{◌<◌}
use Rattle.columns.proofs.Keeps.{order-kept}
use native.Mathlib.Omega.{arith}
use Rattle.columns.proofs.count_row.Goals as goal
use Rattle.columns.proofs.count_row.Goals.{After-place_of-place}

pub loop-column-init : goal.loop-column-init
loop-column-init c = row-start

-- the place that was read is that of the inverse order at entry
place : (c : After-place_of-place)
    → let xs = placed (order_of c.args.n c.args.marks.now) c.args.cols.now in
    (c.loop-column.column-index < length xs) × (c.place_of-place.result.0 ≡ get_or xs c.loop-column.column-index 0)
place c =
    entry_read c.args.n c.loop-column.column-index _ _ _ c.args.cols.now c.loop-column-test.true (order-kept c.args.n 0 c.args.n c.loop-column.invariant.kept)
    (place_is c.place_of-place.result _ _ _ c.place_of-place.ensures c.number.ensures.0)

pub count_one-requires-clause-bounds : goal.count_one-requires-clause-bounds
count_one-requires-clause-bounds c =
    let e = place (goal.at.count_one-requires-clause-bounds c).After-place_of-place in
    let b = entry-below c.args.n c.loop-column.column-index _ _ c.args.cols.now c.requires.order c.requires.below e.0 e.1 in
    (c.requires.countable.0, b, count_room c.requires.countable.0 b c.requires.countable.1 c.loop-column.invariant)

pub loop-column-preserved : goal.loop-column-preserved
loop-column-preserved c =
    let e = place (goal.at.loop-column-preserved c).After-place_of-place in
    row_more c.loop-column.column-index _ e.0 e.1 c.loop-column.invariant c.count_one.ensures

pub returns : goal.returns
returns c =
    row-end c.loop-column.column-index _ (omega (arith, placed-length (order_of c.args.n c.args.marks.now) c.args.cols.now)) c.loop-column.invariant
