use Rattle.lent.specs.ReadingLaws.{place_is, placed-length}
use Rattle.marks.specs.MarkLaws.{entry_read}
use Rattle.lent.specs.Reading.{order_of, placed}
use lib.ListN.{length, get_or}
use mathlib.Core.Path.{◌≡◌}
use Prim.Native.Nat.{◌<◌}
use Rattle.columns.proofs.ListLaws.{row_room}
use Rattle.columns.proofs.ColumnLaws.{row-start, row_more, row-end}
use Rattle.columns.proofs.Keeps.{order-kept}
use native.Mathlib.Omega.{arith}
use Rattle.columns.proofs.offer_row.Goals as goal
use Rattle.columns.proofs.offer_row.Goals.{After-place_of-place}

pub loop-column-init : goal.loop-column-init
loop-column-init c = row-start

-- the place that was read is that of the inverse order at entry
place : (c : After-place_of-place)
    → let xs = placed (order_of c.args.n c.args.marks.now) c.args.cols.now in
    (c.loop-column.column-index < length xs) × (c.place_of-place.result.0 ≡ get_or xs c.loop-column.column-index 0)
place c =
    entry_read c.args.n c.loop-column.column-index _ _ _ c.args.cols.now c.loop-column-test.true (order-kept c.args.n c.args.lo c.args.hi c.loop-column.invariant.kept)
    (place_is c.place_of-place.result _ _ _ c.place_of-place.ensures c.number.ensures.0)

pub offer-p-requires-clause-roomy : goal.offer-p-requires-clause-roomy
offer-p-requires-clause-roomy c =
    let e = place (goal.at.offer-p-requires-clause-roomy c).After-place_of-place in
    row_room c.loop-column.column-index _ e.0 e.1 c.requires.roomy c.loop-column.invariant

pub loop-column-preserved : goal.loop-column-preserved
loop-column-preserved c =
    let e = place (goal.at.loop-column-preserved c).After-place_of-place in
    row_more c.loop-column.column-index _ e.0 e.1 c.loop-column.invariant c.offer-p.ensures

pub returns : goal.returns
returns c =
    row-end c.loop-column.column-index _ (omega (arith, placed-length (order_of c.args.n c.args.marks.now) c.args.cols.now)) c.loop-column.invariant
