use Rattle.lent.specs.Reading.{order_of, placed}
use Rattle.lent.specs.ReadingLaws.{place_is, placed-length}
use lib.ListN.{length, get_or}
use mathlib.Core.Path.{◌≡◌}
use Prim.Native.Nat.{◌<◌}
use Rattle.marks.specs.MarkLaws.{load-more, load-end, order-unmarked, room-kept, entry_read, entry-below}
use native.Mathlib.Omega.{arith}
use Rattle.marks.proofs.load_row.Goals as goal
use Rattle.marks.proofs.load_row.Goals.{After-place_of-place}

-- the place that was read is that of the inverse order at entry, and is below n
place : (c : After-place_of-place)
    → let s = c.args in
    (c.loop-column.column-index < length (placed (order_of s.n s.marks.now) s.cols.now))
    × (c.place_of-place.result.0 ≡ get_or (placed (order_of s.n s.marks.now) s.cols.now) c.loop-column.column-index 0) × (c.place_of-place.result.0 < s.n)
place c =
    let a = c.args in
    let q = c.loop-column.column-index in
    let h = c.loop-column-test.true in
    let r = place_is c.place_of-place.result _ _ _ c.place_of-place.ensures c.number.ensures.0 in
    let e = entry_read a.n q _ _ _ a.cols.now h (order-unmarked a.n c.loop-column.invariant.kept) r in
    (e.0, e.1, entry-below a.n q _ _ a.cols.now c.requires.order c.requires.below e.0 e.1)

pub mark-requires : goal.mark-requires
mark-requires c =
    ((place (goal.at.mark-requires c).After-place_of-place).2, room-kept _ c.args.marks.now _ c.loop-column.auto.marks c.requires.room)

pub loop-column-preserved : goal.loop-column-preserved
loop-column-preserved c =
    let e = place (goal.at.loop-column-preserved c).After-place_of-place in
    load-more e.0 e.2 e.1 c.mark.ensures c.loop-column.invariant

pub returns : goal.returns
returns c =
    load-end (omega (arith, placed-length (order_of c.args.n c.args.marks.now) c.args.cols.now)) c.loop-column.invariant
