use Rattle.std.proofs.Common.{ap}
use mathlib.Core.Bool.{not}
use native.Mathlib.Omega.{arith}
use Rattle.matrix.specs.ListsLaws.{range-of}
use Rattle.load.proofs.CallLaws.{out-rows, out-lengths, rows-lent, orders-few, out-made}
use Rattle.load.proofs.test_load.Goals as goal

pub returns-then-not-rows_within : goal.returns-then-not-rows_within
returns-then-not-rows_within c = out-rows _ _ _ _ _ _ _ _ _ c.rows_within.ensures (ap not c.if-not-rows_within.true)

pub overflow_mul-n : goal.overflow_mul-n
overflow_mul-n c = let few = range-of c.args.n _ c.rows_within.ensures (ap not c.if-not-rows_within.false) in record { fits = omega (arith, few) }

pub lengths_right-requires : goal.lengths_right-requires
lengths_right-requires c = range-of _ _ c.rows_within.ensures (ap not c.if-not-rows_within.false)

pub returns-then-not-lengths_right : goal.returns-then-not-lengths_right
returns-then-not-lengths_right c =
    out-lengths _ _ _ _ _ _ _ _ _ c.rows_within.ensures (ap not c.if-not-rows_within.false) _ c.lengths_right.ensures (ap not c.if-not-lengths_right.true)

pub draw_rows-entries-requires : goal.draw_rows-entries-requires
draw_rows-entries-requires c =
    let a = c.args in
    rows-lent _ _ _ _ _ a.r.now a.c.now a.b.now _ c.rows_within.ensures (ap not c.if-not-rows_within.false) _ c.lengths_right.ensures (ap not c.if-not-lengths_right.false) c.ranges.seed.fits _ _ c.clear.ensures c.clear-2.ensures

pub natural-requires : goal.natural-requires
natural-requires c =
    let a = c.args in
    (orders-few a.n a.seed a.starts.now a.columns.now a.values.now a.r.now a.c.now a.b.now _ c.rows_within.ensures (ap not c.if-not-rows_within.false) _ c.lengths_right.ensures (ap not c.if-not-lengths_right.false)).0

pub natural-requires-2 : goal.natural-requires-2
natural-requires-2 c =
    let a = c.args in
    (orders-few a.n a.seed a.starts.now a.columns.now a.values.now a.r.now a.c.now a.b.now _ c.rows_within.ensures (ap not c.if-not-rows_within.false) _ c.lengths_right.ensures (ap not c.if-not-lengths_right.false)).1

pub returns : goal.returns
returns c =
    out-made _ _ _ _ _ _ _ _ _ c.rows_within.ensures (ap not c.if-not-rows_within.false) _ c.lengths_right.ensures (ap not c.if-not-lengths_right.false) _ _ _ _ _ _ _ c.draw_rows-entries.ensures c.natural.ensures c.natural-2.ensures c.ones.ensures
