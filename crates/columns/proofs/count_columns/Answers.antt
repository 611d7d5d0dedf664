use Rattle.columns.proofs.WindowLaws.{tally-start, tally-room, tally-more}
use Rattle.columns.proofs.Keeps.{row_is, order-kept, given-kept}
use native.Mathlib.Omega.{arith}
use Rattle.columns.proofs.count_columns.Goals as goal

pub loop-k-init : goal.loop-k-init
loop-k-init c = tally-start _ c.requires.counting

pub count_row-requires-clause-order : goal.count_row-requires-clause-order
count_row-requires-clause-order c =
    let t = c.loop-k.invariant.kept in
    (given-kept t.size (order-kept c.args.input.n 0 c.args.input.n t) c.requires.given).order

pub count_row-requires-clause-countable : goal.count_row-requires-clause-countable
count_row-requires-clause-countable c = (omega arith, tally-room c.args.input.n c.loop-k.k _ c.loop-k.invariant)

pub loop-k-preserved : goal.loop-k-preserved
loop-k-preserved c =
    let a = c.args in
    let t = c.loop-k.invariant in
    let e = row_is a.input.n c.loop-k.k _ _ a.input.r.now _ _ _ c.row_of-cols.ensures (order-kept a.input.n 0 a.input.n t.kept) in
    tally-more a.input.n c.loop-k.k _ e t c.count_row.ensures
