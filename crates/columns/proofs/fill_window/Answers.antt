use Rattle.columns.proofs.WindowLaws.{fill_start, fill-room, fill_more}
use Rattle.columns.proofs.Keeps.{row_is, order-kept}
use native.Mathlib.Omega.{arith}
use Rattle.columns.proofs.fill_window.Goals as goal

pub loop-k-init : goal.loop-k-init
loop-k-init c = fill_start _ _ _ _ _ c.requires.empty

pub offer_row-p-requires-clause-roomy : goal.offer_row-p-requires-clause-roomy
offer_row-p-requires-clause-roomy c =
    let a = c.args in
    let f = c.loop-k.invariant in
    let e = row_is a.input.n c.loop-k.k _ _ a.input.r.now _ _ _ c.row_of-cols.ensures (order-kept a.input.n a.lo a.hi f.kept) in
    fill-room (omega arith) c.requires.fits.1 e f

pub loop-k-preserved : goal.loop-k-preserved
loop-k-preserved c =
    let a = c.args in
    let f = c.loop-k.invariant in
    let e = row_is a.input.n c.loop-k.k _ _ a.input.r.now _ _ _ c.row_of-cols.ensures (order-kept a.input.n a.lo a.hi f.kept) in
    fill_more e f c.offer_row-p.ensures
