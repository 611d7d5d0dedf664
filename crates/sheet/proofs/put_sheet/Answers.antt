use Rattle.std.proofs.Common.{arith}
use Rattle.sheet.proofs.Laws.{pages-start, pages-more, pages-end, page-room}
use Rattle.sheet.proofs.put_sheet.Goals as goal

pub put_page-requires : goal.put_page-requires
put_page-requires c =
    let P = c.requires.1 in
    let R = page-room _ _ _ P.places.few (omega (arith, c.loop-p-test.true, c.pages-p-end.ensures)) (omega (arith, c.requires.0, c.loop-p.invariant.next)) in
    (R.0, R.1, P)

pub loop-p-init : goal.loop-p-init
loop-p-init c = pages-start _ _ _

pub loop-p-preserved : goal.loop-p-preserved
loop-p-preserved c = pages-more _ _ _ c.loop-p.invariant c.put_page.ensures

pub returns : goal.returns
returns c = pages-end _ _ _ (omega (arith, c.pages-p-end.ensures)) c.loop-p.invariant
