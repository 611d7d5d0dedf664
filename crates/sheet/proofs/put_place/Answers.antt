use native.Mathlib.Omega.{arith}
use Rattle.sheet.proofs.Laws.{read_fits, place_read, place_none}
use borrow.Author.Rules.{rules}
use Rattle.sheet.proofs.put_place.Goals as goal

pub returns-then-n-k : goal.returns-then-n-k
returns-then-n-k c = place_none _ _ _ c.if-n-k.true c.put_blank_line.ensures

pub list_length-list-requires : goal.list_length-list-requires
list_length-list-requires c = let P = c.requires.1.places in (omega (arith, P.lists, c.if-n-k.false), P.rise _ c.if-n-k.false)

pub put_line-requires : goal.put_line-requires
put_line-requires c =
    (search rules, read_fits _ _ _ _ _ c.requires.1 _ _ _ _ _ c.if-n-k.false c.wide-own.ensures.0 c.slot-rows.ensures.0 c.list_length-list.ensures.0 c.slot-run.ensures.0)

pub returns : goal.returns
returns c =
    place_read _ _ _ _ _ _ _ _ _ _ c.if-n-k.false c.wide-own.ensures.0 c.slot-rows.ensures.0 c.list_length-list.ensures.0 c.slot-run.ensures.0 c.put_line.ensures
