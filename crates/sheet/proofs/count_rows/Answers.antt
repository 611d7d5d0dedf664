use Rattle.std.proofs.Common.{arith}
use Rattle.sheet.proofs.CountLaws.{rows_start, column-counting, rows-turn, rows_end}
use Rattle.sheet.proofs.count_rows.Goals as goal

pub list_at-requires : goal.list_at-requires
list_at-requires c = c.requires.lists _ c.loop-j-test.true

pub count_list-requires : goal.count_list-requires
count_list-requires c =
    column-counting _ _ _ _ _ c.requires _ c.loop-j-test.true _ c.loop-j.invariant _ c.list_at.ensures

pub loop-j-preserved : goal.loop-j-preserved
loop-j-preserved c =
    rows-turn _ _ _ _ _ c.requires _ c.loop-j-test.true _ c.loop-j.invariant _ _ c.list_at.ensures c.count_list.ensures

pub returns : goal.returns
returns c = rows_end _ _ _ _ _ c.requires _ _ (omega arith) c.loop-j.invariant

pub loop-j-init : goal.loop-j-init
loop-j-init c = rows_start _ _ _ _ _ c.requires
