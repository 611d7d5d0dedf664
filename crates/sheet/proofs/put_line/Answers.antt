use Rattle.sheet.proofs.Laws.{place-line}
use Rattle.sheet.proofs.put_line.Goals as goal

pub returns : goal.returns
returns c = place-line _ _ _ _ _ c.column.ensures c.column-2.ensures c.column-3.ensures c.column-4.ensures c.column-5.ensures c.text.ensures
