use Rattle.printing.proofs.Laws.{column-prints}
use Rattle.printing.proofs.Printer.column.Goals as goal

pub returns : goal.returns
returns c = column-prints _ _ _ c.width_of-digits.ensures.0 c.requires.1 c.blanks.ensures.prints c.digits.ensures
