use Rattle.sheet.proofs.Laws.{blank-line}
use Rattle.sheet.proofs.put_blank_line.Goals as goal

pub returns : goal.returns
returns c = blank-line c.blanks.ensures.prints c.text.ensures
