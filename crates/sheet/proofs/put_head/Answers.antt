use Rattle.sheet.proofs.Laws.{head-line, page-fits}
use borrow.Author.Rules.{rules}
use Rattle.sheet.proofs.put_head.Goals as goal

pub column-requires : goal.column-requires
column-requires c = (search rules, page-fits _ c.requires.1, search rules)

pub returns : goal.returns
returns c = head-line _ c.text.ensures c.blanks.ensures.prints c.column.ensures c.text-2.ensures
