use Rattle.sheet.proofs.Laws.{page-whole}
use Rattle.sheet.proofs.put_page.Goals as goal

pub returns : goal.returns
returns c = page-whole _ _ _ c.put_head.ensures c.put_lines.ensures
