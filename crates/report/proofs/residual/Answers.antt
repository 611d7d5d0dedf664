use Rattle.report.proofs.Laws.{row_told}
use Rattle.report.proofs.residual.Goals as goal

pub returns : goal.returns
returns c =
    row_told _ _ _ _ _ _ _ _ _ c.residual-a.ensures c.put_pair.ensures c.put_told.ensures.value c.put_told.ensures.report_after
