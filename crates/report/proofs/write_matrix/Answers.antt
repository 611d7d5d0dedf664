use Rattle.report.proofs.Laws.{reported}
use Rattle.report.proofs.write_matrix.Goals as goal

pub returns : goal.returns
returns c = reported _ _ _ _ _ _ c.write_matrix-a.ensures c.put_end.ensures.value c.put_end.ensures.report_after
