use Rattle.report.proofs.Laws.{reported}
use Rattle.capi.proofs.lp_write_factors.Goals as goal

pub returns : goal.returns
returns c = reported _ _ _ _ _ _ c.write_factors-a.ensures c.put_end.ensures.value c.put_end.ensures.report_after
