use Rattle.report.proofs.Laws.{reported}
use Rattle.capi.proofs.lp_read_factors.Goals as goal

pub returns : goal.returns
returns c = reported _ _ _ _ _ _ c.read_factors-a.ensures c.put_answer.ensures.value c.put_answer.ensures.report_after
