use Rattle.report.proofs.Laws.{told}
use Rattle.capi.proofs.lp_refactor_plain.Goals as goal

pub returns : goal.returns
returns c = told _ _ _ _ _ _ c.refactor_plain-a.ensures c.put_end.ensures.value c.put_end.ensures.report_after
