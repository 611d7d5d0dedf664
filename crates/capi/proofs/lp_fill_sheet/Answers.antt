use Rattle.report.proofs.Laws.{reported}
use Rattle.capi.proofs.lp_fill_sheet.Goals as goal

pub returns : goal.returns
returns c = reported _ _ _ _ _ _ c.fill_sheet-a.ensures c.put_answer.ensures.value c.put_answer.ensures.report_after
