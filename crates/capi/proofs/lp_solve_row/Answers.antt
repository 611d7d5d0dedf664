use Rattle.report.proofs.Laws.{told}
use Rattle.capi.proofs.lp_solve_row.Goals as goal

pub returns : goal.returns
returns c = told _ _ _ _ _ _ c.solve_row-a.ensures c.put_answer.ensures.value c.put_answer.ensures.report_after
