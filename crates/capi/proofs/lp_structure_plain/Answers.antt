use Rattle.report.proofs.Laws.{told}
use Rattle.capi.proofs.lp_structure_plain.Goals as goal

pub returns : goal.returns
returns c = told _ _ _ _ _ _ c.structure_plain-a.ensures c.put_answer.ensures.value c.put_answer.ensures.report_after
