use Rattle.report.proofs.Laws.{answer-put}
use Rattle.report.proofs.put_answer.Goals as goal

pub returns : goal.returns
returns c =
    record { value = c.put_told.ensures.value; report_after = answer-put c.args.a _ _ _ c.counts_of-counts.ensures c.put_told.ensures.report_after }
