use Rattle.report.proofs.Laws.{reported, made-put}
use Rattle.report.proofs.test_load.Goals as goal

pub returns : goal.returns
returns c =
    reported _ _ _ _ _ _ c.test_load-a.ensures c.put_told.ensures.value (made-put _ _ _ _ c.entries_of-entries.ensures c.put_told.ensures.report_after)
