use Rattle.report.proofs.Laws.{kept-put}
use Rattle.report.proofs.put_kept.Goals as goal

pub returns : goal.returns
returns c =
    record { value = c.put_told.ensures.value; report_after = kept-put c.args.a _ _ _ c.sizes_of-sizes.ensures c.put_told.ensures.report_after }
