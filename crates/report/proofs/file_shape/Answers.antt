use Rattle.report.proofs.Laws.{shape-put}
use Rattle.report.proofs.file_shape.Goals as goal

pub returns : goal.returns
returns c =
    let p = shape-put _ _ _ _ _ _ c.matrix_file_shape-found.ensures c.unwrap_or-m.ensures c.put_told.ensures.value c.put_told.ensures.report_after in
    record { value = p.0; report_after = p.1 }
