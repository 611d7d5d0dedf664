use Rattle.report.proofs.Laws.{span-rises, span-put, span-told}
use Rattle.report.proofs.list_plain.Goals as goal

pub put_span-requires : goal.put_span-requires
put_span-requires c = span-rises _ _ _ _ _ _ _ c.span_plain-s.ensures

pub returns : goal.returns
returns c =
    let p = span-put _ _ _ _ _ (span-told _ _ _ _ _ _ _ _ _ c.side_of.ensures c.place_of.ensures c.span_plain-s.ensures) (c.put_span.ensures.value, c.put_span.ensures.report_after) in
    record { value = p.0; report_after = p.1 }
