use Rattle.std.proofs.Common.{refl}
use Rattle.report.specs.Report.{span_slots}
use Rattle.report.proofs.put_span.Goals as goal

pub returns : goal.returns
unfolding span_slots
returns c = record { value = refl; report_after = rw (c.put-2.ensures, c.put.ensures) }
