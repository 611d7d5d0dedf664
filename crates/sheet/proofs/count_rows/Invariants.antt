use Rattle.sheet.proofs.CountLaws.{Rows}
use Rattle.sheet.proofs.count_rows.Given as goal

abbrev pub invariant-loop-j : goal.invariant-loop-j
invariant-loop-j l = Rows l.n l.starts l.runs l.index l.initial.counts l.j l.counts
