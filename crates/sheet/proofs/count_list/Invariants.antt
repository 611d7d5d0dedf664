use Rattle.sheet.proofs.CountLaws.{Tally}
use Rattle.sheet.proofs.count_list.Given as goal

abbrev pub invariant-loop-i : goal.invariant-loop-i
invariant-loop-i l = Tally l.list l.initial.counts l.i-index l.counts
