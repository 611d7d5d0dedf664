use Rattle.report.proofs.Laws.{pair_put}
use Rattle.report.proofs.put_pair.Goals as goal

pub returns-in-Pair : goal.returns-in-Pair
returns-in-Pair c = pair_put _ _ _ _ _ _ c.in-Pair.is c.put.ensures c.put-in-Pair.ensures
