use Rattle.base.specs.FirstLaws.{passed-on}
use Rattle.factor_contents.specs.FactorFile.{factor_lists}
use Rattle.factor_reading.proofs.ReadLaws.{read-stop, read-room, read_done}
use Rattle.factor_reading.proofs.read_factors.Goals as goal

pub load-requires : goal.load-requires
load-requires c =
    let a = c.args in
    read-room _ (factor_lists a.r.now a.c.now a.lower_starts.now a.lower_index.now a.lower_values.now a.upper_starts.now a.upper_index.now a.upper_values.now a.d.now) _ c.judge.ensures _ c.in_ok-counts.was

pub returns-in_err-counts : goal.returns-in_err-counts
returns-in_err-counts c = rw (passed-on _ _ c.from_residual.ensures.1) (read-stop _ _ _ c.judge.ensures _ c.in_err-counts.was)

pub returns : goal.returns
returns c =
    read_done _ _ _ c.judge.ensures _ c.in_ok-counts.was _ c.load.ensures
