use Rattle.base.specs.FirstLaws.{passed-on}
use Rattle.factor_reading.proofs.ReadLaws.{counted_stop, counted-done}
use Rattle.factor_reading.proofs.judge_contents.Goals as goal

pub returns-in_err-ask_contents_in : goal.returns-in_err-ask_contents_in
returns-in_err-ask_contents_in c = rw (passed-on _ _ c.from_residual.ensures.1) (rw (← c.number_at-products.ensures.0) (counted_stop _ _ _ _ c.ask_contents_in.ensures _ c.in_err-ask_contents_in.was))

pub returns : goal.returns
returns c =
    rw (← c.number_at-products.ensures.0) (counted-done _ _ _ _ c.ask_contents_in.ensures c.in_ok-ask_contents_in.was)
