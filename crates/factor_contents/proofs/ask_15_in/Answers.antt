use Rattle.std.proofs.Common.{ap}
use mathlib.Core.Bool.{not}
use native.Mathlib.Omega.{arith}
use Rattle.base.specs.FirstLaws.{passed-on}
use Rattle.factor_contents.specs.FactorFile.{lists_at}
use Rattle.factor_contents.proofs.JudgingLaws.{start_is, start-there}
use Rattle.factor_contents.proofs.CallLaws.{ask15-stop, ask15-end, ask15-pass}
use Rattle.factor_contents.proofs.ask_15_in.Goals as goal

pub returns-in_err-ask_lists_in : goal.returns-in_err-ask_lists_in
returns-in_err-ask_lists_in c = rw (passed-on _ _ c.from_residual.ensures.1) (ask15-stop _ _ _ _ _ c.ask_lists_in.ensures _ c.in_err-ask_lists_in.was)

pub returns-then-not-lower_end-lower : goal.returns-then-not-lower_end-lower
unfolding lists_at
returns-then-not-lower_end-lower c =
    ask15-end _ _ _ _ _ c.ask_lists_in.ensures c.in_ok-ask_lists_in.was _ _
    (start_is _ _ 20 _ _ (omega arith) c.start_at-lower_end.ensures.0) (start-there _ _ _ _ _ _ c.offsets_of-at.ensures.0 (omega arith) c.start_at-upper_end.ensures.0) (ap not c.if-not-lower_end-lower.true)

pub returns : goal.returns
unfolding lists_at
returns c =
    ask15-pass _ _ _ _ _ c.ask_lists_in.ensures c.in_ok-ask_lists_in.was _ _
    (start_is _ _ 20 _ _ (omega arith) c.start_at-lower_end.ensures.0) (start-there _ _ _ _ _ _ c.offsets_of-at.ensures.0 (omega arith) c.start_at-upper_end.ensures.0) (ap not c.if-not-lower_end-lower.false)
