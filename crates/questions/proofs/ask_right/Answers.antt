use Rattle.matrix.specs.Questions.{ask_right}
use Rattle.questions.specs.AskLaws.{then-err, then-pass}
use Rattle.questions.proofs.ask_right.Goals as goal

pub returns-in_err-ask_orders : goal.returns-in_err-ask_orders
unfolding ask_right
returns-in_err-ask_orders c = then-err _ _ _ _ _ c.ask_orders.ensures c.in_err-ask_orders.was c.from_residual.ensures.1

pub returns : goal.returns
unfolding ask_right
returns c = then-pass _ _ _ _ c.ask_orders.ensures c.in_ok-ask_orders.was c.ask_finite.ensures
