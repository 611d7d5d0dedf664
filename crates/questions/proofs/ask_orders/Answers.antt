use mathlib.Core.Path.{◌∙◌}
use Rattle.questions.specs.AskLaws.{then-err, orders-are, orders-pass}
use Rattle.questions.proofs.ask_orders.Goals as goal

pub returns-in_err-ask_order : goal.returns-in_err-ask_order
returns-in_err-ask_order c =
    let a = c.args in
    then-err _ _ _ _ _ c.ask_order.ensures c.in_err-ask_order.was c.from_residual.ensures.1 ∙ orders-are a.n a.r.now a.c.now

pub returns : goal.returns
returns c = orders-pass _ _ _ _ _ c.ask_order.ensures c.in_ok-ask_order.was c.ask_order-2.ensures
