use Rattle.std.proofs.Common.{ap}
use mathlib.Core.Path.{◌∙◌}
use mathlib.Core.Bool.{not}
use borrow.Author.Tests.{eq-eqb, ne_eqb}
use Rattle.base.specs.FirstLaws.{passed-on}
use Rattle.factor_contents.specs.FactorFile.{ask15}
use Rattle.factor_contents.proofs.JudgingLaws.{products-all}
use Rattle.factor_contents.proofs.CallLaws.{contents-5, contents-15, contents-21, contents-pass}
use Rattle.factor_contents.proofs.ask_contents.Goals as goal

pub returns-in_err-ask_orders : goal.returns-in_err-ask_orders
unfolding ask15
returns-in_err-ask_orders c = rw (passed-on _ _ c.from_residual.ensures.1) (contents-5 _ _ _ _ c.ask_orders.ensures _ c.in_err-ask_orders.was)

pub returns-in_err-ask_15 : goal.returns-in_err-ask_15
unfolding ask15
returns-in_err-ask_15 c = rw (passed-on _ _ c.from_residual-in_err-ask_15.ensures.1) (contents-15 _ _ _ _ c.ask_orders.ensures c.in_ok-ask_orders.was _ c.ask_15.ensures _ c.in_err-ask_15.was)

pub returns-then-not-products-sum : goal.returns-then-not-products-sum
unfolding ask15
returns-then-not-products-sum c =
    contents-21 _ _ _ _ c.ask_orders.ensures c.in_ok-ask_orders.was _ c.ask_15.ensures c.in_ok-ask_15.was _ (c.products_of-sum.ensures ∙ products-all _ _) (ap not (ne_eqb _ _ c.if-not-products-sum.true))

pub returns : goal.returns
unfolding ask15
returns c =
    contents-pass _ _ _ _ c.ask_orders.ensures c.in_ok-ask_orders.was _ c.ask_15.ensures c.in_ok-ask_15.was _ (c.products_of-sum.ensures ∙ products-all _ _) (ap not (eq-eqb _ _ c.if-not-products-sum.false))
