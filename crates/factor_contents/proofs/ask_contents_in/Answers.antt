use Rattle.std.proofs.Common.{ap}
use mathlib.Core.Bool.{not}
use borrow.Author.Tests.{eq-eqb, ne_eqb}
use native.Mathlib.Omega.{arith}
use Rattle.base.specs.FirstLaws.{passed-on}
use Rattle.factor_contents.specs.FactorFile.{lists_at}
use Rattle.factor_contents.proofs.CallLaws.{orders-there, products-there, contents-5, contents-15, contents-21, contents-pass}
use Rattle.factor_contents.proofs.ask_contents_in.Goals as goal

pub returns-in_err-ask_orders_in : goal.returns-in_err-ask_orders_in
unfolding lists_at
returns-in_err-ask_orders_in c = rw (passed-on _ _ c.from_residual.ensures.1) (contents-5 _ _ _ _ (orders-there _ _ _ _ _ _ _ c.offsets_of-at.ensures.6 c.offsets_of-at.ensures.7 c.ask_orders_in.ensures) _ c.in_err-ask_orders_in.was)

pub returns-in_err-ask_15_in : goal.returns-in_err-ask_15_in
unfolding lists_at
returns-in_err-ask_15_in c = rw (passed-on _ _ c.from_residual-in_err-ask_15_in.ensures.1) (contents-15 _ _ _ _ (orders-there _ _ _ _ _ _ _ c.offsets_of-at.ensures.6 c.offsets_of-at.ensures.7 c.ask_orders_in.ensures) c.in_ok-ask_orders_in.was _ c.ask_15_in.ensures _ c.in_err-ask_15_in.was)

pub products_in-sum-requires : goal.products_in-sum-requires
products_in-sum-requires c =
    let h = c.requires in
    let o = c.offsets_of-at.ensures in
    (omega (arith, h.inside, o.1), h.lower-few, omega (arith, h.inside, o.0), h.few)

pub returns-then-not-products-sum : goal.returns-then-not-products-sum
unfolding lists_at
returns-then-not-products-sum c =
    let o = c.offsets_of-at.ensures in
    contents-21 _ _ _ _ (orders-there _ _ _ _ _ _ _ o.6 o.7 c.ask_orders_in.ensures) c.in_ok-ask_orders_in.was _ c.ask_15_in.ensures c.in_ok-ask_15_in.was _ (products-there _ _ _ _ _ _ _ _ o.1 o.0 c.products_in-sum.ensures) (ap not (ne_eqb _ _ c.if-not-products-sum.true))

pub returns : goal.returns
unfolding lists_at
returns c =
    let o = c.offsets_of-at.ensures in
    contents-pass _ _ _ _ (orders-there _ _ _ _ _ _ _ o.6 o.7 c.ask_orders_in.ensures) c.in_ok-ask_orders_in.was _ c.ask_15_in.ensures c.in_ok-ask_15_in.was _ (products-there _ _ _ _ _ _ _ _ o.1 o.0 c.products_in-sum.ensures) (ap not (eq-eqb _ _ c.if-not-products-sum.false))
