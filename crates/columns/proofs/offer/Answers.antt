use Rattle.columns.proofs.ListLaws.{offer-out, offer-list, offer-again, offer-room, offer-push}
use native.Mathlib.Omega.{arith}
use Rattle.columns.proofs.offer.Goals as goal

pub returns-then-j-lo : goal.returns-then-j-lo
returns-then-j-lo c = offer-out _ _ _ _ _ _ _ (λ x a b e. omega arith)

pub returns-then-hi-j : goal.returns-then-hi-j
returns-then-hi-j c = offer-out _ _ _ _ _ _ _ (λ x a b e. omega arith)

pub leads_with-requires-clause-chain : goal.leads_with-requires-clause-chain
leads_with-requires-clause-chain c = (omega arith, offer-list (omega arith) (omega arith) c.requires.roomy)

pub returns-then-leads_with : goal.returns-then-leads_with
returns-then-leads_with c = offer-again (omega arith) (omega arith) c.leads_with.ensures c.if-leads_with.true

pub push_node-requires-clause-bounds : goal.push_node-requires-clause-bounds
push_node-requires-clause-bounds c =
    (offer-room (omega arith) (omega arith) c.leads_with.ensures c.if-leads_with.false c.requires.roomy, c.requires.bounds.1, omega arith)

pub overflow_add-result : goal.overflow_add-result
overflow_add-result c =
    omega (arith, offer-room (omega arith) (omega arith) c.leads_with.ensures c.if-leads_with.false c.requires.roomy)

pub returns : goal.returns
returns c =
    let d = c.leads_with.ensures in
    offer-push c.requires.room (offer-room (omega arith) (omega arith) d c.if-leads_with.false c.requires.roomy) c.requires.bounds.0 c.requires.bounds.1 (omega arith) (omega arith) d c.if-leads_with.false c.push_node.ensures
