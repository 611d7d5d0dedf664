use Prim.Native.Nat.{◌<◌}
use mathlib.Core.Path.{refl}
use Rattle.matrix.specs.Input.{own_order}
use Rattle.matrix.proofs.OrderLaws.{order_below}
use Rattle.questions.specs.ScatterLaws.{scattered-none, scattered-more, scattered-end, scattered-all}
use borrow.Author.Rules.{rules}
use native.Mathlib.Omega.{arith}
use Rattle.questions.proofs.write_solution.Goals as goal
use Rattle.questions.proofs.write_solution.Goals.{After-wide-at}

pub loop-k-init : goal.loop-k-init
loop-k-init c = scattered-none _ _ _ _ _

inside : (c : After-wide-at) → c.wide-at.result < c.args.n
inside c =
    rw c.wide-at.ensures.0 (order_below _ _ c.requires.order c.loop-k.k (search rules))

pub offset_bounds-x-at : goal.offset_bounds-x-at
offset_bounds-x-at c = omega (arith, inside (goal.at.offset_bounds-x-at c).After-wide-at)

pub bounds-x-at : goal.bounds-x-at
bounds-x-at c = omega (arith, inside (goal.at.bounds-x-at c).After-wide-at)

pub loop-k-preserved : goal.loop-k-preserved
loop-k-preserved c =
    scattered-more _ _ _ _ _ c.requires.order (search rules) _ _ c.loop-k.invariant _ _ (search rules) c.wide-at.ensures.0 refl

pub returns : goal.returns
unfolding own_order
returns c = scattered-all _ _ _ _ c.requires.to (scattered-end _ _ _ _ _ c.requires.order (search rules) _ _ c.loop-k.invariant (search rules))
