use Prim.Native.Nat.{◌<◌}
use Rattle.matrix.proofs.OrderLaws.{order_below}
use Rattle.questions.specs.Lent.{inverted}
use Rattle.questions.specs.ScatterLaws.{scattered-none, scattered-more, scattered-end}
use mathlib.Core.Path.{refl}
use borrow.Author.Rules.{rules}
use native.Mathlib.Omega.{arith}
use Rattle.questions.proofs.invert.Goals as goal
use Rattle.questions.proofs.invert.Goals.{After-wide}

pub loop-k-init : goal.loop-k-init
loop-k-init c = scattered-none _ _ _ _ _

inside : (c : After-wide) → c.wide.result < c.args.n
inside c =
    rw c.wide.ensures.0 (order_below _ _ c.requires.order c.loop-k.k (search rules))

pub offset_bounds-inverse-wide : goal.offset_bounds-inverse-wide
offset_bounds-inverse-wide c = omega (arith, inside c)

pub bounds-inverse-wide : goal.bounds-inverse-wide
bounds-inverse-wide c = omega (arith, inside c)

pub loop-k-preserved : goal.loop-k-preserved
loop-k-preserved c =
    scattered-more _ _ _ _ _ c.requires.order (search rules) _ _ c.loop-k.invariant _ _ (search rules) c.wide.ensures.0 refl

pub returns : goal.returns
unfolding inverted
returns c = scattered-end _ _ _ _ _ c.requires.order (search rules) _ _ c.loop-k.invariant (search rules)
