use Rattle.std.specs.Prelude.{Err}
use Rattle.questions.specs.AskLaws.{empty-at, ask-at, ask-pass}
use mathlib.Core.Path.{ap, ◌∙◌}
use Rattle.base.specs.declared.OwnNumber.{OwnNumber}
use Rattle.base.specs.declared.Refusal.TheVariants.{EmptyRow}
use Rattle.base.specs.FirstLaws.{first_more, first-zero}
use Rattle.matrix.specs.Questions.{ask7}
use Rattle.matrix.proofs.OrderLaws.{order_below}
use borrow.Author.Rules.{rules}
use native.Mathlib.Omega.{arith}
use Rattle.questions.proofs.ask_entries.Goals as goal

pub loop-k-init : goal.loop-k-init
loop-k-init c = first-zero _

pub row_empty-requires : goal.row_empty-requires
row_empty-requires c =
    omega (arith, order_below _ _ c.requires.order c.loop-k.k (search rules), ap (λ (i : OwnNumber). i.0) c.own_row-i.ensures)

pub returns-then-row_empty : goal.returns-then-row_empty
unfolding ask7
returns-then-row_empty c =
    let e = c.own_row-i.ensures in
    ask-at _ _ _ _ _ (search rules) c.loop-k.invariant (empty-at _ _ _ _ _ e c.row_empty.ensures ∙ c.if-row_empty.true) (ap (λ (i : OwnNumber). Err (EmptyRow i)) e)

pub loop-k-preserved : goal.loop-k-preserved
loop-k-preserved c =
    let e = c.own_row-i.ensures in
    first_more _ _ c.loop-k.invariant (empty-at _ _ _ _ _ e c.row_empty.ensures ∙ c.if-row_empty.false)

pub returns : goal.returns
unfolding ask7
returns c = search ask-pass
