use Rattle.factor.specs.TurnLaws.{came-on, came-off, came-done}
use Rattle.factor.specs.Factoring.{written, lent_lists, Going}
use Rattle.matrix.specs.Input.{lent_by}
use native.Mathlib.Omega.{arith}
use Rattle.factor.proofs.eliminate_rows.Goals as goal
use Rattle.factor.proofs.eliminate_rows.Goals.{At-loop-k}

-- the rows are done, for the column order that is lent
done : (l : At-loop-k) → Going l.args.form (lent_by l.args.input l.requires.0) (lent_lists l.args.lists) l.loop-k.k
    (written l.loop-k.lower_values l.loop-k.upper_values l.loop-k.d l.loop-k.work l.loop-k.marks)
done l = l.loop-k.invariant l.requires.0 l.requires.1

pub loop-k-init : goal.loop-k-init
loop-k-init c o G = G

pub overflow_cast-k : goal.overflow_cast-k
overflow_cast-k c = omega (arith, (done (goal.at.overflow_cast-k c).At-loop-k).given.lent.lent.orders.few)

pub eliminate_row-requires : goal.eliminate_row-requires
eliminate_row-requires c = (c.loop-k-test.true, (c.requires.0, done (goal.at.eliminate_row-requires c).At-loop-k))

pub returns-in_err-eliminate_row : goal.returns-in_err-eliminate_row
returns-in_err-eliminate_row c o G =
    let e = c.from_residual in
    came-off _ _ _ _ _ c.in_err-eliminate_row.field-0.0 _ _ e.result e.ensures.0 e.ensures.1 (c.in_err-eliminate_row.ensures o (c.loop-k.invariant o G))

pub loop-k-preserved : goal.loop-k-preserved
loop-k-preserved c o G = came-on (c.in_ok-eliminate_row.ensures o (c.loop-k.invariant o G))

pub returns : goal.returns
returns c o G = came-done _ (omega (arith, c.loop-k-test.false)) (c.loop-k.invariant o G)
