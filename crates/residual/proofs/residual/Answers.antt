use mathlib.Core.Path.{sym, ◌∙◌}
use Rattle.matrix.specs.Input.{Input}
use Rattle.residual.specs.Lent.{lent_matrix}
use Rattle.residual.specs.Answer.{checked}
use Rattle.residual.proofs.Promises.{stopped, promised}
use Rattle.residual.proofs.Calls.{answer-stop, answer-pass, readable-by}
use Rattle.residual.proofs.residual.Goals as goal
use Rattle.residual.proofs.residual.Goals.{Start}

abbrev given : Start → Input
given s = lent_matrix s.args.input

pub returns-in-Err : goal.returns-in-Err
unfolding checked
returns-in-Err c =
    stopped (given (goal.at.returns-in-Err c).Start) _ _ _ (answer-stop _ _ _ _ _ _ c.ask_row-a.ensures c.in-Err.is c.number.ensures c.place.ensures)
    _ (sym c.ask_row-a.ensures ∙ c.in-Err.is)

pub check_row-requires : goal.check_row-requires
check_row-requires c = readable-by (given (goal.at.check_row-requires c).Start) _ _ _ c.ask_row-a.ensures c.in_default.is

pub returns : goal.returns
unfolding checked
returns c =
    promised (given (goal.at.returns c).Start) _ _ c.check_row.ensures.1 c.type_inv.x
    _ (answer-pass _ _ _ _ c.ask_row-a.ensures c.in_default.is c.check_row.ensures.0) (sym c.ask_row-a.ensures ∙ c.in_default.is)
