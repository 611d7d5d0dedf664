use Rattle.matrix.specs.Questions.{ask_pattern}
use Rattle.questions.specs.AskLaws.{then-err, then-pass}
use Rattle.questions.proofs.ask_pattern.Goals as goal

pub returns-in_err-ask_starts : goal.returns-in_err-ask_starts
unfolding ask_pattern
returns-in_err-ask_starts c = then-err _ _ _ _ _ c.ask_starts.ensures c.in_err-ask_starts.was c.from_residual.ensures.1

pub returns-in_err-ask_columns : goal.returns-in_err-ask_columns
unfolding ask_pattern
returns-in_err-ask_columns c = then-pass _ _ _ _ c.ask_starts.ensures c.in_ok-ask_starts.was (then-err _ _ _ _ _ c.ask_columns.ensures c.in_err-ask_columns.was c.from_residual-in_err-ask_columns.ensures.1)

pub returns : goal.returns
unfolding ask_pattern
returns c = then-pass _ _ _ _ c.ask_starts.ensures c.in_ok-ask_starts.was (then-pass _ _ _ _ c.ask_columns.ensures c.in_ok-ask_columns.was c.ask_orders.ensures)
