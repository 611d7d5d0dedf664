use Rattle.matrix.specs.Questions.{ask_numbers}
use Rattle.questions.specs.AskLaws.{then-err, then-pass}
use borrow.Author.Rules.{rules}
use Rattle.questions.proofs.ask_numbers.Goals as goal

pub returns-in_err-ask_values : goal.returns-in_err-ask_values
unfolding ask_numbers
returns-in_err-ask_values c = then-err _ _ _ _ _ c.ask_values.ensures c.in_err-ask_values.was c.from_residual.ensures.1

pub returns : goal.returns
unfolding ask_numbers
returns c = then-pass _ _ _ _ c.ask_values.ensures c.in_ok-ask_values.was (search rules)
