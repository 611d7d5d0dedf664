use Rattle.matrix.specs.Questions.{ask_pattern, ask_solve}
use Rattle.questions.specs.SettledLaws.{places-lent}
use Rattle.questions.specs.AskLaws.{then-err, then-pass}
use Rattle.questions.proofs.ask_solve.Goals as goal

pub returns-in_err-ask_pattern : goal.returns-in_err-ask_pattern
unfolding ask_solve ask_pattern
returns-in_err-ask_pattern c = then-err _ _ _ _ _ c.ask_pattern.ensures c.in_err-ask_pattern.was c.from_residual.ensures.1

pub returns-in_err-ask_numbers : goal.returns-in_err-ask_numbers
unfolding ask_solve ask_pattern
returns-in_err-ask_numbers c = then-pass _ _ _ _ c.ask_pattern.ensures c.in_ok-ask_pattern.was (then-err _ _ _ _ _ c.ask_numbers.ensures c.in_err-ask_numbers.was c.from_residual-in_err-ask_numbers.ensures.1)

pub ask_entries-requires : goal.ask_entries-requires
ask_entries-requires c = places-lent _ _ _ _ _ _ _ _ _ c.requires.lent c.ask_pattern.ensures c.in_ok-ask_pattern.was

pub returns : goal.returns
unfolding ask_solve ask_pattern
returns c = then-pass _ _ _ _ c.ask_pattern.ensures c.in_ok-ask_pattern.was (then-pass _ _ _ _ c.ask_numbers.ensures c.in_ok-ask_numbers.was c.ask_entries.ensures)
