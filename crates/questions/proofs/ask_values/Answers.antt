use Rattle.matrix.specs.Questions.{ask6}
use Rattle.questions.specs.AskLaws.{then-err, then-pass}
use Rattle.questions.proofs.ask_values.Goals as goal

pub returns-in_err-ask_finite : goal.returns-in_err-ask_finite
unfolding ask6
returns-in_err-ask_finite c = then-err _ _ _ _ _ c.ask_finite.ensures c.in_err-ask_finite.was c.from_residual.ensures.1

pub returns : goal.returns
unfolding ask6
returns c = then-pass _ _ _ _ c.ask_finite.ensures c.in_ok-ask_finite.was c.ask_finite-2.ensures
