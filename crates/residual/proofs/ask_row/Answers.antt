use Rattle.questions.specs.AskLaws.{then-err, then-pass}
use Rattle.residual.specs.Answer.{ask_row}
use Rattle.residual.proofs.Asking.{sized-by}
use Rattle.residual.proofs.ask_row.Goals as goal

pub returns-in_err-ask_sizes : goal.returns-in_err-ask_sizes
unfolding ask_row
returns-in_err-ask_sizes c = then-err _ _ _ _ _ c.ask_sizes.ensures c.in_err-ask_sizes.was c.from_residual.ensures.1

pub returns : goal.returns
unfolding ask_row
returns c = then-pass _ _ _ _ c.ask_sizes.ensures c.in_ok-ask_sizes.was c.ask_entries.ensures

pub ask_entries-requires : goal.ask_entries-requires
ask_entries-requires c = sized-by _ _ _ _ _ _ _ c.ask_sizes.ensures c.in_ok-ask_sizes.was
