use Rattle.matrix.specs.Questions.{no_entry}
use borrow.Author.Rules.{rules}
use Rattle.questions.proofs.row_empty.Goals as goal

pub returns : goal.returns
unfolding no_entry
returns c = search rules
