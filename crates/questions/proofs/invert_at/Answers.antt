use Rattle.questions.specs.ScatterLaws.{inverted-back}
use borrow.Author.Rules.{rules}
use Rattle.questions.proofs.invert_at.Goals as goal

pub returns : goal.returns
returns c = inverted-back _ _ _ _ (search rules) c.invert.ensures
