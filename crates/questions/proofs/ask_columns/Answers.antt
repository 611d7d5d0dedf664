use mathlib.Core.Path.{◌≡◌, refl, ◌∙◌}
use lib.ListN.{length}
use lib.Dec.{leb}
use Rattle.base.specs.First.{first}
use Rattle.matrix.specs.Questions.{bad_column, ask4}
use Rattle.questions.specs.AskLaws.{first-position, found-stop, found-pass}
use Rattle.questions.proofs.ask_columns.Goals as goal
use Rattle.questions.proofs.ask_columns.Goals.{After-first_outside}

found : (c : After-first_outside) → c.first_outside.result ≡ first (bad_column c.args.columns.now c.args.n) (length c.args.columns.now)
unfolding bad_column
found c = c.first_outside.ensures ∙ first-position (λ j. leb c.args.n j) c.args.columns.now 0 _ (λ i l. refl)

pub returns-in-Some : goal.returns-in-Some
unfolding ask4
returns-in-Some c = found-stop _ _ _ _ _ _ (found (goal.at.returns-in-Some c).After-first_outside) c.in-Some.is refl

pub returns-in-None : goal.returns-in-None
unfolding ask4
returns-in-None c = found-pass _ _ _ _ _ (found (goal.at.returns-in-None c).After-first_outside) c.in-None.is refl
