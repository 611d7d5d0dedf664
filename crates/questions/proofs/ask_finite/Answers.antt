use mathlib.Core.Path.{◌≡◌, refl, ◌∙◌}
use lib.ListN.{length}
use mathlib.Core.Bool.{not}
use lib.Ieee.Scale.{finite}
use lib.Ieee.{nan}
use Rattle.base.specs.First.{first}
use Rattle.matrix.specs.Questions.{not_finite, ask_finite}
use Rattle.questions.specs.AskLaws.{first-position, found-stop, found-pass}
use Rattle.questions.proofs.ask_finite.Goals as goal
use Rattle.questions.proofs.ask_finite.Goals.{After-first_not_finite}

found : (c : After-first_not_finite) → c.first_not_finite.result ≡ first (not_finite c.args.v.now) (length c.args.v.now)
unfolding not_finite
found c = c.first_not_finite.ensures ∙ first-position (λ x. not (finite x)) c.args.v.now nan _ (λ i l. refl)

pub returns-in-Some : goal.returns-in-Some
unfolding ask_finite
returns-in-Some c = found-stop _ _ _ _ _ _ (found (goal.at.returns-in-Some c).After-first_not_finite) c.in-Some.is refl

pub returns-in-None : goal.returns-in-None
unfolding ask_finite
returns-in-None c = found-pass _ _ _ _ _ (found (goal.at.returns-in-None c).After-first_not_finite) c.in-None.is refl
