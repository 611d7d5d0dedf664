use mathlib.Core.Path.{sym, ◌∙◌}
use lib.Ieee.{of_bits}
use Rattle.base.specs.Magnitude.{is_floor}
use Rattle.matrix.specs.Questions.{ask_floor}
use Rattle.questions.proofs.ask_floor.Goals.{then-not-is_finite-via-then-not-is_finite, then-not-is_finite-via-else-not-is_finite+then-floor}
use Rattle.questions.proofs.ask_floor.Goals as goal

pub returns-then-not-is_finite : goal.returns-then-not-is_finite
unfolding ask_floor is_floor of_bits
returns-then-not-is_finite c = elim c.then-not-is_finite.branch [
  | then-not-is_finite-via-then-not-is_finite w ↦ rw (sym c.is_finite.ensures ∙ w.if-not-is_finite.true)
  | then-not-is_finite-via-else-not-is_finite+then-floor w ↦ rw (sym c.is_finite.ensures ∙ w.if-not-is_finite.false, w.if-floor.true)
]

pub returns : goal.returns
unfolding ask_floor is_floor of_bits
returns c = rw (sym c.is_finite.ensures ∙ c.if-not-is_finite.false, c.if-floor.false)
