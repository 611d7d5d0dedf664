use mathlib.Core.Path.{refl, ◌∙◌}
use lib.Ieee.{neg, of_bits}
use Rattle.load.proofs.DrawLaws.{any-has, drew-skip, drew-add}
use Rattle.load.proofs.Drawn.draw.Goals as goal

pub returns-then-stands : goal.returns-then-stands
returns-then-stands c =
    drew-skip _ _ _ _ _ _ _ c.next-seed.ensures.0 c.next-seed.ensures.1 (c.narrow-column.ensures ∙ c.column_of.ensures.0) _ (c.stands.ensures ∙ any-has _ _) c.if-stands.true

pub returns : goal.returns
unfolding neg of_bits
returns c =
    drew-add _ _ _ _ _ _ _ c.next-seed.ensures.0 c.next-seed.ensures.1 (c.narrow-column.ensures ∙ c.column_of.ensures.0) _ (c.stands.ensures ∙ any-has _ _) c.if-stands.false
    _ refl
