-- What a lookup asks of one side's starts is met by a computed value, and the list there is found.
use mathlib.Core.Path.{◌≡◌, refl}
use mathlib.Core.Bool.{true}
use mathlib.Core.List.{[], ◌∷◌}
use native.Mathlib.Omega.{arith}
use Rattle.base.specs.Answers.{spot}
use Rattle.base.specs.declared.Form.TheVariants.{Shared}
use Rattle.base.specs.declared.Side.TheVariants.{Upper}
use Rattle.lookup.specs.Lookup.{SideLent, side_lists, sized, both_fit, run_span, span_of, span_in, within, lookup}

pub lent : SideLent true 1 (0 ∷ 1 ∷ []) (0 ∷ [])
lent = record { lists = λ h. refl; places = λ h. omega arith }

-- two places: T(0) is one entry, and the list of place 1 is empty
pub found : lookup Shared Upper (spot 0) 2 (side_lists (0 ∷ 0 ∷ 0 ∷ []) (0 ∷ 0 ∷ []) []) (side_lists (0 ∷ 1 ∷ 1 ∷ []) (0 ∷ 1 ∷ []) (1 ∷ 0 ∷ [])) ≡ 1 ∷ []
unfolding lookup span_in within span_of run_span both_fit sized
found = refl

-- a run that leaves its store
pub outside : lookup Shared Upper (spot 0) 2 (side_lists (0 ∷ 0 ∷ 0 ∷ []) (0 ∷ 0 ∷ []) []) (side_lists (0 ∷ 1 ∷ 1 ∷ []) (2 ∷ 1 ∷ []) (1 ∷ 0 ∷ [])) ≡ []
unfolding lookup span_in within span_of run_span both_fit sized
outside = refl
