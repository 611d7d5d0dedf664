-- What the pass asks of its callers is met by a computed value in both forms: one row, one entry. What its steps ask is met on the way.
use mathlib.Core.Path.{refl}
use mathlib.Core.List.{List, [], ◌∷◌}
use Prim.Native.Nat.{ℕ}
use Rattle.matrix.specs.Input.{Input, input_of}
use Rattle.storing.specs.declared.Way.TheVariants.{OneAfterAnother, Sharing}
use Rattle.symbolic.proofs.Witness as structure
use Rattle.comparison.specs.Comparing.{Presenting}

abbrev zeros : List ℕ
zeros = 0 ∷ []

abbrev starts : List ℕ
starts = 0 ∷ 1 ∷ []

abbrev one : Input
one = input_of 1 starts zeros [] zeros zeros []

plain : Presenting OneAfterAnother one starts starts [] 0 starts starts [] 0 16
plain = let g = structure.plain in record { matrix = g.matrix; lower = g.lower; upper = g.upper; lower-runs = refl; upper-runs = refl }

shared : Presenting Sharing one starts zeros [] 0 starts zeros [] 0 16
shared = let g = structure.shared in record { matrix = g.matrix; lower = g.lower; upper = g.upper; lower-runs = tt; upper-runs = tt }
