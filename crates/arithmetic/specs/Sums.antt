-- Step 1 column by column: the values of a row at a place, and their sum.
-- So neither the row nor the answer depends on the order among columns in which `load_run` adds (sums-alike).
use Rattle.std.specs.Prelude.{cond, ℕ, eqb, Float}
use mathlib.Core.List.{List, [], ◌∷◌}
use Rattle.std.specs.Float.{binary64}
use Rattle.std.specs.Float.Ieee.{add}

-- the values at place j, in stored order
unfoldable pub values_at : List ℕ → List Float → ℕ → List Float
values_at [] vs j = []
values_at (i ∷ is) [] j = []
values_at (i ∷ is) (v ∷ vs) j = cond (eqb i j) (v ∷ values_at is vs j) (values_at is vs j)

-- "each addition rounded once"
unfoldable pub added : Float → List Float → Float
added s [] = s
added s (v ∷ vs) = added (add binary64 s v) vs

-- "added in stored order from the first of them"; s where there is none
unfoldable pub summed : Float → List Float → Float
summed s [] = s
summed s (v ∷ vs) = added v vs
