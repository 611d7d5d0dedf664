-- Report 114's 5 by 5 example and its 3 by 3 grid in two orders: patterns only. Definitions only.
use Rattle.std.specs.Prelude.{List, [], ◌∷◌, ℕ}
use Rattle.matrix.specs.Input.{Input, input_of, stored}
use Rattle.outcome.specs.Forms.{index_need}
use Rattle.outcome.specs.Structure.{counts}
use Rattle.base.specs.declared.Form.TheVariants.{Shared}
use Rattle.base.specs.declared.Side.TheVariants.{Lower, Upper}

unfoldable pub pattern : ℕ → List ℕ → List ℕ → List ℕ → Input
pattern n s j o = input_of n s j [] o o []

-- lower, upper, products
unfoldable pub counts_of : Input → List ℕ
counts_of i = (counts i).lower ∷ (counts i).upper ∷ (counts i).products ∷ []

-- the shared form's index slots, lower and upper
unfoldable pub shared_slots : Input → List ℕ
shared_slots i = index_need Shared Lower (stored i) i.n i.n ∷ index_need Shared Upper (stored i) i.n i.n ∷ []

-- rows {0, 2}, {1}, {1, 2, 3}, {3}, {3, 4}
unfoldable pub five : Input
five = pattern 5 (0 ∷ 2 ∷ 3 ∷ 6 ∷ 7 ∷ 9 ∷ []) (0 ∷ 2 ∷ 1 ∷ 1 ∷ 2 ∷ 3 ∷ 3 ∷ 3 ∷ 4 ∷ []) (0 ∷ 1 ∷ 2 ∷ 3 ∷ 4 ∷ [])

-- the 5-point grid of 3 by 3, eliminated in an order
unfoldable pub grid : List ℕ → Input
grid o =
    pattern 9 (0 ∷ 3 ∷ 7 ∷ 10 ∷ 14 ∷ 19 ∷ 23 ∷ 26 ∷ 30 ∷ 33 ∷ [])
    (0 ∷ 1 ∷ 3 ∷ 0 ∷ 1 ∷ 2 ∷ 4 ∷ 1 ∷ 2 ∷ 5 ∷ 0 ∷ 3 ∷ 4 ∷ 6 ∷ 1 ∷ 3 ∷ 4 ∷ 5 ∷ 7 ∷ 2 ∷ 4 ∷ 5 ∷ 8 ∷ 3 ∷ 6 ∷ 7 ∷ 4 ∷ 6 ∷ 7 ∷ 8 ∷ 5 ∷ 7 ∷ 8 ∷ []) o

unfoldable pub natural : List ℕ
natural = 0 ∷ 1 ∷ 2 ∷ 3 ∷ 4 ∷ 5 ∷ 6 ∷ 7 ∷ 8 ∷ []

-- the order of Appendix 5, counted from 0
unfoldable pub reordered : List ℕ
reordered = 0 ∷ 2 ∷ 6 ∷ 8 ∷ 5 ∷ 4 ∷ 1 ∷ 3 ∷ 7 ∷ []
