-- Where 19 stands among the questions, computed on a row without entries, b = 1: behind 6, before 7.
use Rattle.std.specs.Prelude.{Err}
use mathlib.Core.Path.{◌≡◌, refl}
use mathlib.Core.Bool.{true, false}
use mathlib.Core.List.{[], ◌∷◌}
use lib.IntN.{pos}
use lib.Ieee.{Float, nan, fin, lt}
use Rattle.base.specs.First.{first}
use Rattle.base.specs.Magnitude.{is_floor}
use Rattle.base.specs.Answers.{own}
use Rattle.base.specs.declared.Refusal.TheVariants.{NotFinite, EmptyRow, Floor}
use Rattle.matrix.specs.Input.{Input, input_of, with_floor, is_of}
use Rattle.matrix.specs.Questions.{bad_start, bad_column, bad_index, not_finite, no_entry, empty_row, ask3, ask4, ask5, ask_finite, ask6, ask_floor, ask_numbers, ask7, ask_pattern, ask_solve}

abbrev one : Float
one = fin false 1 (pos 0)

abbrev empty : Float → Float → Input
empty b floor = with_floor floor (input_of 1 (0 ∷ 0 ∷ []) [] [] (0 ∷ []) (0 ∷ []) (b ∷ []))

pub behind-6 : ask_solve (empty nan (fin true 1 (pos 0))) ≡ Err (NotFinite 0)
unfolding ask_solve ask_pattern ask3 ask4 ask5 bad_start bad_column bad_index is_of first ask_numbers ask6 ask_finite not_finite
behind-6 = refl

pub before-7 : ask_solve (empty one (fin true 1 (pos 0))) ≡ Err Floor
unfolding ask_solve ask_pattern ask3 ask4 ask5 bad_start bad_column bad_index is_of first ask_numbers ask6 ask_finite not_finite ask_floor is_floor lt
before-7 = refl

-- a floor of -0 is one
pub floor-passed : ask_solve (empty one (fin true 0 (pos 0))) ≡ Err (EmptyRow (own 0))
unfolding ask_solve ask_pattern ask3 ask4 ask5 bad_start bad_column bad_index is_of first ask_numbers ask6 ask_finite not_finite ask_floor is_floor lt ask7 empty_row no_entry
floor-passed = refl
