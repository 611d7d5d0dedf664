-- What the functions ask for is met by computed values, and the call's three answers come about.
use Rattle.std.specs.Prelude.{Ok, Err}
use mathlib.Core.Path.{◌≡◌, refl}
use mathlib.Core.List.{[], ◌∷◌}
use native.Mathlib.Omega.{arith}
use lib.Ieee.{nan}
use Rattle.base.specs.Lists.{has, sum, table, joined, nought, padded}
use Rattle.base.specs.Answers.{left}
use Rattle.base.specs.declared.Refusal.TheVariants.{Rows, Lengths}
use Rattle.matrix.specs.Lists.{MatrixLists, matrix_lists}
use Rattle.load.specs.Load.{drawn, column_of, added, seed_at, row_at, entries_at, values_for, four, one, load, ask_load, load_outcome}
use Rattle.load.specs.Stores.{Drawable, RowDrawable, RowsLent}

pub drawable : Drawable 2 8 8 4 (record { end = 6; seed = 65535 })
drawable = record { rows = omega arith; few = omega arith; long = refl; begun = omega arith; room = omega arith; seed-small = omega arith }

pub row-drawable : RowDrawable 2 1 8 8 (record { end = 4; seed = 65535 })
row-drawable = record { place = omega arith; few = omega arith; long = refl; room = omega arith; seed-small = omega arith }

pub rows-lent : RowsLent 1 65535 (7 ∷ 7 ∷ []) (0 ∷ 0 ∷ 0 ∷ 0 ∷ []) (nought ∷ nought ∷ nought ∷ nought ∷ [])
unfolding padded
rows-lent = record { few = omega arith; seed-small = omega arith; starts-long = refl; columns-are = refl; values-are = refl }

-- buffers for one row, and what they held before
unfoldable pub before : MatrixLists
before = matrix_lists (7 ∷ 7 ∷ []) (9 ∷ 9 ∷ 9 ∷ 9 ∷ []) (nan ∷ nan ∷ nan ∷ nan ∷ []) (9 ∷ []) (9 ∷ []) (nan ∷ [])

pub made : load_outcome 1 1 before ≡ left (Ok 1) (matrix_lists (0 ∷ 1 ∷ []) (0 ∷ 0 ∷ 0 ∷ 0 ∷ []) (four ∷ nought ∷ nought ∷ nought ∷ []) (0 ∷ []) (0 ∷ []) (one ∷ []))
unfolding before load_outcome ask_load load entries_at sum row_at seed_at added has drawn column_of values_for joined table padded
made = refl

-- 1 comes before 2
pub rows-refused : load_outcome 0 1 before ≡ left (Err Rows) before
unfolding load_outcome ask_load
rows-refused = refl

pub lengths-refused : load_outcome 2 1 before ≡ left (Err Lengths) before
unfolding before load_outcome ask_load
lengths-refused = refl
