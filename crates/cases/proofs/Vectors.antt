-- The vectors' counts and shared index slots, computed by the definitions.
use mathlib.Core.Path.{◌≡◌, refl}
use mathlib.Core.List.{[], ◌∷◌}
use Rattle.base.specs.Lists.{sum, count, asc, has, list_at}
use Rattle.fill.specs.Fill.{reach, filled, upper, upper_row, lower_row, lower_column, products}
use Rattle.base.specs.First.{first}
use Rattle.matrix.specs.Input.{is_of, ic, stored}
use Rattle.placement.specs.Placing.{count_above, tails, best_from, first_at, agree, append_all, fresh, meets, overlap, tail_or, shared, after, placed}
use Rattle.outcome.specs.Forms.{placed_to, index_need}
use Rattle.outcome.specs.Structure.{counts}
use Rattle.cases.specs.Vectors.{pattern, counts_of, shared_slots, five, grid, natural, reordered}

pub five-counts : counts_of five ≡ 2 ∷ 2 ∷ 0 ∷ []
unfolding counts_of five pattern counts sum count lower_row upper_row lower_column products asc upper filled reach stored ic first is_of has list_at
five-counts = refl

pub natural-counts : counts_of (grid natural) ≡ 20 ∷ 20 ∷ 54 ∷ []
unfolding counts_of grid natural pattern counts sum count lower_row upper_row lower_column products asc upper filled reach stored ic first is_of has list_at
natural-counts = refl

pub reordered-counts : counts_of (grid reordered) ≡ 17 ∷ 17 ∷ 39 ∷ []
unfolding counts_of grid reordered pattern counts sum count lower_row upper_row lower_column products asc upper filled reach stored ic first is_of has list_at
reordered-counts = refl

pub natural-shared : shared_slots (grid natural) ≡ 9 ∷ 9 ∷ []
unfolding shared_slots grid natural pattern index_need placed_to placed after shared append_all fresh meets overlap tail_or tails best_from count_above first_at agree lower_row upper_row asc upper filled reach stored ic first is_of has list_at
natural-shared = refl

pub reordered-shared : shared_slots (grid reordered) ≡ 14 ∷ 14 ∷ []
unfolding shared_slots grid reordered pattern index_need placed_to placed after shared append_all fresh meets overlap tail_or tails best_from count_above first_at agree lower_row upper_row asc upper filled reach stored ic first is_of has list_at
reordered-shared = refl
