-- The load computed: n = 1, n = 5 whole, and entry counts.
use Prim.Native.Nat.{ℕ}
use mathlib.Core.Path.{◌≡◌, refl}
use mathlib.Core.List.{[], ◌∷◌, map}
use Rattle.base.specs.Lists.{has, sum, table, joined}
use Rattle.matrix.specs.Input.{input_of}
use Rattle.load.specs.Load.{drawn, column_of, added, seed_at, row_at, entries_at, values_for, four, minus_one, one, load}

-- with one row every draw is skipped
pub one-row : load 1 1 ≡ input_of 1 (0 ∷ 1 ∷ []) (0 ∷ []) (four ∷ []) (0 ∷ []) (0 ∷ []) (one ∷ [])
unfolding load entries_at sum row_at seed_at added has drawn column_of values_for joined table
one-row = refl

-- the seed runs on from row to row, and skipped draws count
pub five-rows : load 5 1 ≡ input_of 5
    (0 ∷ 3 ∷ 6 ∷ 9 ∷ 13 ∷ 16 ∷ [])
    (0 ∷ 3 ∷ 2 ∷ 1 ∷ 2 ∷ 3 ∷ 2 ∷ 1 ∷ 3 ∷ 3 ∷ 2 ∷ 4 ∷ 1 ∷ 4 ∷ 3 ∷ 1 ∷ [])
    (four ∷ minus_one ∷ minus_one ∷ four ∷ minus_one ∷ minus_one ∷ four ∷ minus_one ∷ minus_one ∷ four ∷ minus_one ∷ minus_one ∷ minus_one ∷ four ∷ minus_one ∷ minus_one ∷ [])
    (0 ∷ 1 ∷ 2 ∷ 3 ∷ 4 ∷ []) (0 ∷ 1 ∷ 2 ∷ 3 ∷ 4 ∷ []) (one ∷ one ∷ one ∷ one ∷ one ∷ [])
unfolding load entries_at sum row_at seed_at added has drawn column_of values_for joined table
five-rows = refl

-- entries, by n and seed
abbrev counted : ℕ × ℕ → ℕ
counted q = entries_at q.0 q.1 q.0

pub counts : map counted ((1, 0) ∷ (1, 65535) ∷ (2, 1) ∷ (5, 7) ∷ (9, 1) ∷ (64, 1) ∷ (64, 65535) ∷ (256, 1) ∷ []) ≡ 1 ∷ 1 ∷ 4 ∷ 17 ∷ 29 ∷ 252 ∷ 249 ∷ 1018 ∷ []
unfolding entries_at sum row_at seed_at added has drawn column_of
counts = refl
