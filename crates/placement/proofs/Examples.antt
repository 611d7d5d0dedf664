-- Document 01's boundary graph: row 0 full, column 0 full, diagonal full, n = 3.
use Prim.Native.Nat.{ℕ, zero, suc}
use mathlib.Core.Path.{◌≡◌, refl}
use mathlib.Core.List.{List, [], ◌∷◌}
use Rattle.placement.specs.Placing.{count_above, tails, best_from, first_at, agree, append_all, fresh, meets, overlap, tail_or, shared, plain, after, placed}

upper : ℕ → List ℕ
upper zero = 1 ∷ 2 ∷ []
upper (suc zero) = 2 ∷ []
upper (suc (suc k)) = []

lower : ℕ → List ℕ
lower zero = []
lower (suc zero) = 0 ∷ []
lower (suc (suc k)) = 0 ∷ 1 ∷ []

-- two shared index slots
arrow : placed shared upper lower 3 ≡ record { slots = 1 ∷ 2 ∷ []; runs = 0 ∷ 1 ∷ 2 ∷ []; last = 0 }
unfolding placed upper lower shared tail_or overlap meets first_at agree fresh append_all after tails best_from count_above
arrow = refl

-- three plain ones
arrow-plain : (placed plain upper lower 3).slots ≡ 1 ∷ 2 ∷ 2 ∷ []
unfolding placed upper lower plain append_all after
arrow-plain = refl

-- an overlap: 1 2 3, then 3 4, of which 4 is appended and 3 4 is the last run; then 4, its tail
lists : ℕ → List ℕ
lists zero = 1 ∷ 2 ∷ 3 ∷ []
lists (suc zero) = 3 ∷ 4 ∷ []
lists (suc (suc k)) = 4 ∷ []

none : ℕ → List ℕ
none k = []

overlapped : placed shared lists none 3 ≡ record { slots = 1 ∷ 2 ∷ 3 ∷ 4 ∷ []; runs = 0 ∷ 2 ∷ 3 ∷ []; last = 2 }
unfolding placed lists none shared tail_or overlap meets first_at agree fresh append_all after tails best_from count_above
overlapped = refl
