-- Lists of tests: what one that holds tells of each, and two joined.
use Rattle.std.specs.Prelude.{◌≡◌, refl, Bool, true, false, ◌&&◌, List, [], ◌∷◌, ◌++◌, ℕ, zero, suc, get_or}
use Rattle.std.proofs.Common.{◌∙◌}
use Rattle.base.specs.All.{all, all_with}
use Rattle.base.specs.Tests.{and_cases}

with-true : (a : Bool) (l : List Bool) → all_with a l ≡ true → (a ≡ true) × ((k : ℕ) → get_or l k true ≡ true)
with-true a [] e = (e, λ k. refl)
with-true a (b ∷ l) e =
    let h = with-true (a && b) l e in
    let g = and_cases a b h.0 in
    (g.0, elim [ zero ↦ g.1 | suc k ↦ h.1 k ])

pub all_true : (l : List Bool) → all l ≡ true → (k : ℕ) → get_or l k true ≡ true
all_true l e = (with-true true l e).1

with_all : (t : Bool) (l : List Bool) → all_with t l ≡ (t && all l)
with_all true l = refl
with_all false [] = refl
with_all false (b ∷ l) = with_all false l

with_append : (t : Bool) (a b : List Bool) → all_with t (a ++ b) ≡ all_with (all_with t a) b
with_append t [] b = refl
with_append t (x ∷ a) b = with_append (t && x) a b

pub all_join : (a b : List Bool) → all (a ++ b) ≡ (all a && all b)
all_join a b = with_append true a b ∙ with_all (all a) b
