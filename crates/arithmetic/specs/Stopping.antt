-- The elimination that stops at its first fault: a device of the proofs, since code stops so. What it answers is defined by Arith's runs (StoppingLaws).
-- A check `c` looks at the result of each rounded operation: `any` takes every result, `at k` refuses one that is not finite.
use Rattle.std.specs.Prelude.{ℕ, zero, suc, Bool, true, false, cond, List, [], ◌∷◌, ◌++◌, get_or, set, replicate, Float}
use Rattle.std.specs.Float.{nan, binary64}
use Rattle.std.specs.Float.Ieee.{add, sub, mul, div}
use Rattle.std.specs.Float.Ieee.Scale.{finite}
use Rattle.base.specs.Lists.{nought, has}
use Rattle.base.specs.Magnitude.{at_most}
use Rattle.arithmetic.specs.Arith.{zero_pivot, overflow, Out, ok, met, one, System, Row, Given, given, Work, Result}
use Rattle.arithmetic.specs.Again.{Factors, given_by}

infixl 20 ◌>>=◌
abbrev pub ◌>>=◌ : {A B : Type 0} → Out A → (A → Out B) → Out B
◌>>=◌ (ok a) f = f a
◌>>=◌ (met q) f = met q

-- what is asked of the result of a rounded operation
abbrev pub Check : Type 0
Check = Float → Out Float

abbrev pub any : Check
any x = ok x

-- question 13 at place k
abbrev pub at : ℕ → Check
at k x = cond (finite x) (ok x) (met (overflow k))

-- question 12 at place k
abbrev pub pivot : ℕ → Float → Float → Out Float
pivot k f p = cond (at_most p f) (met (zero_pivot k)) (ok p)

abbrev pub less : Check → Float → Float → Float → Out Float
less c v a b = c (mul binary64 a b) >>= λ p. c (sub binary64 v p)

-- ---- place k

-- step 1
abbrev pub enter : Check → Bool → Float → Float → Out Float
enter c false s v = ok v
enter c true s v = c (add binary64 s v)

unfoldable pub load : Check → List ℕ → List (ℕ × Float) → List Float → Out (List Float)
load c seen [] w = ok w
load c seen (e ∷ es) w = enter c (has seen e.0) (get_or w e.0 nan) e.1 >>= λ v. load c (e.0 ∷ seen) es (set w e.0 v)

unfoldable pub start : Check → System → ℕ → Out Work
unfolding load
start c S k = load c [] (S.entries k) (replicate S.n nought) >>= λ w. ok (record { l = []; w = w; s = S.rhs k })

-- step 2
unfoldable pub subtract : Check → Float → List ℕ → List Float → List Float → Out (List Float)
subtract c m [] us w = ok w
subtract c m (j ∷ js) [] w = ok w
subtract c m (j ∷ js) (u ∷ us) w = less c (get_or w j nan) m u >>= λ v. subtract c m js us (set w j v)

unfoldable pub step_at : Check → Given → ℕ → Work → Out Work
unfolding subtract
step_at c G i a =
    let m = get_or a.w i nan in
    less c a.s m (G.y i) >>= λ s. subtract c m (G.upper i) (G.u i) a.w >>= λ w. ok (record { l = a.l ++ (m ∷ []); w = w; s = s })

unfoldable pub steps : Check → Given → List ℕ → Work → Out Work
unfolding step_at
steps c G [] a = ok a
steps c G (i ∷ is) a = step_at c G i a >>= steps c G is

-- step 3
unfoldable pub scaled : Check → Float → List Float → List ℕ → Out (List Float)
scaled c d w [] = ok []
scaled c d w (j ∷ js) = c (mul binary64 (get_or w j nan) d) >>= λ u. scaled c d w js >>= λ us. ok (u ∷ us)

unfoldable pub finish : Check → ℕ → Float → List ℕ → Work → Out Row
unfolding scaled
finish c k f above a =
    pivot k f (get_or a.w k nan) >>= λ p.
    c (div binary64 one p) >>= λ d.
    c (mul binary64 a.s d) >>= λ y.
    scaled c d a.w above >>= λ u.
    ok (record { l = a.l; d = d; y = y; u = u })

unfoldable pub row : System → List Row → ℕ → Out Row
unfolding start steps finish
row S rows k = start (at k) S k >>= λ a. steps (at k) (given S rows) (S.lower k) a >>= finish (at k) k S.floor (S.upper k)

unfoldable pub forward : System → ℕ → ℕ → List Row → Out (List Row)
unfolding row
forward S zero k rows = ok rows
forward S (suc f) k rows = row S rows k >>= λ r. forward S f (suc k) (rows ++ (r ∷ []))

-- ---- back
unfoldable pub rest : Check → Float → List ℕ → List Float → List Float → Out Float
rest c t [] us z = ok t
rest c t (j ∷ js) [] z = ok t
rest c t (j ∷ js) (u ∷ us) z = less c t u (get_or z j nan) >>= λ t. rest c t js us z

unfoldable pub back : Given → ℕ → List Float → Out (List Float)
unfolding rest
back G zero z = ok z
back G (suc k) z = rest (at k) (G.y k) (G.upper k) (G.u k) z >>= λ t. back G k (set z k t)

-- all of it
unfoldable pub solved : System → Out Result
unfolding forward back
solved S =
    forward S S.n 0 [] >>= λ rows.
    back (given S rows) S.n (replicate S.n nought) >>= λ z.
    ok (record { rows = rows; z = z })

-- ---- another right side
unfoldable pub sum_less : Check → Float → List (ℕ × Float) → List Float → Out Float
sum_less c s [] ys = ok s
sum_less c s (e ∷ es) ys = less c s e.1 (get_or ys e.0 nan) >>= λ s. sum_less c s es ys

unfoldable pub y_at : Factors → List Float → ℕ → Out Float
unfolding sum_less
y_at F ys k = sum_less (at k) (F.rhs k) (F.lower k) ys >>= λ s. at k (mul binary64 s (F.d k))

unfoldable pub again : Factors → ℕ → ℕ → List Float → Out (List Float)
unfolding y_at
again F zero k ys = ok ys
again F (suc f) k ys = y_at F ys k >>= λ y. again F f (suc k) (ys ++ (y ∷ []))

unfoldable pub solved_again : Factors → Out (List Float)
unfolding again back
solved_again F = again F F.n 0 [] >>= λ ys. back (given_by F ys) F.n (replicate F.n nought)
