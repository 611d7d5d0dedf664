-- Rows of factors are as long as their lists.
use Rattle.std.specs.Prelude.{◌≡◌, refl, List, ℕ, ◌<◌, length, get_or}
use Rattle.std.proofs.Common.{arith}
use Rattle.arithmetic.specs.Arith.{Out, ok, met, System, Row, none}
use Rattle.arithmetic.specs.Stopping.{◌>>=◌}

pub bind_ok : {A B : Type 0} (o : Out A) (f : A → Out B) (b : B) → (o >>= f) ≡ ok b → (a : A) × (o ≡ ok a) × (f a ≡ ok b)
bind_ok (ok a) f b e = (a, refl, e)
bind_ok (met q) f b e = absurd (let z : ◌≡◌ {A = ℕ} 0 1 = cc in omega arith)

-- L along lower row k, u along T(k)
pub record Long (S : System) (k : ℕ) (r : Row) : Type 0 where
  pub l : length r.l ≡ length (S.lower k)
  pub u : length r.u ≡ length (S.upper k)

-- the rows of places 0 to k - 1
abbrev pub LongTo : System → ℕ → List Row → Type 0
LongTo S k rows = (length rows ≡ k) × ((j : ℕ) → j < k → Long S j (get_or rows j none))
