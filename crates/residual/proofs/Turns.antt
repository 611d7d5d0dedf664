-- The loop over the entries: what is left to go gives what the whole gives.
use mathlib.Core.Path.{◌≡◌, refl, sym, ap, ◌∙◌}
use mathlib.Core.List.{List, [], ◌∷◌}
use Prim.Native.Nat.{ℕ, ◌+◌, ◌≤◌, ◌<◌}
use native.Mathlib.Numerals.{add-one}
use native.Mathlib.Omega.{arith}
use lib.ListN.{length, get_or, drop, drop_of_length-le}
use lib.Seq.{drop-cons}
use lib.Ieee.{Float, nan, binary64, add, sub, mul}
use Rattle.base.specs.Lists.{pairs}
use Rattle.base.specs.Magnitude.{magnitude}
use Rattle.residual.specs.Residual.{residual_from, total_from, total_of}
use Rattle.residual.specs.Answer.{scores}
use Rattle.residual.specs.Lent.{RowLent}

pub record Going (j : List ℕ) (v x : List Float) (b r t : Float) (p : ℕ) : Type 0 where
  pub most : p ≤ length j
  pub residual : residual_from r (pairs (drop p v) (scores x (drop p j))) ≡ residual_from b (pairs v (scores x j))
  pub sum : total_from t (pairs (drop p v) (scores x (drop p j))) ≡ total_of b (pairs v (scores x j))

pub going_start : (j : List ℕ) (v x : List Float) (b t : Float) → t ≡ magnitude b → Going j v x b b t 0
going_start j v x b t e = record { most = omega arith; residual = refl; sum = rw e }

rest_more : (j : List ℕ) (v x : List Float) (p : ℕ) → length v ≡ length j → p < length j
    → pairs (drop p v) (scores x (drop p j)) ≡ (get_or v p nan, get_or x (get_or j p 0) nan) ∷ pairs (drop (p + 1) v) (scores x (drop (p + 1) j))
unfolding pairs scores
rest_more j v x p e h = rw (add-one p, drop-cons j p 0 h, drop-cons v p nan (omega arith))

pub going_more : (j : List ℕ) (v x : List Float) (b r t u : Float) (p c : ℕ) → RowLent j v x → Going j v x b r t p → p < length j → c ≡ get_or j p 0
    → u ≡ magnitude (mul binary64 (get_or v p nan) (get_or x c nan))
    → Going j v x b (sub binary64 r (mul binary64 (get_or v p nan) (get_or x c nan))) (add binary64 t u) (p + 1)
unfolding residual_from total_from
going_more j v x b r t u p c s g h k e =
    let m = rest_more j v x p s.same h in
    record { most = omega arith; residual = rw k (ap (residual_from r) (sym m) ∙ g.residual); sum = rw (e, k) (ap (total_from t) (sym m) ∙ g.sum) }

pub going_end : (j : List ℕ) (v x : List Float) (b r t : Float) (p : ℕ) → length v ≡ length j → length j ≤ p → Going j v x b r t p
    → (r ≡ residual_from b (pairs v (scores x j))) × (t ≡ total_of b (pairs v (scores x j)))
unfolding residual_from total_from pairs
going_end j v x b r t p e h g =
    let m : length v ≤ p = omega arith in
    let d : drop p v ≡ [] = drop_of_length-le v m in
    (rw d at g.residual, rw d at g.sum)

-- x is read at the columns
pub column-under : (j : List ℕ) (v x : List Float) (p c : ℕ) → RowLent j v x → p < length j → c ≡ get_or j p 0 → c < length x
column-under j v x p c s h e = rw e (s.under p h)
