-- M' by the inverse order, x by the column order, and the listed operations as code does them.
use Rattle.std.specs.Prelude.{None}
use mathlib.Core.Path.{◌≡◌, refl, sym, ap, ap₂, ◌∙◌}
use mathlib.Core.Bool.{◌||◌}
use mathlib.Core.List.{List, [], ◌∷◌, map}
use Prim.Native.Nat.{ℕ, zero, suc, ◌+◌, ◌-◌, ◌<◌}
use native.Mathlib.Omega.{arith}
use native.Mathlib.Decide.{ℕ_discrete}
use lib.ListN.{length, get_or, take, drop, length-take, length-drop}
use lib.Seq.{get_or-take, get_or-drop}
use lib.Dec.{eqb}
use lib.Ieee.{Float, nan}
use borrow.Author.Tests.{eq-eqb, ne_eqb, leb-false}
use Rattle.base.specs.Lists.{list_at, has, row_of}
use Rattle.base.specs.First.{first}
use Rattle.base.specs.FirstLaws.{first-none}
use Rattle.base.specs.TableLaws.{get_or-table}
use Rattle.matrix.specs.Questions.{IsOrder, bad_column}
use Rattle.matrix.proofs.OrderLaws.{order_below, place_of, place-hits}
use Rattle.matrix.specs.Input.{ic, Input, stored, own_order}
use Rattle.arithmetic.specs.Stopping.{solved}
use Rattle.arithmetic.proofs.StoppingLaws.{solved-is}
use Rattle.outcome.specs.Solve.{system, listed}

-- the listed operations up to the first fault
pub listed-stops : (i : Input) → listed i ≡ solved (system i)
unfolding listed system
listed-stops i = solved-is (system i)

-- x(c(k)) = z(k)
pub x-at : (i : Input) (z : List Float) (k : ℕ) → IsOrder i.c i.n → k < i.n → get_or (own_order i.c i.n z) (get_or i.c k 0) nan ≡ get_or z k nan
unfolding own_order
x-at i z k o l =
    get_or-table (λ (j : ℕ). get_or z (ic i.c i.n j) nan) i.n nan (get_or i.c k 0) (order_below i.c i.n o k l)
    ∙ ap (λ (m : ℕ). get_or z m nan) (place_of i.c i.n o k l)

has-map : (f : ℕ → ℕ) (q p : ℕ) (xs : List ℕ) → f q ≡ p → ((t : ℕ) → t < length xs → f (get_or xs t 0) ≡ p → get_or xs t 0 ≡ q) → has (map f xs) p ≡ has xs q
unfolding has
has-map f q p [] e h = refl
has-map f q p (x ∷ xs) e h = ap₂ (λ a b. a || b) (at (ℕ_discrete x q)) (has-map f q p xs e (λ t k. h (suc t) (omega arith)))
  where
    at : Dec (x ≡ q) → eqb (f x) p ≡ eqb x q
    at (yes u) = eq-eqb (f x) p (ap f u ∙ e) ∙ sym (eq-eqb x q u)
    at (no u) = ne_eqb (f x) p (λ v. u (h zero (omega arith) v)) ∙ sym (ne_eqb x q u)

row_below : (n a : ℕ) (s j : List ℕ) → first (bad_column j n) (length j) ≡ None → (t : ℕ) → t < length (row_of s j a) → get_or (row_of s j a) t 0 < n
unfolding list_at bad_column
row_below n a s j h t l =
    let b : t < length (take (get_or s (a + 1) 0 - get_or s a 0) (drop (get_or s a 0) j)) = l in
    let c = rw (length-take, length-drop) at b in
    rw (get_or-take (get_or s (a + 1) 0 - get_or s a 0) (drop (get_or s a 0) j) t 0 (omega arith), get_or-drop) (leb-false n (get_or j (get_or s a 0 + t) 0) (first-none (bad_column j n) (length j) h (get_or s a 0 + t) (omega arith)))

-- M' has (k, p) exactly where M has (r(k), c(p))
pub stored_is : (i : Input) (k p : ℕ) → IsOrder i.c i.n → first (bad_column i.columns i.n) (length i.columns) ≡ None → p < i.n
    → stored i k p ≡ has (row_of i.starts i.columns (get_or i.r k 0)) (get_or i.c p 0)
unfolding stored
stored_is i k p o h l =
    has-map (ic i.c i.n) (get_or i.c p 0) p (row_of i.starts i.columns (get_or i.r k 0)) (place_of i.c i.n o p l)
    (λ t b e.
    let u = row_below i.n (get_or i.r k 0) i.starts i.columns h t b in
    sym (place-hits i.c i.n o (get_or (row_of i.starts i.columns (get_or i.r k 0)) t 0) u).1 ∙ ap (λ (m : ℕ). get_or i.c m 0) e)
