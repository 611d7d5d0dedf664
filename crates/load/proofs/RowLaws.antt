-- The rows of the load: each has an entry, none more than four, and all columns are below n.
use Prim.Native.Nat.{ℕ, zero, suc, ◌+◌, ◌*◌, ◌<◌, ◌≤◌}
use mathlib.Core.Path.{◌≡◌, refl}
use mathlib.Core.List.{List, [], ◌∷◌, ◌++◌}
use native.Mathlib.Nat.{mod-lt}
use native.Mathlib.Decide.{dec_lt}
use native.Mathlib.Omega.{arith}
use lib.ListN.{length, get_or, length-append, get_or-append}
use lib.Seq.{get_or_at}
use Rattle.base.specs.Lists.{has, sum}
use Rattle.base.specs.Tests.{by-test}
use Rattle.load.specs.Load.{column_of, added, Drawing, draw, seed_at, row_at, entries_at}

-- what a row is at every draw
pub record Row (n : ℕ) (row : List ℕ) : Type 0 where
  pub some : 0 < length row
  pub below : (p : ℕ) → p < length row → get_or row p 0 < n

module _ (n : ℕ) (row : List ℕ) (j : ℕ) (R : Row n row) (l : j < n) where
  last-is : get_or (row ++ (j ∷ [])) (length row) 0 ≡ j
  last-is = get_or_at row j [] 0 (length row) refl

  front-is : (p : ℕ) → p < length row → get_or (row ++ (j ∷ [])) p 0 ≡ get_or row p 0
  front-is p h = get_or-append row (j ∷ []) 0 p h

  row-longer : Row n (row ++ (j ∷ []))
  row-longer = record {
    some = simp length-append (omega arith);
    below = λ p b. let c : p < length row + 1 = rw length-append at b in elim (dec_lt p (length row)) [
      | yes q ↦ rw (front-is p q) (R.below p q)
      | no q ↦ (let e : p ≡ length row = omega arith in rw (e, last-is) l)
    ];
  }

  row-added : Row n (added row j)
  unfolding added
  row-added = by-test (has row j) (λ t. rw t R) (λ t. rw t row-longer)

row-drawn : (n : ℕ) (d : Drawing) → 0 < n → Row n d.row → Row n (draw n d).row
unfolding column_of
row-drawn n d h R = row-added n d.row _ R (mod-lt _ {m = n} h)

pub row-at : (n s k : ℕ) → k < n → Row n (row_at n s k)
unfolding row_at
row-at n s k h =
    let z : 0 < n = omega arith in
    row-drawn n _ z (row-drawn n _ z (row-drawn n (record { row = k ∷ []; seed = seed_at n s k }) z (record {
      some = omega arith;
      below = elim [ zero ↦ λ l. h | suc p ↦ λ l. absurd (omega arith) ];
    })))

-- ---- no row has more than four entries

added-short : (row : List ℕ) (j m : ℕ) → length row ≤ m → length (added row j) ≤ m + 1
unfolding added
added-short row j m h = by-test (has row j) (λ t. rw t (omega arith)) (λ t. rw (t, length-append) (omega arith))

pub row-short : (n s k : ℕ) → length (row_at n s k) ≤ 4
unfolding row_at
row-short n s k = added-short _ _ 3 (added-short _ _ 2 (added-short (k ∷ []) _ 1 (omega arith)))

pub entries-most : (n s k : ℕ) → entries_at n s k ≤ 4 * k
unfolding entries_at sum
entries-most n s zero = omega arith
entries-most n s (suc k) = omega (arith, entries-most n s k, row-short n s k)
