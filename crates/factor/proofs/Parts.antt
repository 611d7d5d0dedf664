-- A turn of the loop that copies a list, and the parts of what is lent.
use mathlib.Core.Path.{◌≡◌, ap}
use mathlib.Core.List.{List}
use Prim.Native.Nat.{ℕ, ◌+◌, ◌-◌, ◌<◌, ◌≤◌}
use native.Mathlib.Nat.{add_assoc, add-zero}
use native.Mathlib.Numerals.{add-one}
use native.Mathlib.Omega.{arith}
use lib.ListN.{length, get_or, take, drop, set, drop_of_length-le, length-drop}
use lib.Seq.{sets, drop-cons, length-take-le}
use lib.Ieee.{Float}
use Rattle.base.specs.declared.OwnNumber.{OwnNumber}
use Rattle.base.specs.declared.Place.{Place}
use Rattle.lent.specs.Reading.{ListIn, Below, own_at}
use Rattle.factor.specs.Factoring.{lower_in, LowerAt, Keepable}
use Rattle.base.specs.Scratch.{list_from}

module _ (l s : List ℕ) (at p : ℕ) where
  pub copy_start : sets s (at + 0) (drop 0 l) ≡ sets s at l
  copy_start = rw add-zero

  pub copy-turn : (v : ℕ) → v ≡ get_or l p 0 → p < length l → sets (set s (at + p) v) (at + (p + 1)) (drop (p + 1) l) ≡ sets s (at + p) (drop p l)
  copy-turn v e h = rw (e, ← add_assoc, add-one, add-one, drop-cons l p 0)

  pub copy-end : length l ≤ p → sets s (at + p) (drop p l) ≡ s
  copy-end h = rw (drop_of_length-le l h)

-- ---- own row r(k)

module _ (r : List ℕ) (k : Place) (row : OwnNumber) (e : row ≡ own_at r k) where
  pub own-list : (starts : List ℕ) (slots : ℕ) → ListIn starts starts slots (get_or r k.0 0) → ListIn starts starts slots row.0
  own-list starts slots h = rw e h

  pub own-right : (size : ℕ) → get_or r k.0 0 < size → row.0 < size
  own-right size h = rw e h

-- ---- a part by its length

pub part-from : {A : Type 0} (s : List A) (from m : ℕ) → take (from + m - from) (drop from s) ≡ take m (drop from s)
part-from s from m = let e : from + m - from ≡ m = omega arith in rw e

-- what keeping L by rows asks
pub keep-ready : (n k below : ℕ) (starts : List ℕ) (slots : ℕ) (work : List Float) (marks : List ℕ) (from : ℕ) (lower : List ℕ) → from ≡ get_or starts k 0 → lower ≡ lower_in n below marks
    → LowerAt n below (length marks) → Keepable n k below starts slots (length work) (lower_in n below marks) → (from + length lower ≤ slots) × Below (length (take n work)) lower
keep-ready n k below starts slots work marks from lower ef el A K = (
  omega (arith, K.room, ap length el, length-take-le below (drop (list_from n) marks) (simp length-drop (omega (arith, A.room)))),
  rw (el, length-take-le n work K.row) K.places,
)
