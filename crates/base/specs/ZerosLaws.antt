-- Laws of clearing: a loop that stores one value in every slot, and padded stores.
use Rattle.std.specs.Prelude.{◌≡◌, ℕ, zero, suc, ◌+◌, ◌-◌, ◌≤◌, ◌<◌, set, drop, replicate, get_or}
use Rattle.std.proofs.Math.Path.{refl}
use Rattle.std.proofs.Common.{◌∙◌, ap, not-suc-le-zero, le_of_suc-le-suc, add-one, drop_of_length-le}
use mathlib.Core.List.{List, [], ◌∷◌, ◌++◌, append-nil}
use Rattle.std.proofs.Math.Nat.{sub-zero, suc-sub-suc}
use native.Mathlib.Omega.{arith}
use Rattle.std.proofs.Math.ListN.{length, length-replicate, length-append, get_or-replicate}
use Rattle.base.specs.Lists.{blank, padded}

module _ {A : Type 0} (v : A) where
  -- the list after i stores of v from the front
  unfoldable pub filling : List A → ℕ → List A
  filling d i = replicate i v ++ drop i d

  pub filling-none : (d : List A) → d ≡ filling d 0
  unfolding filling
  filling-none d = refl

  fill_suc : (n : ℕ) (d : List A) → n < length d → set (replicate n v ++ drop n d) n v ≡ replicate (suc n) v ++ drop (suc n) d
  fill_suc n [] l = absurd (not-suc-le-zero l)
  fill_suc zero (x ∷ d) l = refl
  fill_suc (suc n) (x ∷ d) l = ap (λ (t : List A). v ∷ t) (fill_suc n d (le_of_suc-le-suc l))

  pub filling-more : (d s : List A) (i : ℕ) → i < length d → s ≡ filling d i → set s i v ≡ filling d (i + 1)
  unfolding filling
  filling-more d s i l e = rw (e, add-one) (fill_suc i d l)

  pub filling-all : (d s : List A) (i : ℕ) → length d ≤ i → i ≤ length d → s ≡ filling d i → s ≡ blank v d
  unfolding filling blank
  filling-all d s i l h e =
      let q : i ≡ length d = omega arith in
      e ∙ rw (drop_of_length-le d l, append-nil, q)

  pub drop-replicate : (m j : ℕ) → drop j (replicate m v) ≡ replicate (m - j) v
  drop-replicate m zero = rw sub-zero
  drop-replicate zero (suc j) = let e : 0 - suc j ≡ 0 = omega arith in rw e
  drop-replicate (suc m) (suc j) = rw suc-sub-suc (drop-replicate m j)

  pub blank-length : (d : List A) → length (blank v d) ≡ length d
  unfolding blank
  blank-length d = length-replicate (length d) v

  pub blank-at : (d : List A) (i : ℕ) (z : A) → i < length d → get_or (blank v d) i z ≡ v
  unfolding blank
  blank-at d i z l = get_or-replicate (length d) i v z l

  -- a store of the part's size or more is as long as before
  pub padded-length : (size : ℕ) (l : List A) → length l ≤ size → length (padded v size l) ≡ size
  unfolding padded
  padded-length size l h = omega (arith, length-append l (replicate (size - length l) v), length-replicate (size - length l) v)

  -- only the length counts
  pub blank-same : (d e : List A) → length d ≡ length e → blank v d ≡ blank v e
  unfolding blank
  blank-same d e h = rw h
