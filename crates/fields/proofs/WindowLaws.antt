-- Numbers of a file where they stand: one of them, the first and the rest, and a part of a list of them.
use mathlib.Core.Path.{◌≡◌, refl, sym, ap, ap₂, ◌∙◌}
use mathlib.Core.List.{List, [], ◌∷◌, ◌++◌, map}
use Prim.Native.Nat.{ℕ, ◌+◌, ◌-◌, ◌*◌, ◌<◌, ◌≤◌}
use native.Mathlib.Nat.{add-zero, mul-zero, mul-add}
use native.Mathlib.Omega.{arith}
use lib.ListN.{length, get_or, take, drop, length-map}
use lib.Seq.{take_at, drop_at}
use lib.Ieee.{Float, binary64, of_bits}
use Rattle.base.specs.Lists.{table}
use Rattle.base.specs.TableLaws.{length-table, get_or-table, table-ext, table-add}
use Rattle.fields.specs.Numbers.{le}
use Rattle.fields.specs.Payload.{payload, field_at, fields_at, floats_at}
use Rattle.fields.specs.PayloadLaws.{floats-each}
use Rattle.fields.proofs.PartLaws.{length-fields_at}

-- ---- tables

module _ {A : Type 0} where
  -- a part of a table
  table-part : (f : ℕ → A) (lo m n : ℕ) → lo + m ≤ n → take m (drop lo (table f n)) ≡ table (λ i. f (lo + i)) m
  table-part f lo m n h =
      let e : n ≡ lo + (m + (n - lo - m)) = omega arith in
      let s : table f n ≡ table f lo ++ (table (λ i. f (lo + i)) m ++ table (λ i. f (lo + (m + i))) (n - lo - m)) =
      ap (table f) e ∙ (table-add f lo (m + (n - lo - m)) ∙ ap (λ (l : List A). table f lo ++ l) (table-add (λ i. f (lo + i)) m (n - lo - m))) in
      ap (λ (l : List A). take m (drop lo l)) s
      ∙ (ap (take m) (drop_at (table f lo) _ lo (length-table f lo)) ∙ take_at (table (λ i. f (lo + i)) m) _ m (length-table _ m))

  table-first : (f : ℕ → A) (n : ℕ) → 0 < n → table f n ≡ f 0 ∷ table (λ i. f (1 + i)) (n - 1)
  unfolding table
  table-first f n h = let e : n ≡ 1 + (n - 1) = omega arith in ap (table f) e ∙ table-add f 1 (n - 1)

-- ---- numbers

module _ (w : ℕ) (file : List ℕ) where
  pub field-at : (at n k : ℕ) → k < n → get_or (fields_at w file at n) k 0 ≡ le w (payload file) (at + w * k)
  unfolding fields_at
  field-at at n k l = get_or-table (field_at w file at) n 0 k l

  -- the numbers from lo on
  pub fields-part : (at lo m n : ℕ) → lo + m ≤ n → take m (drop lo (fields_at w file at n)) ≡ fields_at w file (at + w * lo) m
  unfolding fields_at
  fields-part at lo m n h =
      table-part (field_at w file at) lo m n h
      ∙ table-ext (λ i. field_at w file at (lo + i)) (field_at w file (at + w * lo)) m (λ i l. ap (le w (payload file)) (rw mul-add (omega arith)))

  pub fields-none : (at : ℕ) → fields_at w file at 0 ≡ []
  unfolding fields_at table
  fields-none at = refl

  pub fields-first : (at n : ℕ) → 0 < n → fields_at w file at n ≡ le w (payload file) at ∷ fields_at w file (at + w) (n - 1)
  unfolding fields_at
  fields-first at n h =
      table-first (field_at w file at) n h
      ∙ ap₂ (λ (x : ℕ) (l : List ℕ). x ∷ l) (ap (le w (payload file)) (rw (mul-zero, add-zero)))
      (table-ext (λ i. field_at w file at (1 + i)) (field_at w file (at + w)) (n - 1) (λ i l. ap (le w (payload file)) (rw mul-add (omega arith))))

-- ---- floats

module _ (file : List ℕ) where
  pub length-floats_at : (at n : ℕ) → length (floats_at file at n) ≡ n
  unfolding floats_at
  length-floats_at at n = rw (length-map, length-fields_at)

  float_at : ℕ → ℕ → Float
  float_at at k = of_bits binary64 (field_at 8 file at k)

  floats-table : (at n : ℕ) → floats_at file at n ≡ table (float_at at) n
  unfolding float_at
  floats-table at n = floats-each file at n

  pub float-at : (at n k : ℕ) (z : Float) → k < n → get_or (floats_at file at n) k z ≡ of_bits binary64 (le 8 (payload file) (at + 8 * k))
  unfolding float_at
  float-at at n k z l = ap (λ (xs : List Float). get_or xs k z) (floats-table at n) ∙ get_or-table (float_at at) n z k l

  pub floats-part : (at lo m n : ℕ) → lo + m ≤ n → take m (drop lo (floats_at file at n)) ≡ floats_at file (at + 8 * lo) m
  unfolding float_at
  floats-part at lo m n h =
      ap (λ (xs : List Float). take m (drop lo xs)) (floats-table at n)
      ∙ (table-part (float_at at) lo m n h
      ∙ (table-ext (λ i. float_at at (lo + i)) (float_at (at + 8 * lo)) m (λ i l. ap (λ (p : ℕ). of_bits binary64 (le 8 (payload file) p)) (omega arith)) ∙ sym (floats-table (at + 8 * lo) m)))

  pub floats-none : (at : ℕ) → floats_at file at 0 ≡ []
  unfolding floats_at fields_at table
  floats-none at = refl

  pub floats-first : (at n : ℕ) → 0 < n → floats_at file at n ≡ of_bits binary64 (le 8 (payload file) at) ∷ floats_at file (at + 8) (n - 1)
  unfolding floats_at
  floats-first at n h = ap (map (of_bits binary64)) (fields-first 8 file at n h)
