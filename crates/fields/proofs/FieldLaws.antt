-- Loops that read values one after another, and that write them: one law for every kind of value.
use Rattle.std.proofs.Common.{◌≡◌, refl, ap, ◌∙◌, arith, List, map, ◌++◌, ℕ, ◌+◌, ◌*◌, ◌<◌, length, take, set}
use Rattle.std.proofs.lemmas.List.{length-map}
use native.Mathlib.Nat.{add-zero, mul-zero, mul-suc}
use Rattle.base.specs.Lists.{table}
use Rattle.base.specs.TableLaws.{table-stored, table-whole}
use Rattle.fields.specs.Numbers.{le, fields}
use Rattle.fields.specs.Payload.{payload, payloads, field_at}
use Rattle.fields.proofs.PutLaws.{Writing, write-end}

module _ {A : Type 0} (w : ℕ) (value : ℕ → A) (file : List ℕ) (at : ℕ) where
  -- i values are read, and the next stands at p
  pub record Values (out : List A) (p i : ℕ) : Type 0 where
    pub next : p ≡ at + w * i
    pub held : take i out ≡ table (λ k. value (field_at w file at k)) i

  pub values-start : (out : List A) → Values out at 0
  unfolding table
  values-start out = record { next = rw (mul-zero, add-zero); held = refl }

  pub values-more : (out : List A) (p i v v' n : ℕ) (x : A) → i < length out → v ≡ w → v' ≡ w → n ≡ le v (payload file) p → x ≡ value n
      → Values out p i → Values (set out i x) (p + v') (i + 1)
  values-more out p i v v' n x l f f' g h r =
      let e : x ≡ value (field_at w file at i) = h ∙ ap value (g ∙ rw (f, r.next)) in
      record {
        next = omega (arith, r.next, f', mul-suc w i);
        held = rw e (table-stored (λ k. value (field_at w file at k)) out i l r.held);
      }

  pub values-end : (out : List A) (p i n : ℕ) → length out ≡ n → i ≡ n → Values out p i
      → (p ≡ at + w * n) × (out ≡ table (λ k. value (field_at w file at k)) n)
  values-end out p i n l e r =
      (rw e at r.next, rw e at (table-whole (λ k. value (field_at w file at k)) out i (omega arith) r.held))

-- a list is written as the numbers ns
pub written-end : {A : Type 0} (w : ℕ) (number : A → ℕ) (file₀ : List ℕ) (at : ℕ) (src : List A) (ns file : List ℕ) (p i : ℕ) → i ≡ length src
    → ns ≡ map number src → Writing w file₀ at (map number src) file p i → (p ≡ at + w * length src) × (payloads file p ≡ payloads file₀ at ++ fields w ns)
written-end w number file₀ at src ns file p i e f r =
    let d = write-end w file₀ at (map number src) file p i (rw length-map e) r in (rw length-map at d.0, rw f d.1)
