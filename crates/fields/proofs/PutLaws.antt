-- Laws of bytes laid down one after another in the joined payloads.
use mathlib.Core.Path.{◌≡◌, ap}
use mathlib.Core.List.{List, [], ◌∷◌, ◌++◌, append-nil, append_assoc}
use Prim.Native.Nat.{ℕ, suc, ◌+◌, ◌-◌, ◌*◌, ◌/◌, ◌%◌, ◌<◌, ◌≤◌}
use native.Mathlib.Nat.{add-zero, mul-zero, mul-suc, mul-le-mul_left}
use native.Mathlib.Numerals.{add-one}
use native.Mathlib.Omega.{arith}
use lib.ListN.{length, get_or, take, set, replicate, replicate-append-replicate}
use lib.Seq.{get_or-set_same, get_or-set_other, take-length}
use Rattle.base.specs.Lists.{padded}
use Rattle.base.specs.TableLaws.{table_more, table-ext, length-table}
use Rattle.fields.specs.Numbers.{bytes, fields}
use Rattle.fields.specs.Payload.{place, room, payload, payloads}
use Rattle.fields.proofs.NumberLaws.{fields-more}

-- one byte more
put_byte : (file : List ℕ) (at v : ℕ) → at < room file → payloads (set file (place at) v) (at + 1) ≡ payloads file at ++ (v ∷ [])
put_byte file at v h =
    rw (table_more, get_or-set_same file (place at) v 0 (omega arith))
    (ap (λ (l : List ℕ). l ++ (v ∷ []))
    (table-ext (payload (set file (place at) v)) (payload file) at (λ j l. get_or-set_other file (place at) (place j) v 0 (omega arith))))

-- ---- a number, byte by byte: what is laid down as far as p, then what is left of it, up to the place `to`

pub put-more : (file : List ℕ) (to p rest : ℕ) → p < to → p < room file
    → payloads (set file (place p) (rest % 256)) (p + 1) ++ bytes (to - (p + 1)) (rest / 256) ≡ payloads file p ++ bytes (to - p) rest
unfolding bytes
put-more file to p rest h r =
    let e : to - p ≡ suc (to - (p + 1)) = omega arith in
    rw (e, put_byte file p (rest % 256) r, append_assoc)

pub put-end : (file : List ℕ) (to p rest : ℕ) → p ≡ to → payloads file to ≡ payloads file p ++ bytes (to - p) rest
unfolding bytes
put-end file to p rest h = let e : to - to ≡ 0 = omega arith in rw (h, e, append-nil)

-- ---- a list of numbers

-- one number of w bytes more has room where all have
pub room_for-one : (w i n : ℕ) → i < n → w * i + w ≤ w * n
room_for-one w i n h = let up : w * suc i ≤ w * n = mul-le-mul_left w h in omega (arith, rw mul-suc at up)

pub record Writing (w : ℕ) (file₀ : List ℕ) (at : ℕ) (xs file : List ℕ) (p i : ℕ) : Type 0 where
  pub next : p ≡ at + w * i
  pub laid : payloads file p ≡ payloads file₀ at ++ fields w (take i xs)

pub write-start : (w : ℕ) (file : List ℕ) (at : ℕ) (xs : List ℕ) → Writing w file at xs file at 0
unfolding fields
write-start w file at xs = record { next = rw (mul-zero, add-zero); laid = rw append-nil }

pub write-more : (w : ℕ) (file₀ : List ℕ) (at : ℕ) (xs file file' : List ℕ) (p p' i v x : ℕ) → i < length xs → v ≡ w → x ≡ get_or xs i 0
    → p' ≡ p + v → payloads file' p' ≡ payloads file p ++ bytes v x → Writing w file₀ at xs file p i → Writing w file₀ at xs file' p' (i + 1)
write-more w file₀ at xs file file' p p' i v x h f e n s r =
    record {
      next = rw (n, f, r.next, add-one, mul-suc) (omega arith);
      laid = rw (s, f, e, r.laid, fields-more w xs i h, append_assoc);
    }

pub write-end : (w : ℕ) (file₀ : List ℕ) (at : ℕ) (xs file : List ℕ) (p i : ℕ) → i ≡ length xs → Writing w file₀ at xs file p i
    → (p ≡ at + w * length xs) × (payloads file p ≡ payloads file₀ at ++ fields w xs)
write-end w file₀ at xs file p i e r = (rw e at r.next, rw take-length at (rw e at r.laid))

-- ---- zeros to the end

pub zero-start : (file : List ℕ) (from : ℕ) → payloads file from ≡ payloads file from ++ replicate (from - from) 0
zero-start file from = let e : from - from ≡ 0 = omega arith in rw (e, append-nil)

pub zero_more : (file₀ : List ℕ) (from : ℕ) (file file' : List ℕ) (p q : ℕ) → from ≤ p → q ≡ p + 1 → payloads file' q ≡ payloads file p ++ bytes 1 0
    → payloads file p ≡ payloads file₀ from ++ replicate (p - from) 0 → payloads file' (p + 1) ≡ payloads file₀ from ++ replicate (p + 1 - from) 0
unfolding bytes
zero_more file₀ from file file' p q l n e r =
    let d : q - from ≡ (p - from) + 1 = omega arith in
    rw (← n, e, r, d, append_assoc) (ap (λ (x : List ℕ). payloads file₀ from ++ x) (replicate-append-replicate (p - from) 1 0))

pub zero-end : (file₀ : List ℕ) (from : ℕ) (file : List ℕ) (p : ℕ) → p ≡ room file₀ → payloads file p ≡ payloads file₀ from ++ replicate (p - from) 0
    → payloads file (room file₀) ≡ padded 0 (room file₀) (payloads file₀ from)
unfolding padded
zero-end file₀ from file p e r = rw length-table (rw e at r)
