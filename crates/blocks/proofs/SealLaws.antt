-- Laws of sealing: what three stores make of a block, and what they make of a file, block by block.
use mathlib.Core.Path.{◌≡◌, refl, sym, ◌∙◌}
use mathlib.Core.List.{List, ◌++◌, append_assoc}
use Prim.Native.Nat.{ℕ, zero, suc, ◌+◌, ◌*◌, ◌/◌, ◌<◌, ◌≤◌}
use native.Mathlib.Numerals.{add-one}
use native.Mathlib.Omega.{arith}
use lib.ListN.{length, get_or, take, drop, length-append, length-drop, take-append-drop, get_or-append}
use lib.Seq.{sets, sets-eq, take_at, drop_at, drop-drop, take-add, length-take-le}
use Rattle.base.specs.Lists.{joined}
use Rattle.fields.specs.Numbers.{bytes}
use Rattle.fields.proofs.NumberLaws.{length-bytes, get_or-after}
use Rattle.blocks.specs.Blocks.{byte_from, check_a, check_b, seal_block, payload_of, sealed}
use Rattle.blocks.proofs.CheckLaws.{checks-ext}

pub length-seal_block : (k : ℕ) (p : List ℕ) → length p ≡ 504 → length (seal_block k p) ≡ 512
unfolding seal_block
length-seal_block k p e = simp (length-append, length-bytes, e)

-- a number stored where what is done so far, x, ends
store-after : (x l l' : List ℕ) (from w v : ℕ) → length x ≡ from → from + w ≤ length l → l' ≡ x ++ drop from l
    → sets l' from (bytes w v) ≡ (x ++ bytes w v) ++ drop (from + w) l
store-after x l l' from w v ex h e =
    rw (
      e,
      sets-eq (bytes w v) (x ++ drop from l) from (simp (length-append, length-bytes, length-drop) (omega arith)),
      take_at x (drop from l) from ex,
      ← drop-drop (length (bytes w v)) from (x ++ drop from l),
      drop_at x (drop from l) from ex,
      length-bytes,
      drop-drop w from l,
      append_assoc,
    )

-- the three stores that seal block k
module _ (l : List ℕ) (k : ℕ) (h : 512 * k + 512 ≤ length l) where
  abbrev front : List ℕ
  front = take (512 * k) l

  abbrev body : List ℕ
  body = payload_of l k ++ bytes 4 k

  pub length-payload : length (payload_of l k) ≡ 504
  length-payload = length-take-le 504 (drop (512 * k) l) (simp length-drop (omega arith))

  length_front : length front ≡ 512 * k
  length_front = length-take-le (512 * k) l (omega arith)

  split : l ≡ (front ++ payload_of l k) ++ drop (512 * k + 504) l
  split = rw (← take-add (512 * k) 504 l) (sym (take-append-drop (512 * k + 504) l))

  -- the number in place
  numbered : (l₁ : List ℕ) → l₁ ≡ sets l (512 * k + 504) (bytes 4 k) → l₁ ≡ (front ++ body) ++ drop (512 * k + 508) l
  numbered l₁ e₁ =
      let e : 512 * k + 504 + 4 ≡ 512 * k + 508 = omega arith in
      e₁ ∙ rw (e, append_assoc front (payload_of l k) (bytes 4 k)) at (store-after (front ++ payload_of l k) l l (512 * k + 504) 4 k (simp (length-append, length-payload, length_front)) (omega arith) split)

  byte : (l₁ : List ℕ) → l₁ ≡ sets l (512 * k + 504) (bytes 4 k) → (i : ℕ) → i < 508 → byte_from l₁ (512 * k) i ≡ get_or body i 0
  byte l₁ e₁ i lt =
      rw (numbered l₁ e₁, append_assoc front body) (get_or-after front (body ++ drop (512 * k + 508) l) (512 * k) i length_front
      ∙ get_or-append body (drop (512 * k + 508) l) 0 i (simp (length-append, length-payload, length-bytes) lt))

  pub block-sealed : (l₁ l₂ l₃ : List ℕ) (a b : ℕ) → l₁ ≡ sets l (512 * k + 504) (bytes 4 k) → a ≡ check_a (byte_from l₁ (512 * k)) → b ≡ check_b (byte_from l₁ (512 * k))
      → l₂ ≡ sets l₁ (512 * k + 508) (bytes 2 a) → l₃ ≡ sets l₂ (512 * k + 510) (bytes 2 b)
      → l₃ ≡ front ++ (seal_block k (payload_of l k) ++ drop (512 * k + 512) l)
  unfolding seal_block
  block-sealed l₁ l₂ l₃ a b e₁ ea eb e₂ e₃ =
      let ext = checks-ext (byte_from l₁ (512 * k)) (λ i. get_or body i 0) (byte l₁ e₁) in
      let lb : length (front ++ body) ≡ 512 * k + 508 = simp (length-append, length-payload, length_front, length-bytes) (omega arith) in
      let n₂ : 512 * k + 508 + 2 ≡ 512 * k + 510 = omega arith in
      let n₃ : 512 * k + 510 + 2 ≡ 512 * k + 512 = omega arith in
      let f₂ : l₂ ≡ ((front ++ body) ++ bytes 2 a) ++ drop (512 * k + 510) l =
      e₂ ∙ rw n₂ at (store-after (front ++ body) l l₁ (512 * k + 508) 2 a lb (omega arith) (numbered l₁ e₁)) in
      let f₃ : l₃ ≡ (((front ++ body) ++ bytes 2 a) ++ bytes 2 b) ++ drop (512 * k + 512) l =
      e₃ ∙ rw n₃ at (store-after ((front ++ body) ++ bytes 2 a) l l₂ (512 * k + 510) 2 b (rw (length-append, lb, length-bytes) (omega arith)) (omega arith) f₂) in
      f₃ ∙ rw (ea ∙ ext.0, eb ∙ ext.1) (simp append_assoc)

-- ---- a file that is sealed block by block

abbrev pub sealed_at : List ℕ → ℕ → List ℕ
sealed_at l k = seal_block k (payload_of l k)

length-sealed : (l : List ℕ) (k : ℕ) → 512 * k ≤ length l → length (joined (sealed_at l) k) ≡ 512 * k
unfolding joined
length-sealed l zero h = refl
length-sealed l (suc k) h =
    simp (length-append, length-sealed l k (omega arith), length-seal_block k (payload_of l k) (length-payload l k (omega arith))) (omega arith)

-- k blocks are sealed
abbrev pub Sealing : List ℕ → List ℕ → ℕ → Type 0
Sealing l file k = file ≡ joined (sealed_at l) k ++ drop (512 * k) l

pub seal-start : (l : List ℕ) → Sealing l l 0
unfolding joined
seal-start l = refl

pub seal-more : (l file file' : List ℕ) (k : ℕ) → 512 * k + 512 ≤ length l
    → file' ≡ take (512 * k) file ++ (seal_block k (payload_of file k) ++ drop (512 * k + 512) file) → Sealing l file k → Sealing l file' (k + 1)
unfolding joined
seal-more l file file' k r e s =
    let fl : length (joined (sealed_at l) k) ≡ 512 * k = length-sealed l k (omega arith) in
    let t : take (512 * k) file ≡ joined (sealed_at l) k = rw s (take_at (joined (sealed_at l) k) (drop (512 * k) l) (512 * k) fl) in
    let d : drop (512 * k) file ≡ drop (512 * k) l = rw s (drop_at (joined (sealed_at l) k) (drop (512 * k) l) (512 * k) fl) in
    let d₂ : drop (512 * k + 512) file ≡ drop (512 * k + 512) l = rw (← drop-drop 512 (512 * k) file, d, drop-drop 512 (512 * k) l) in
    let m : 512 * (k + 1) ≡ 512 * k + 512 = omega arith in
    e ∙ rw (m, add-one, t, d, d₂, append_assoc)

pub seal-end : (l file : List ℕ) (k : ℕ) → k ≡ length l / 512 → Sealing l file k → file ≡ sealed l
unfolding sealed
seal-end l file k e s = rw e at s
