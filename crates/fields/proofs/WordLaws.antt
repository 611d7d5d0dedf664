-- Floats as words of 8 bytes: which come back, and parts by their numbers.
use mathlib.Core.Path.{◌≡◌, refl, sym, ap, ap₂, ◌∙◌}
use mathlib.Core.Bool.{true}
use mathlib.Core.List.{List, [], ◌∷◌, map}
use Prim.Native.Nat.{ℕ, zero, suc, ◌^◌, ◌<◌}
use native.Mathlib.Omega.{arith}
use native.Mathlib.Nat.{not-suc-le-zero}
use lib.Dec.{T}
use lib.ListN.{length, get_or, drop}
use lib.Ieee.{Float, binary64, of_bits, to_bits, nan_bits, fits}
use lib.Ieee.Bits.{of_bits-to_bits, to_bits-lt, to_bits-of_bits, nan_bits_is, of_bits-fits}
use Rattle.base.specs.Tests.{by-test}
use Rattle.fields.specs.Numbers.{Part}
use Rattle.fields.specs.Payload.{field_at, fields_at, floats_at, bits_of, quiet}
use Rattle.fields.proofs.FloatLaws.{nan-from, to_bits_nan}
use Rattle.fields.proofs.PartLaws.{length-fields_at, fields_fit}
use Rattle.fields.proofs.WindowLaws.{field-at}

-- every float of a list is a binary64 number, or the NaN
abbrev pub Binary64 : List Float → Type 0
Binary64 [] = Unit {0}
Binary64 (x ∷ xs) = T (fits binary64 x) × Binary64 xs

-- the numbers of a file are bytes
abbrev pub Bytes : List ℕ → Type 0
Bytes file = (i : ℕ) → get_or file i 0 < 256

-- every NaN among n words of 8 bytes from at on has the pattern that a NaN is written as
abbrev pub QuietAt : List ℕ → ℕ → ℕ → Type 0
QuietAt file at n = (k : ℕ) → k < n → nan_bits binary64 (field_at 8 file at k) ≡ true → field_at 8 file at k ≡ quiet

-- ---- floats and their bits

pub of-bits : (xs : List Float) → Binary64 xs → map (of_bits binary64) (bits_of xs) ≡ xs
of-bits [] a = refl
of-bits (x ∷ xs) a = rw (of_bits-to_bits binary64 x a.0, of-bits xs a.1)

pub bits_small : (xs : List Float) → Binary64 xs → (k : ℕ) → get_or (bits_of xs) k 0 < 256 ^ 8
bits_small [] a k = omega arith
bits_small (x ∷ xs) a zero = omega (arith, to_bits-lt binary64 x a.0)
bits_small (x ∷ xs) a (suc k) = bits_small xs a.1 k

pub floats-fit : (ws : List ℕ) → Binary64 (map (of_bits binary64) ws)
floats-fit [] = tt
floats-fit (w ∷ ws) = (of_bits-fits binary64 w, floats-fit ws)

-- a word comes back exactly if it is no NaN's or the quiet one
abbrev Exact : ℕ → Type 0
Exact w = to_bits binary64 (of_bits binary64 w) ≡ w

exact-from : (w : ℕ) → w < 256 ^ 8 → (nan_bits binary64 w ≡ true → w ≡ quiet) → Exact w
exact-from w l q =
    by-test (nan_bits binary64 w)
    (λ t. ap (to_bits binary64) (nan-from (of_bits binary64 w) (sym (nan_bits_is binary64 w) ∙ t)) ∙ (to_bits_nan ∙ sym (q t)))
    (λ f. to_bits-of_bits binary64 w (omega arith) (rw (sym (nan_bits_is binary64 w) ∙ f) tt))

quiet-from : (w : ℕ) → Exact w → nan_bits binary64 w ≡ true → w ≡ quiet
quiet-from w x t = sym x ∙ (ap (to_bits binary64) (nan-from (of_bits binary64 w) (sym (nan_bits_is binary64 w) ∙ t)) ∙ to_bits_nan)

-- the numbers of part k
unfoldable pub numbers_of : List Part → ℕ → List ℕ
numbers_of [] k = []
numbers_of (p ∷ ps) zero = p.numbers
numbers_of (p ∷ ps) (suc k) = numbers_of ps k

-- words that come back from floats, and when they do
exact-list : (ws : List ℕ) → ((k : ℕ) → k < length ws → Exact (get_or ws k 0)) → bits_of (map (of_bits binary64) ws) ≡ ws
exact-list [] h = refl
exact-list (w ∷ ws) h = ap₂ (λ (x : ℕ) (xs : List ℕ). x ∷ xs) (h 0 (omega arith)) (exact-list ws (λ k l. h (suc k) (omega arith)))

exact-each : (ws : List ℕ) → bits_of (map (of_bits binary64) ws) ≡ ws → (k : ℕ) → k < length ws → Exact (get_or ws k 0)
exact-each [] e k l = absurd (not-suc-le-zero l)
exact-each (w ∷ ws) e zero l = ap (λ (xs : List ℕ). get_or xs 0 0) e
exact-each (w ∷ ws) e (suc k) l = exact-each ws (ap (drop 1) e) k (omega arith)

module _ (file : List ℕ) (small : Bytes file) where
  pub quiet-words : (at c : ℕ) → QuietAt file at c → bits_of (floats_at file at c) ≡ fields_at 8 file at c
  unfolding floats_at
  quiet-words at c q = exact-list (fields_at 8 file at c) (λ k l.
      let l' : k < c = rw length-fields_at at l in
      exact-from (get_or (fields_at 8 file at c) k 0) (fields_fit file small 8 at c k l) (rw (field-at 8 file at c k l') (q k l')))

  pub words-quiet : (at c : ℕ) → bits_of (floats_at file at c) ≡ fields_at 8 file at c → QuietAt file at c
  unfolding floats_at
  words-quiet at c e k l t =
      rw (field-at 8 file at c k l) at (quiet-from (get_or (fields_at 8 file at c) k 0) (exact-each (fields_at 8 file at c) e k (rw length-fields_at l)) (rw (field-at 8 file at c k l) t))
