-- Laws of numbers as bytes: one for every width.
use mathlib.Core.Path.{◌≡◌, refl, sym, ap, ◌∙◌}
use mathlib.Core.List.{List, [], ◌∷◌, ◌++◌, append-nil, append_assoc}
use Prim.Native.Nat.{ℕ, zero, suc, ◌+◌, ◌-◌, ◌*◌, ◌/◌, ◌%◌, ◌^◌, ◌<◌, ◌≤◌}
use native.Mathlib.Nat.{add-zero, zero-add, mul-zero, mul-suc, pow-succ', pow-le-pow_right, not-suc-le-zero, le_of_suc-le-suc}
use native.Mathlib.Numerals.{add-one}
use native.Mathlib.Omega.{arith}
use lib.ListN.{length, get_or, take, length-append, get_or-append}
use lib.Seq.{get_or-append-add, take-suc, ext_get_or}
use Rattle.base.specs.Lists.{table}
use Rattle.base.specs.TableLaws.{length-table, get_or-table}
use Rattle.fields.specs.Numbers.{le, bytes, fields}

-- the list after x
pub get_or-after : (x y : List ℕ) (n i : ℕ) → length x ≡ n → get_or (x ++ y) (n + i) 0 ≡ get_or y i 0
get_or-after x y n i e = rw (← e) (get_or-append-add x y i 0)

-- ---- a number and its bytes

pub length-bytes : (w n : ℕ) → length (bytes w n) ≡ w
unfolding bytes
length-bytes zero n = refl
length-bytes (suc w) n = ap suc (length-bytes w (n / 256))

pub le-lt : (f : ℕ → ℕ) → ((i : ℕ) → f i < 256) → (w at : ℕ) → le w f at < 256 ^ w
unfolding le
le-lt f h zero at = omega arith
le-lt f h (suc w) at = rw pow-succ' (omega (arith, h at, le-lt f h w (at + 1)))

-- the number of a number's bytes
pub le_bytes : (w : ℕ) (f : ℕ → ℕ) (at x : ℕ) → ((i : ℕ) → i < w → f (at + i) ≡ get_or (bytes w x) i 0) → x < 256 ^ w → le w f at ≡ x
unfolding le bytes
le_bytes zero f at x h s = omega arith
le_bytes (suc w) f at x h s =
    let s' : x < 256 * 256 ^ w = rw pow-succ' at s in
    let z : f at ≡ x % 256 = rw add-zero at (h 0 (omega arith)) in
    let r : le w f (at + 1) ≡ x / 256 = le_bytes w f (at + 1) (x / 256) (λ i l. let e : at + 1 + i ≡ at + suc i = omega arith in rw e (h (suc i) (omega arith))) (omega arith) in
    rw (z, r) (omega arith)

-- the bytes of the number of some bytes
pub byte_le : (w : ℕ) (f : ℕ → ℕ) (at : ℕ) → ((i : ℕ) → f i < 256) → (i : ℕ) → i < w → get_or (bytes w (le w f at)) i 0 ≡ f (at + i)
unfolding bytes le
byte_le zero f at h i l = absurd (not-suc-le-zero l)
byte_le (suc w) f at h zero l = rw add-zero (omega (arith, h at))
byte_le (suc w) f at h (suc i) l =
    let e : (f at + 256 * le w f (at + 1)) / 256 ≡ le w f (at + 1) = omega (arith, h at) in
    let e2 : at + suc i ≡ at + 1 + i = omega arith in
    rw (e, e2) (byte_le w f (at + 1) h i (le_of_suc-le-suc l))

pub bytes_le : (w : ℕ) (f : ℕ → ℕ) (at : ℕ) → ((i : ℕ) → f i < 256) → bytes w (le w f at) ≡ table (λ i. f (at + i)) w
bytes_le w f at h =
    ext_get_or 0 (bytes w (le w f at)) (table (λ i. f (at + i)) w) (simp (length-bytes, length-table))
    (λ i l. byte_le w f at h i (rw length-bytes at l) ∙ sym (get_or-table (λ k. f (at + k)) w 0 i (rw length-bytes at l)))

-- ---- the bytes of a list of numbers

pub fields-append : (w : ℕ) (xs ys : List ℕ) → fields w (xs ++ ys) ≡ fields w xs ++ fields w ys
unfolding fields
fields-append w [] ys = refl
fields-append w (x ∷ xs) ys = rw (fields-append w xs ys, append_assoc)

pub fields-more : (w : ℕ) (xs : List ℕ) (i : ℕ) → i < length xs → fields w (take (i + 1) xs) ≡ fields w (take i xs) ++ bytes w (get_or xs i 0)
unfolding fields
fields-more w xs i h = rw (add-one, take-suc xs i 0 h, fields-append, append-nil)

pub length_fields : (w : ℕ) (xs : List ℕ) → length (fields w xs) ≡ w * length xs
unfolding fields
length_fields w [] = sym (mul-zero w)
length_fields w (x ∷ xs) = rw (length-append, length-bytes, length_fields w xs, mul-suc) (omega arith)

-- byte i of number k
pub get_or-fields : (w : ℕ) (xs : List ℕ) (k i : ℕ) → k < length xs → i < w → get_or (fields w xs) (w * k + i) 0 ≡ get_or (bytes w (get_or xs k 0)) i 0
unfolding fields
get_or-fields w [] k i a b = absurd (not-suc-le-zero a)
get_or-fields w (x ∷ xs) zero i a b = rw (mul-zero, zero-add) (get_or-append (bytes w x) (fields w xs) 0 i (rw length-bytes b))
get_or-fields w (x ∷ xs) (suc k) i a b =
    let e : w * suc k + i ≡ w + (w * k + i) = rw mul-suc (omega arith) in
    rw e (get_or-after (bytes w x) (fields w xs) w (w * k + i) (length-bytes w x) ∙ get_or-fields w xs k i (le_of_suc-le-suc a) b)

-- ---- a loop that reads a number from its last byte down: n is what the bytes from left on hold

pub record Reading (f : ℕ → ℕ) (w at left n : ℕ) : Type 0 where
  pub within : left ≤ w
  pub held : n ≡ le (w - left) f (at + left)
  pub small : n < 256 ^ (w - left)

pub read-start : (f : ℕ → ℕ) (w at : ℕ) → Reading f w at w 0
unfolding le
read-start f w at = let e : w - w ≡ 0 = omega arith in record { within = omega arith; held = rw e; small = rw e (omega arith) }

le_down : (f : ℕ → ℕ) (w left at : ℕ) → left < w → le (w - left) f (at + left) ≡ le (w - (left + 1)) f (at + (left + 1)) * 256 + f (at + left)
unfolding le
le_down f w left at h =
    let e : w - left ≡ suc (w - (left + 1)) = omega arith in
    let e2 : at + left + 1 ≡ at + (left + 1) = omega arith in
    rw (e, e2) (omega arith)

pub read_more : (f : ℕ → ℕ) (w at left n b : ℕ) → 0 < left → Reading f w at left n → b ≡ f (at + (left - 1)) → b < 256
    → Reading f w at (left - 1) (n * 256 + b)
read_more f w at left n b h r e l =
    let e1 : left - 1 + 1 ≡ left = omega arith in
    let e2 : w - (left - 1) ≡ suc (w - left) = omega arith in
    record {
      within = omega arith;
      held = rw (r.held, e) (sym (rw e1 at (le_down f w (left - 1) at (omega arith))));
      small = rw (e2, pow-succ') (omega arith);
    }

-- a byte more fits
pub read-room : (f : ℕ → ℕ) (w at left n : ℕ) → 0 < left → w ≤ 8 → Reading f w at left n → n * 256 + 255 < 2 ^ 64
read-room f w at left n h k r =
    let up : 256 ^ suc (w - left) ≤ 256 ^ 8 = pow-le-pow_right {n = 256} (omega arith) {i = suc (w - left)} {j = 8} (omega arith) in
    omega (arith, rw (pow-succ' 256 (w - left)) at up)

pub read-end : (f : ℕ → ℕ) (w at left n : ℕ) → left ≤ 0 → Reading f w at left n → (n ≡ le w f at) × (n < 256 ^ w)
read-end f w at left n h r =
    let e1 : w - left ≡ w = omega arith in
    let e2 : at + left ≡ at = omega arith in
    (rw (e1, e2) at r.held, rw e1 at r.small)
