-- The running sums of a block are the paper's sums; the turns of the loops that find and store numbers.
use mathlib.Core.Path.{◌≡◌, refl, sym, ap, ◌∙◌}
use mathlib.Core.Bool.{Bool, not, ◌&&◌}
use mathlib.Core.List.{List}
use Prim.Native.Nat.{ℕ, suc, ◌+◌, ◌-◌, ◌*◌, ◌/◌, ◌%◌, ◌<◌, ◌≤◌}
use native.Mathlib.Nat.{suc-mul, one-mul}
use native.Mathlib.Numerals.{add-one}
use native.Mathlib.Omega.{arith}
use lib.ListN.{length, get_or, set, take, drop, length-drop}
use Rattle.std.proofs.lemmas.List.{get_or-take, get_or-drop}
use lib.Seq.{sets, length-take-le}
use lib.Dec.{eqb}
use Rattle.base.specs.Lists.{sum}
use Rattle.base.specs.AscLaws.{sum-ext, sum-add}
use Rattle.fields.specs.Numbers.{le, bytes}
use Rattle.blocks.specs.Blocks.{byte_from, check_a, check_b, right_at, right_block, wrong_block}

-- the sum of the sums so far is the weighted sum
weigh : (f : ℕ → ℕ) (n : ℕ) → sum (suc n) (λ i. (suc n - i) * f i) ≡ sum n (λ i. (n - i) * f i) + sum (suc n) f
unfolding sum
weigh f n =
    let e : suc n - n ≡ 1 = omega arith in
    rw (e, one-mul, sum-ext n (λ i. (suc n - i) * f i) (λ i. (n - i) * f i + f i) (λ i l. let d : suc n - i ≡ suc (n - i) = omega arith in rw (d, suc-mul)), sum-add n (λ i. (n - i) * f i) f) (omega arith)

-- ---- the loop of the checks: a is the sum of i bytes, b the sum of the a's

pub record Running (f : ℕ → ℕ) (i a b : ℕ) : Type 0 where
  pub plain : a ≡ sum i f
  pub weighted : b ≡ sum i (λ j. (i - j) * f j)
  pub a_small : a ≤ 255 * i
  pub b-small : b ≤ 129540 * i

pub run-start : (f : ℕ → ℕ) → Running f 0 0 0
unfolding sum
run-start f = record { plain = refl; weighted = refl; a_small = omega arith; b-small = omega arith }

pub run_more : (f : ℕ → ℕ) (i a b x : ℕ) → i < 508 → x ≡ f i → x < 256 → Running f i a b → Running f (i + 1) (a + x) (b + (a + x))
unfolding sum
run_more f i a b x h e s r =
    let pa : a + x ≡ sum (suc i) f = rw (r.plain, e) in
    record {
      plain = rw add-one pa;
      weighted = rw (add-one, r.weighted, pa) (sym (weigh f i));
      a_small = omega (arith, r.a_small);
      b-small = omega (arith, r.a_small, r.b-small);
    }

pub run_end : (f : ℕ → ℕ) (i a b : ℕ) → i ≡ 508 → Running f i a b → (a % 65521 ≡ check_a f) × (b % 65521 ≡ check_b f)
unfolding check_a check_b
run_end f i a b e r =
    (ap (λ (k : ℕ). k % 65521) (rw e at r.plain), ap (λ (k : ℕ). k % 65521) (rw e at r.weighted))

-- the 508 bytes from `from` on, as a part of the file
pub length-summed : (file : List ℕ) (from : ℕ) → from + 508 ≤ length file → length (take (from + 508 - from) (drop from file)) ≡ 508
length-summed file from h =
    let e : from + 508 - from ≡ 508 = omega arith in
    rw e (length-take-le 508 (drop from file) (simp length-drop (omega arith)))

pub summed-byte : (file : List ℕ) (from i x : ℕ) → i < 508 → x ≡ get_or (take (from + 508 - from) (drop from file)) i 0 → x ≡ byte_from file from i
summed-byte file from i x h e = e ∙ (get_or-take (from + 508 - from) (drop from file) i 0 (omega arith) ∙ get_or-drop from file i 0)

-- only bytes 0 to 507 count
pub checks-ext : (f g : ℕ → ℕ) → ((i : ℕ) → i < 508 → f i ≡ g i) → (check_a f ≡ check_a g) × (check_b f ≡ check_b g)
unfolding check_a check_b
checks-ext f g h = (
  ap (λ (n : ℕ). n % 65521) (sum-ext 508 f g h),
  ap (λ (n : ℕ). n % 65521) (sum-ext 508 (λ i. (508 - i) * f i) (λ i. (508 - i) * g i) (λ i l. ap (λ (b : ℕ). (508 - i) * b) (h i l))),
)

pub check_a-lt : (f : ℕ → ℕ) → check_a f < 65521
unfolding check_a
check_a-lt f = omega arith

pub check_b-lt : (f : ℕ → ℕ) → check_b f < 65521
unfolding check_b
check_b-lt f = omega arith

-- ---- a loop that stores a number byte by byte, up to the place `to`

pub store-more : (file : List ℕ) (to p rest : ℕ) → p < to
    → sets (set file p (rest % 256)) (p + 1) (bytes (to - (p + 1)) (rest / 256)) ≡ sets file p (bytes (to - p) rest)
unfolding bytes
store-more file to p rest h = let e : to - p ≡ suc (to - (p + 1)) = omega arith in rw (e, add-one)

pub store-end : (file : List ℕ) (to p rest : ℕ) → to ≤ p → file ≡ sets file p (bytes (to - p) rest)
unfolding bytes
store-end file to p rest h = let e : to - p ≡ 0 = omega arith in rw e

-- ---- the tests of a block

pub right-from : (f : ℕ → ℕ) (k x y z a b : ℕ) → a ≡ check_a f → b ≡ check_b f → x ≡ le 4 f 504 → y ≡ le 2 f 508 → z ≡ le 2 f 510
    → (eqb x k && eqb y a && eqb z b) ≡ right_at f k
right-from f k x y z a b ea eb ex ey ez = rw (ea, eb, ex, ey, ez)

pub wrong-from : (file : List ℕ) (k : ℕ) (r : Bool) → r ≡ right_block file k → not r ≡ wrong_block file k
unfolding wrong_block
wrong-from file k r e = ap not e
