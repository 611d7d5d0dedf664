-- Rounding to p binary digits, over natural numbers alone. A number is given in fine units, L of them to a coarse one, and rounded to a number of
-- coarse units with at most p leading digits: to the nearest, at a tie to the even one, as `round` of the floats does.
use mathlib.Core.Path.{◌≡◌, sym, ap, ◌∙◌, subst}
use mathlib.Core.Logic.{◌⊎◌, inl, inr, ⊎_elim}
use mathlib.Core.Bool.{not}
use Prim.Native.Nat.{ℕ, zero, suc, ◌+◌, ◌-◌, ◌*◌, ◌/◌, ◌%◌, ◌^◌, ◌≤◌, ◌<◌, zero-le, compare, Ordering}
use native.Mathlib.Nat.{le_trans, le_of_eq, lt_of_le_of_lt, eq-or-lt_of_le, mul-one, mul_comm, mul_assoc, mul_right_comm, add-mul, mul-pos, mul-le-mul_right, mul-le-mul_left, le_of_mul-le-mul_right, mod-lt, div-add-mod', div-div-eq-div-mul, le-div_iff_mul-le, mul-div_cancel}
use native.Mathlib.Omega.{arith}
use lib.Dec.{T, is_le, compare_is_eq, leb→le, nleb→lt, eqb→eq}
use lib.Pow.{pow-add, pow_pos, pow_mono, shl_lt}
use lib.Ieee.{size, nearest}
use lib.Ieee.Digits.{size-lt, size-le, size_reaches, back}
use lib.Ieee.Fits.{nearest-le, kept-lt}
use lib.Ieee.Nearest.{closest, closest_mono, closest_same, nearest-ge, div_mono, div_same}
use lib.Ieee.Order.{drop, kept}

-- w fine units, in coarse units of p digits
unfoldable pub rounded : ℕ → ℕ → ℕ → ℕ
rounded p L w = kept p w L * 2 ^ drop p w L

-- a and b are at most d apart
abbrev pub Apart : ℕ → ℕ → ℕ → Type 0
Apart a b d = (a ≤ b + d) × (b ≤ a + d)

widen : (a b d e : ℕ) → d ≤ e → Apart a b d → Apart a b e
widen a b d e h u = (omega (arith, u.0), omega (arith, u.1))

-- q times b is within half of b from a
abbrev Half : ℕ → ℕ → ℕ → Type 0
Half a b q = Apart (q * b * 2) (a * 2) b

-- G coarse units are within the M-th part of themselves from w fine ones
abbrev Part : ℕ → ℕ → ℕ → ℕ → Type 0
Part M L w G = Apart (G * L * M) (w * M) (G * L)

-- ---- the nearest whole number

near_by : (q r a b : ℕ) (o : Ordering) → q * b + r ≡ a → r < b → (T (is_le o) → r * 2 ≤ b) → (T (not (is_le o)) → b < r * 2) → (T (compare_is_eq o) → r * 2 ≡ b)
    → Half a b (nearest q o)
near_by q r a b Ordering.lt e l h k t = let z : r * 2 ≤ b = h tt in omega arith
near_by q r a b Ordering.eq e l h k t =
    let z : r * 2 ≡ b = t tt in
    let s : (q + q % 2) * b ≡ q * b + q % 2 * b = add-mul q (q % 2) b in
    let u : q % 2 * b ≤ 1 * b = mul-le-mul_right b (omega arith) in
    omega arith
near_by q r a b Ordering.gt e l h k t =
    let z : b < r * 2 = k tt in
    let s : suc q * b ≡ q * b + b = native.Mathlib.Nat.suc-mul q b in
    omega arith

closest-near : (a b : ℕ) → 0 < b → Half a b (closest a b)
closest-near a b p =
    near_by (a / b) (a % b) a b (compare (a % b * 2) b) (div-add-mod' a b) (mod-lt a p) (leb→le (a % b * 2) b) (nleb→lt (a % b * 2) b) (eqb→eq (a % b * 2) b)

-- a whole number of b's is met
half-whole : (m b q : ℕ) → 0 < b → Half (m * b) b q → q ≡ m
half-whole m b q p h = both (below q m h.0) (below m q h.1)
  where
    below : (x y : ℕ) → x * b * 2 ≤ y * b * 2 + b → x ≤ y
    below x y u =
        let v : x * 2 ≤ y * 2 + 1 = le_of_mul-le-mul_right {k = b} (omega (arith, mul_right_comm x 2 b, add-mul (y * 2) 1 b, mul_right_comm y 2 b)) p in
        omega arith

    both : q ≤ m → m ≤ q → q ≡ m
    both x y = omega arith

-- ---- the kept number has p digits, where any is dropped

kept_top : (p w L : ℕ) → kept p w L ≤ 2 ^ p
kept_top p w L =
    let k = drop p w L in
    le_trans (nearest-le (w / (L * 2 ^ k)) (compare (w % (L * 2 ^ k) * 2) (L * 2 ^ k)))
    (subst (λ (x : ℕ). x < 2 ^ p) (div-div-eq-div-mul w L (2 ^ k)) (kept-lt p (w / L)))

reach : (z p : ℕ) → 0 < p → 0 < z - p → p - 1 + (z - p) < z
reach z p P h = omega arith

kept_low : (p w L : ℕ) → 0 < p → 0 < drop p w L → 2 ^ (p - 1) ≤ kept p w L
kept_low p w L P D =
    let k = drop p w L in
    let a : 2 ^ (p - 1) * 2 ^ k ≤ w / L = rw (← pow-add 2 (p - 1) k) (size_reaches (w / L) (p - 1 + k) (reach (size (w / L)) p P D)) in
    let b : 2 ^ (p - 1) ≤ w / L / 2 ^ k = (le-div_iff_mul-le (pow_pos k)).1 a in
    le_trans (rw div-div-eq-div-mul at b) (nearest-ge (w / (L * 2 ^ k)) (compare (w % (L * 2 ^ k) * 2) (L * 2 ^ k)))

-- ---- how far the rounded number is

-- multiplied by N
times-one : (a b d N : ℕ) → a * 2 ≤ b * 2 + d → a * (N * 2) ≤ b * (N * 2) + d * N
times-one a b d N h =
    let z : a * 2 * N ≤ (b * 2 + d) * N = mul-le-mul_right N h in
    let s : (b * 2 + d) * N ≡ b * 2 * N + d * N = add-mul (b * 2) d N in
    omega (arith, mul_right_comm a 2 N, mul_right_comm b 2 N, mul_assoc a N 2, mul_assoc b N 2)

times : (a b d N : ℕ) → Apart (a * 2) (b * 2) d → Apart (a * (N * 2)) (b * (N * 2)) (d * N)
times a b d N u = (times-one a b d N u.0, times-one b a d N u.1)

-- K * J coarse units, with K at least N: half of J fine steps is at most a part of the whole
part-of-half : (N K J L w : ℕ) → N ≤ K → Half w (L * J) K → Part (N * 2) L w (K * J)
part-of-half N K J L w h u =
    let q : K * (L * J) ≡ K * J * L = rw (mul_comm L J, mul_assoc) in
    widen _ _ _ _ (le_trans (mul-le-mul_left (L * J) h) (le_of_eq (mul_comm (L * J) K ∙ q))) (times (K * J * L) w (L * J) N (rw q at u))

double : (p : ℕ) → 0 < p → 2 ^ (p - 1) * 2 ≡ 2 ^ p
double p h = sym (native.Mathlib.Nat.pow-suc 2 (p - 1)) ∙ ap (λ (x : ℕ). 2 ^ x) (omega arith)

-- the rounded number is a whole number of coarse units within half a unit, or within the 2 ^ p-th part of itself
pub Near : ℕ → ℕ → ℕ → ℕ → Type 0
Near p L w G = Half w L G ⊎ Part (2 ^ p) L w G

near-at : (p L w k : ℕ) → 0 < p → 0 < L → (0 < k → 2 ^ (p - 1) ≤ closest w (L * 2 ^ k)) → Near p L w (closest w (L * 2 ^ k) * 2 ^ k)
unfolding Near
near-at p L w zero P l h = inl (rw (mul-one, mul-one) (closest-near w L l))
near-at p L w (suc k) P l h =
    inr (rw (← double p P) (part-of-half (2 ^ (p - 1)) (closest w (L * 2 ^ suc k)) (2 ^ suc k) L w (h (omega arith)) (closest-near w (L * 2 ^ suc k) (mul-pos l (pow_pos (suc k))))))

pub rounded-near : (p L w : ℕ) → 0 < p → 0 < L → Near p L w (rounded p L w)
unfolding rounded
rounded-near p L w P l = near-at p L w (drop p w L) P l (kept_low p w L P)

-- ---- order

size_mono : (a b : ℕ) → a ≤ b → size a ≤ size b
size_mono a b h = size-le a (size b) (lt_of_le_of_lt h (size-lt b))

drop-mono : (p L w v : ℕ) → 0 < L → w ≤ v → drop p w L ≤ drop p v L
drop-mono p L w v l h = let s : size (w / L) ≤ size (v / L) = size_mono (w / L) (v / L) (div_mono w L v L l l (mul-le-mul_right L h)) in omega arith

pub rounded-mono : (p L w v : ℕ) → 0 < p → 0 < L → w ≤ v → rounded p L w ≤ rounded p L v
unfolding rounded
rounded-mono p L w v P l h = ⊎_elim same other (eq-or-lt_of_le (drop-mono p L w v l h))
  where
    j : ℕ
    j = drop p w L

    k : ℕ
    k = drop p v L

    same : j ≡ k → kept p w L * 2 ^ j ≤ kept p v L * 2 ^ k
    same e = rw e (mul-le-mul_right (2 ^ k) (closest_mono w (L * 2 ^ k) v (L * 2 ^ k) (mul-pos l (pow_pos k)) (mul-pos l (pow_pos k)) (mul-le-mul_right (L * 2 ^ k) h)))

    -- a power of two stands between
    other : j < k → kept p w L * 2 ^ j ≤ kept p v L * 2 ^ k
    other e =
        le_trans (mul-le-mul_right (2 ^ j) (kept_top p w L))
        (le_trans (le_of_eq (sym (pow-add 2 p j)))
        (le_trans (pow_mono (omega arith))
        (le_trans (le_of_eq (pow-add 2 (p - 1) k)) (mul-le-mul_right (2 ^ k) (kept_low p v L P (lt_of_le_of_lt zero-le e))))))

-- ---- no change: of a number of p digits, moved up by j places

spare : (z p j : ℕ) → z ≤ p + j → z - p ≤ j
spare z p j h = omega arith

pub rounded-exact : (p L a j : ℕ) → 0 < L → a < 2 ^ p → rounded p L (a * 2 ^ j * L) ≡ a * 2 ^ j
unfolding rounded
rounded-exact p L a j l h =
    let w = a * 2 ^ j * L in
    let k = drop p w L in
    let small : w / L < 2 ^ (p + j) = rw (mul-div_cancel (a * 2 ^ j) l) (shl_lt p j h) in
    let le : k ≤ j = spare (size (w / L)) p j (size-le (w / L) (p + j) small) in
    let m = a * 2 ^ (j - k) in
    let up : m * 2 ^ k ≡ a * 2 ^ j = mul_assoc a (2 ^ (j - k)) (2 ^ k) ∙ ap (λ (x : ℕ). a * x) (sym (pow-add 2 (j - k) k) ∙ ap (λ (x : ℕ). 2 ^ x) (back j k le)) in
    let e : m * (L * 2 ^ k) ≡ w = rw (mul_comm L (2 ^ k), ← mul_assoc, up) in
    let D : 0 < L * 2 ^ k = mul-pos l (pow_pos k) in
    let is : closest w (L * 2 ^ k) ≡ m = half-whole m (L * 2 ^ k) (closest w (L * 2 ^ k)) D (rw e (closest-near w (L * 2 ^ k) D)) in
    ap (λ (x : ℕ). x * 2 ^ k) is ∙ up

-- ---- a number of coarse units: within the 2 ^ p-th part of the rounded one, with no unit to spare

pub whole-near : (p L z : ℕ) → 0 < p → 0 < L → Apart (rounded p L (z * L) * 2 ^ p) (z * 2 ^ p) (rounded p L (z * L))
unfolding Near
whole-near p L z P l = ⊎_elim met part (rounded-near p L (z * L) P l)
  where
    G : ℕ
    G = rounded p L (z * L)

    met : Half (z * L) L G → Apart (G * 2 ^ p) (z * 2 ^ p) G
    met h = let e : G ≡ z = half-whole z L G l h in rw e (omega arith)

    cancel : (x y : ℕ) → x * L * 2 ^ p ≤ y * L * 2 ^ p + G * L → x * 2 ^ p ≤ y * 2 ^ p + G
    cancel x y h = le_of_mul-le-mul_right {k = L} (omega (arith, mul_right_comm x (2 ^ p) L, add-mul (y * 2 ^ p) G L, mul_right_comm y (2 ^ p) L)) l

    part : Part (2 ^ p) L (z * L) G → Apart (G * 2 ^ p) (z * 2 ^ p) G
    part h = (cancel G z h.0, cancel z G h.1)

-- any number: within that part and half a unit
pub fine-near : (p L w : ℕ) → 0 < p → 0 < L → Apart (rounded p L w * L * (2 ^ p * 2)) (w * (2 ^ p * 2)) (rounded p L w * L * 2 + L * 2 ^ p)
unfolding Near
fine-near p L w P l = ⊎_elim met part (rounded-near p L w P l)
  where
    G : ℕ
    G = rounded p L w

    met : Half w L G → Apart (G * L * (2 ^ p * 2)) (w * (2 ^ p * 2)) (G * L * 2 + L * 2 ^ p)
    met h = widen _ _ _ _ (omega arith) (times (G * L) w L (2 ^ p) h)

    part : Part (2 ^ p) L w G → Apart (G * L * (2 ^ p * 2)) (w * (2 ^ p * 2)) (G * L * 2 + L * 2 ^ p)
    part h =
        let x = h.0 in
        let y = h.1 in
        let a : G * L * (2 ^ p * 2) ≡ G * L * 2 ^ p * 2 = sym (mul_assoc (G * L) (2 ^ p) 2) in
        let b : w * (2 ^ p * 2) ≡ w * 2 ^ p * 2 = sym (mul_assoc w (2 ^ p) 2) in
        (omega arith, omega arith)

-- ---- one fraction in two ways: n / c is w / L
pub rounded-same : (p n c w L : ℕ) → 0 < c → 0 < L → n * L ≡ w * c → kept p n c * 2 ^ drop p n c ≡ rounded p L w
unfolding rounded
rounded-same p n c w L C l e =
    let k = drop p w L in
    let d : drop p n c ≡ k = ap (λ (z : ℕ). size z - p) (div_same n c w L C l e) in
    ap (λ (z : ℕ). closest n (c * 2 ^ z) * 2 ^ z) d
    ∙ ap (λ (z : ℕ). z * 2 ^ k) (closest_same n (c * 2 ^ k) w (L * 2 ^ k) (mul-pos C (pow_pos k)) (mul-pos l (pow_pos k)) (sym (mul_assoc n L (2 ^ k)) ∙ ap (λ (z : ℕ). z * 2 ^ k) e ∙ mul_assoc w c (2 ^ k)))
