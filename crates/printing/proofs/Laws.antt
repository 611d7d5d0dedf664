-- Turns of the loop that writes digits, how many digits a number has, and a column.
use mathlib.Core.Path.{◌≡◌, refl, sym, ap, ◌∙◌}
use mathlib.Core.Bool.{cond}
use mathlib.Core.List.{List, [], ◌∷◌, ◌++◌}
use Prim.Native.Nat.{ℕ, zero, suc, max, ◌+◌, ◌-◌, ◌*◌, ◌/◌, ◌%◌, ◌^◌, ◌≤◌, ◌<◌}
use native.Mathlib.Nat.{pow-succ'}
use native.Mathlib.Numerals.{add-one}
use native.Mathlib.Omega.{arith}
use lib.ListN.{length, set, replicate, length-append, length-replicate}
use lib.Seq.{sets, set_comm}
use lib.Dec.{ltb}
use borrow.Author.Tests.{lt-ltb, le-ltb}
use Rattle.base.specs.Tests.{by-test}
use Rattle.printing.specs.Print.{digit, digits, hexadecimal, bits_end, width_in, decimal, column}
use Rattle.printing.specs.declared.Printer.{Printer}
use Rattle.printing.specs.Written.{sets-append}
use Rattle.printing.specs.Prints.{Prints, then-prints}

pub digits-length : (base w x : ℕ) → length (digits base w x) ≡ w
unfolding digits
digits-length base zero x = refl
digits-length base (suc w) x = length-append (digits base w (x / base)) (digit (x % base) ∷ []) ∙ ap (λ (m : ℕ). m + 1) (digits-length base w (x / base)) ∙ add-one w

pub bits-length : (bits : ℕ) → length (bits_end bits) ≡ 18
unfolding bits_end hexadecimal
bits-length bits = omega (arith, length-append ((32 ∷ []) ++ digits 16 16 bits) (10 ∷ []), length-append (32 ∷ []) (digits 16 16 bits), digits-length 16 16 bits)

-- a store behind a run of stores may be made first
sets_behind : (l : List ℕ) (i d : ℕ) (vs : List ℕ) → sets (set l (i + length vs) d) i vs ≡ set (sets l i vs) (i + length vs) d
sets_behind l i d [] = refl
sets_behind l i d (v ∷ vs) =
    let e : i + suc (length vs) ≡ suc i + length vs = omega arith in
    rw (e, set_comm l (suc i + length vs) i d v (λ q. omega arith)) (sets_behind (set l i v) (suc i) d vs)

digits-behind : (out : List ℕ) (at base x w l : ℕ) → l ≡ suc w → sets (set out (at + w) (digit (x % base))) at (digits base w (x / base)) ≡ sets out at (digits base l x)
unfolding digits
digits-behind out at base x w l e =
    let vs = digits base w (x / base) in
    let n = digits-length base w (x / base) in
    rw e (ap (λ (m : ℕ). sets (set out (at + m) (digit (x % base))) at vs) (sym n) ∙ sets_behind out at (digit (x % base)) vs ∙ sets-append out at vs (digit (x % base) ∷ []))

-- the last digit goes to its place before the others
pub digits-turn : (out : List ℕ) (at base left x : ℕ) → 0 < left
    → sets (set out (at + (left - 1)) (digit (x % base))) at (digits base (left - 1) (x / base)) ≡ sets out at (digits base left x)
digits-turn out at base left x h = digits-behind out at base x (left - 1) left (omega arith)

pub digits-none : (out : List ℕ) (at base x left : ℕ) → left ≤ 0 → out ≡ sets out at (digits base left x)
unfolding digits
digits-none out at base x left h = let e : left ≡ zero = omega arith in rw e

-- ---- the number of digits

width_in-suc : (f x : ℕ) → width_in (suc f) x ≡ cond (ltb x 10) 1 (suc (width_in f (x / 10)))
unfolding width_in
width_in-suc f x = refl

pub more_left : (rest f : ℕ) → 10 ≤ rest → rest < 10 ^ f → (g : ℕ) × (f ≡ suc g) × (0 < g) × (rest / 10 < 10 ^ g)
more_left rest zero h l = absurd (omega arith)
more_left rest (suc zero) h l = absurd (omega arith)
more_left rest (suc (suc g)) h l = (suc g, refl, omega arith, omega (arith, rw (pow-succ' 10 (suc g)) at l))

pub one_left : (rest f : ℕ) → rest < 10 → 0 < f → width_in f rest ≡ 1
one_left rest zero h l = absurd (omega arith)
one_left rest (suc f) h l = rw (width_in-suc f rest, lt-ltb rest 10 h)

-- a number from 10^k on, below ten times that, has k + 1 digits; 0 counts as 1
pub width-between : (f k x : ℕ) → k < f → 10 ^ k ≤ max x 1 → x < 10 * 10 ^ k → width_in f x ≡ k + 1
width-between zero k x l g h = absurd (omega arith)
width-between (suc f) zero x l g h = rw (width_in-suc f x, lt-ltb x 10 (omega (arith, h))) refl
width-between (suc f) (suc k) x l g h =
    let g' : 10 * 10 ^ k ≤ max x 1 = rw pow-succ' at g in
    let h' : x < 10 * (10 * 10 ^ k) = rw pow-succ' at h in
    let d = width-between f k (x / 10) (omega arith) (omega (arith, g', h')) (omega (arith, h')) in
    rw (width_in-suc f x, le-ltb x 10 (omega (arith, g', h'))) (omega (arith, d))

-- a number below 10^w has at most w digits
pub width-most : (f w x : ℕ) → 0 < w → x < 10 ^ w → width_in f x ≤ w
unfolding width_in
width-most zero w x s h = omega arith
width-most (suc f) zero x s h = absurd (omega arith)
width-most (suc f) (suc zero) x s h = rw (lt-ltb x 10 (omega (arith, h))) (omega arith)
width-most (suc f) (suc (suc g)) x s h =
    let d = width-most f (suc g) (x / 10) (omega arith) (omega (arith, rw (pow-succ' 10 (suc g)) at h)) in
    by-test (ltb x 10) (λ t. rw t (omega arith)) (λ t. rw t (omega (arith, d)))

-- ---- a column

decimal-length : (x : ℕ) → length (decimal x) ≡ width_in 20 x
unfolding decimal
decimal-length x = digits-length 10 (width_in 20 x) x

pub column-length : (w x : ℕ) → width_in 20 x ≤ w → length (column w x) ≡ w
unfolding column
column-length w x h =
    let a = length-append (replicate (w - length (decimal x)) 32) (decimal x) in
    let b = length-replicate {A = ℕ} (w - length (decimal x)) 32 in
    omega (arith, a, b, decimal-length x)

pub column-prints : (w x d : ℕ) {p q r : Printer} → d ≡ width_in 20 x → width_in 20 x ≤ w → Prints (replicate (w - d) 32) p q → Prints (digits 10 d x) q r
    → record { prints : Prints (column w x) p r; next : r.at ≡ p.at + w }
unfolding column decimal
column-prints w x d {p} {q} {r} e h f g =
    let c : Prints (column w x) p r = rw (digits-length 10 (width_in 20 x) x, ← e) (then-prints f g) in
    record { prints = c; next = c.written.next ∙ ap (λ (m : ℕ). p.at + m) (column-length w x h) }
