-- What the functions require, and what the row's contract supposes, can be met: the paper's 2 by 2 example.
use mathlib.Core.Path.{◌≡◌, refl, sym}
use mathlib.Core.Bool.{true, false, true≢false}
use mathlib.Core.Logic.{⊎_elim}
use mathlib.Core.List.{List, [], ◌∷◌}
use Prim.Native.Nat.{ℕ, zero, suc, ◌<◌}
use native.Mathlib.Nat.{not-suc-le-zero, le_of_suc-le-suc}
use native.Mathlib.Omega.{arith}
use lib.Dec.{lit<, lit≤, eqb}
use lib.ListN.{replicate}
use lib.Ieee.{Float, binary64, of_bits}
use borrow.Author.Tests.{eqb-true}
use Rattle.base.specs.Lists.{list_at, has, pairs, nought}
use Rattle.base.specs.Tests.{or_cases}
use Rattle.lent.specs.Reading.{order_of, placed}
use Rattle.arithmetic.specs.Arith.{System}
use Rattle.numeric.specs.Stores.{StoreShape, Reducible, Closable}
use Rattle.numeric.specs.Rows.{Closed, RowLent, RowsHeld}
use Rattle.numeric.specs.PassLaws.{held_start}

-- rows (2, 4), (1, 4), b = (10, 9)
abbrev starts : List ℕ
starts = 0 ∷ 1 ∷ 1 ∷ []

abbrev values : ℕ → List Float
values zero = of_bits binary64 0x4000000000000000 ∷ of_bits binary64 0x4010000000000000 ∷ []
values (suc k) = of_bits binary64 0x3ff0000000000000 ∷ of_bits binary64 0x4010000000000000 ∷ []

abbrev right : ℕ → Float
right zero = of_bits binary64 0x4024000000000000
right (suc k) = of_bits binary64 0x4022000000000000

abbrev lower : ℕ → List ℕ
lower zero = []
lower (suc k) = 0 ∷ []

abbrev both : List ℕ
both = 0 ∷ 1 ∷ []

abbrev pub S : System
S = record { n = 2; lower = lower; upper = list_at starts both (1 ∷ []); entries = λ k. pairs both (values k); rhs = right; floor = nought }

nothing : (P : ℕ → Type 0) (i : ℕ) → i < 0 → P i
nothing P i h = absurd (not-suc-le-zero h)

upto : (P : ℕ → Type 0) (n : ℕ) → P 0 → ((i : ℕ) → i < n → P (suc i)) → (i : ℕ) → i < suc n → P i
upto P n z s zero h = z
upto P n z s (suc i) h = s i (le_of_suc-le-suc h)

two : (P : ℕ → Type 0) → P 0 → P 1 → (i : ℕ) → i < 2 → P i
two P a b = upto P 1 a (upto (λ (i : ℕ). P (suc i)) 0 b (nothing (λ (i : ℕ). P (suc (suc i)))))

single : (P : ℕ → Type 0) → P 0 → (i : ℕ) → i < 1 → P i
single P a = upto P 0 a (nothing (λ (i : ℕ). P (suc i)))

shape : StoreShape 2 starts both (1 ∷ []) 1
unfolding list_at
shape = record {
  list = two _ (record { has-run = lit< tt; has-start = lit< tt; rise = lit≤ tt; inside = lit≤ tt }) (record { has-run = lit< tt; has-start = lit< tt; rise = lit≤ tt; inside = lit≤ tt });
  values = two _ (record { has-run = lit< tt; has-start = lit< tt; rise = lit≤ tt; inside = lit≤ tt }) (record { has-run = lit< tt; has-start = lit< tt; rise = lit≤ tt; inside = lit≤ tt });
  below = two _ (single _ (lit< tt)) (nothing _);
}

-- row 1, whose lower row is not empty
pub reducible : Reducible 2 1 6 (0 ∷ 0 ∷ 0 ∷ 1 ∷ []) both (values 1) (0 ∷ []) starts both (1 ∷ []) 1
unfolding order_of
reducible = record {
  place = lit< tt;
  scratch = refl;
  row = record { placeable = record { few = lit≤ tt; slots = lit≤ tt; known = two _ (lit< tt) (lit< tt); inside = two _ (lit< tt) (lit< tt) }; paired = refl };
  below = single _ (lit< tt);
  lists = shape;
}

pub closable : Closable 2 1 6 (0 ∷ []) starts both (1 ∷ []) 2
closable = record { place = lit< tt; scratch = refl; reciprocals = refl; below = single _ (lit< tt); list = shape.list 1 (lit< tt); above = shape.below 1 (lit< tt) }

one_of : (a j : ℕ) → has (a ∷ []) j ≡ true → a ≡ j
unfolding has
one_of a j h = ⊎_elim (λ e. eqb-true a j e) (λ f. absurd (true≢false (sym f))) (or_cases (eqb a j) false h)

pub closed : (k : ℕ) → k < 2 → Closed S k
unfolding has list_at
closed = two _
    (record {
      ascending = λ p q h g. absurd (omega arith);
      left = λ i m. absurd (true≢false (sym m));
      right = λ i j m u. absurd (true≢false (sym m));
      range = λ j m. rw (← one_of 1 j m) (lit< tt);
      within = λ i j m u. absurd (true≢false (sym m));
    })
    (record {
      ascending = λ p q h g. absurd (omega arith);
      left = λ i m. rw (← one_of 0 i m) (lit< tt);
      right = λ i j m u. first i j (one_of 0 i m) u;
      range = λ j m. absurd (true≢false (sym m));
      within = λ i j m u. second i j (one_of 0 i m) u;
    })
  where
    first : (i j : ℕ) → 0 ≡ i → has (S.upper i) j ≡ true → i < j
    first i j e u = let q = one_of 1 j (rw (← e) at u) in omega arith

    second : (i j : ℕ) → 0 ≡ i → has (S.upper i) j ≡ true → has (0 ∷ 1 ∷ []) j ≡ true
    second i j e u = rw (← one_of 1 j (rw (← e) at u)) refl

pub lent : (k : ℕ) → k < 2 → RowLent S k (lower k) (placed both both) (values k) (right k) nought
unfolding has list_at placed of_bits
lent = two _
    (record { entries = refl; right = refl; under = refl; below = refl; filled = two _ refl refl; sum = refl; fine = two _ refl refl })
    (record { entries = refl; right = refl; under = refl; below = refl; filled = two _ refl refl; sum = refl; fine = two _ refl refl })

pub held : RowsHeld S [] 2 0 (replicate 6 nought) starts both (1 ∷ []) (nought ∷ [])
held = held_start S 2 (replicate 6 nought) starts both (1 ∷ []) (nought ∷ []) refl (λ i h. refl) refl refl
