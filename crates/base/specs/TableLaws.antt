-- Laws of `table` and `joined`, a list by its entries or parts, in the order in which a loop makes it.
use Rattle.std.specs.Prelude.{◌≡◌, length, get_or, take, set}
use Rattle.std.proofs.Math.Path.{refl}
use Rattle.std.proofs.Common.{sym, ◌∙◌, add-zero, add-suc, le_of_suc-le-suc, not-suc-le-zero, eq-or-lt_of_le, length-append, length-set, take-suc-set, take_all}
use Rattle.std.proofs.Math.Logic.{⊎_elim}
use mathlib.Core.List.{List, [], ◌∷◌, ◌++◌, map, append-nil, append_assoc}
use Prim.Native.Nat.{ℕ, zero, suc, ◌+◌, ◌<◌, ◌≤◌}
use Rattle.std.proofs.Math.Numerals.{add-one}
use native.Mathlib.Omega.{arith}
use Rattle.std.proofs.Math.ListN.{get_or-append}
use Rattle.base.specs.Lists.{table, joined}
use Rattle.std.proofs.lemmas.List.{get_or_at}

module _ {A : Type 0} where
  pub length-table : (f : ℕ → A) (n : ℕ) → length (table f n) ≡ n
  unfolding table
  length-table f zero = refl
  length-table f (suc n) = simp (length-append, length-table f n) (omega arith)

  pub table_more : (f : ℕ → A) (n : ℕ) → table f (n + 1) ≡ table f n ++ (f n ∷ [])
  unfolding table
  table_more f n = rw add-one

  -- only the entries below n count
  pub table-ext : (f g : ℕ → A) (n : ℕ) → ((i : ℕ) → i < n → f i ≡ g i) → table f n ≡ table g n
  unfolding table
  table-ext f g zero h = refl
  table-ext f g (suc n) h = rw (table-ext f g n (λ i l. h i (omega arith)), h n (omega arith))

  pub joined-more : (f : ℕ → List A) (k : ℕ) → joined f (k + 1) ≡ joined f k ++ f k
  unfolding joined
  joined-more f k = rw add-one

  pub joined-ext : (f g : ℕ → List A) (n : ℕ) → ((i : ℕ) → i < n → f i ≡ g i) → joined f n ≡ joined g n
  unfolding joined
  joined-ext f g zero h = refl
  joined-ext f g (suc n) h = rw (joined-ext f g n (λ i l. h i (omega arith)), h n (omega arith))

  pub get_or-table : (f : ℕ → A) (n : ℕ) (d : A) (i : ℕ) → i < n → get_or (table f n) i d ≡ f i
  unfolding table
  get_or-table f zero d i l = absurd (not-suc-le-zero l)
  get_or-table f (suc n) d i l =
      ⊎_elim (λ e. rw e (get_or_at (table f n) (f n) [] d n (length-table f n)))
      (λ lt. get_or-append (table f n) (f n ∷ []) d i (rw length-table lt) ∙ get_or-table f n d i lt)
      (eq-or-lt_of_le (le_of_suc-le-suc l))

  pub table-add : (f : ℕ → A) (m n : ℕ) → table f (m + n) ≡ table f m ++ table (λ i. f (m + i)) n
  unfolding table
  table-add f m zero = rw (add-zero, append-nil)
  table-add f m (suc n) = rw (add-suc, table-add f m n, append_assoc)

  -- a loop that stores f i at i, one turn at a time
  pub table-stored : (f : ℕ → A) (l : List A) (i : ℕ) → i < length l → take i l ≡ table f i → take (i + 1) (set l i (f i)) ≡ table f (i + 1)
  table-stored f l i h e = rw (add-one, take-suc-set l i (f i) h, e, ← add-one, table_more f i)

  pub table-whole : (f : ℕ → A) (l : List A) (i : ℕ) → length l ≤ i → take i l ≡ table f i → l ≡ table f i
  table-whole f l i h e = sym (take_all i l h) ∙ e

  -- ---- a loop that fills the n slots of out from the front by f: one law for every element type
  abbrev pub Filling : (ℕ → A) → ℕ → List A → ℕ → Type 0
  Filling f n out i = (i ≤ n) × (length out ≡ n) × (take i out ≡ table f i)

  pub fill_start : (f : ℕ → A) (n : ℕ) (out : List A) → length out ≡ n → Filling f n out 0
  unfolding table
  fill_start f n out e = (omega arith, e, refl)

  pub fill_more : (f : ℕ → A) (n : ℕ) (out : List A) (i : ℕ) (v : A) → i < n → v ≡ f i → Filling f n out i → Filling f n (set out i v) (i + 1)
  fill_more f n out i v h e p = (omega arith, simp length-set p.1, rw e (table-stored f out i (omega arith) p.2))

  pub fill_end : (f : ℕ → A) (n : ℕ) (out : List A) (i : ℕ) → n ≤ i → Filling f n out i → out ≡ table f n
  fill_end f n out i h p = let e : i ≡ n = omega arith in rw e at (table-whole f out i (omega arith) p.2)

-- an entry of a mapped list, whatever stands past the ends
pub get_or-map-lt : {A B : Type 0} (f : A → B) (l : List A) (i : ℕ) (d : A) (e : B) → i < length l → f (get_or l i d) ≡ get_or (map f l) i e
get_or-map-lt f [] i d e h = absurd (not-suc-le-zero h)
get_or-map-lt f (x ∷ l) zero d e h = refl
get_or-map-lt f (x ∷ l) (suc i) d e h = get_or-map-lt f l i d e (le_of_suc-le-suc h)
