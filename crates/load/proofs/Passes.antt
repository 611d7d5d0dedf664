-- The load passes questions 3 to 7, and 19 with every floor that is one, and its lists are what 1 and 2 ask for, with e its entry count. No claim is made on pivots.
use Rattle.base.specs.Answers.{Pass}
use Prim.Native.Nat.{ℕ, zero, suc, ◌+◌, ◌<◌, ◌≤◌}
use mathlib.Core.Path.{◌≡◌, refl, sym, ap, ◌∙◌}
use mathlib.Core.Bool.{true, false, not, ◌&&◌}
use mathlib.Core.List.{List, [], ◌∷◌, ◌++◌, map}
use native.Mathlib.Omega.{arith}
use lib.ListN.{length, get_or}
use lib.Dec.{ltb, eqb}
use lib.Ieee.{Float, nan}
use lib.Ieee.Scale.{finite}
use borrow.Author.Tests.{le-ltb, lt-leb, eqb-true, eq-eqb, ne_eqb}
use Rattle.base.specs.Lists.{table, joined, sum}
use Rattle.base.specs.Limits.{max_rows, max_entries}
use Rattle.base.specs.Tests.{by-test}
use Rattle.base.specs.FirstLaws.{first-all}
use Rattle.base.specs.TableLaws.{get_or-table, length-table}
use Rattle.base.specs.Magnitude.{is_floor}
use Rattle.matrix.specs.Input.{with_floor, is_of}
use Rattle.matrix.specs.ListsLaws.{Long}
use Rattle.matrix.specs.Questions.{bad_start, bad_column, bad_index, not_finite, no_entry, empty_row, ask3, ask4, ask5, ask6, ask7, ask_floor, ask_numbers, ask_finite, ask_pattern, ask_solve}
use Rattle.load.specs.Load.{row_at, entries_at, values_for, minus_one, one, load}
use Rattle.load.proofs.RowsLaws.{entries-long, numbers-long, entries-more}
use Rattle.load.proofs.RowLaws.{row-at, entries-most}

-- ---- what holds of every entry

module _ {A : Type 0} (P : A → Type 0) (z : A) where
  abbrev Every : List A → Type 0
  Every l = (p : ℕ) → p < length l → P (get_or l p z)

  every_append : (xs ys : List A) → Every xs → Every ys → Every (xs ++ ys)
  every_append [] ys a b p l = b p l
  every_append (x ∷ xs) ys a b zero l = a 0 (omega arith)
  every_append (x ∷ xs) ys a b (suc p) l = every_append xs ys (λ q h. a (suc q) (omega arith)) b p (omega arith)

  every-joined : (f : ℕ → List A) (n : ℕ) → ((i : ℕ) → i < n → Every (f i)) → Every (joined f n)
  unfolding joined
  every-joined f zero h p l = absurd (omega arith)
  every-joined f (suc n) h p l = every_append (joined f n) (f n) (every-joined f n (λ i g. h i (omega arith))) (h n (omega arith)) p l

  every-table : (v : A) (n : ℕ) → P v → Every (table (λ (k : ℕ). v) n)
  every-table v n h p l = rw (get_or-table (λ (k : ℕ). v) n z p (rw length-table at l)) h

abbrev Finite : Float → Type 0
Finite v = finite v ≡ true

finite-values : (row : List ℕ) → Every Finite nan (values_for row)
unfolding values_for
finite-values [] p l = absurd (omega arith)
finite-values (k ∷ js) zero l = refl
finite-values (k ∷ js) (suc p) l = others js p (omega arith)
  where
    others : (l : List ℕ) → Every Finite nan (map (λ (j : ℕ). minus_one) l)
    others [] p h = absurd (omega arith)
    others (j ∷ l) zero h = refl
    others (j ∷ l) (suc p) h = others l p (omega arith)

-- ---- the questions, one by one

module _ (n s : ℕ) where
  start-at : (i : ℕ) → i < n + 1 → get_or (load n s).starts i 0 ≡ entries_at n s i
  unfolding load
  start-at i l = get_or-table (entries_at n s) (n + 1) 0 i l

  order-at : (k : ℕ) → k < n → get_or (table (λ (j : ℕ). j) n) k 0 ≡ k
  order-at k l = get_or-table (λ (j : ℕ). j) n 0 k l

  own_row : (k : ℕ) → k < n → get_or (load n s).r k 0 ≡ k
  unfolding load
  own_row k l = order-at k l

  pub n-is : (load n s).n ≡ n
  unfolding load
  n-is = refl

  count-is : length (load n s).columns ≡ entries_at n s n
  unfolding load
  count-is = entries-long n s n

  zero-first : entries_at n s 0 ≡ 0
  unfolding entries_at sum
  zero-first = refl

  start-good : (i : ℕ) → i < n → bad_start (load n s).starts n (length (load n s).columns) i ≡ false
  unfolding bad_start
  start-good i l =
      let a : ltb (entries_at n s (i + 1)) (entries_at n s i) ≡ false = le-ltb (entries_at n s (i + 1)) (entries_at n s i) (omega (arith, entries-more n s i)) in
      let b : (eqb i 0 && not (eqb (entries_at n s i) 0)) ≡ false = by-test (eqb i 0) (λ t. rw (eqb-true i 0 t, zero-first)) (λ t. rw t) in
      let c : (eqb (i + 1) n && not (eqb (entries_at n s (i + 1)) (entries_at n s n))) ≡ false
      = by-test (eqb (i + 1) n) (λ t. rw (t, eq-eqb (entries_at n s (i + 1)) (entries_at n s n) (ap (entries_at n s) (eqb-true (i + 1) n t)))) (λ t. rw t) in
      rw (start-at (i + 1) (omega arith), start-at i (omega arith), count-is, a, b, c)

  pass-3 : ask3 n (length (load n s).columns) (load n s).starts ≡ Pass
  unfolding ask3
  pass-3 = rw (first-all (bad_start (load n s).starts n (length (load n s).columns)) n start-good)

  column-good : (p : ℕ) → p < length (load n s).columns → bad_column (load n s).columns n p ≡ false
  unfolding bad_column load
  column-good p l = lt-leb n _ (every-joined (λ (j : ℕ). j < n) 0 (row_at n s) n (λ i h. (row-at n s i h).below) p l)

  pass-4 : ask4 n (load n s).columns ≡ Pass
  unfolding ask4
  pass-4 = rw (first-all (bad_column (load n s).columns n) (length (load n s).columns) column-good)

  index-good : (k : ℕ) → k < n → bad_index (table (λ (j : ℕ). j) n) n k ≡ false
  unfolding bad_index is_of
  index-good k l =
      rw (order-at k l, lt-leb n k l, first-all (is_of (table (λ (j : ℕ). j) n) k) k (λ j h. rw (order-at j (omega arith)) (ne_eqb j k (λ e. absurd (omega arith)))))

  pass-5 : ask5 n (load n s).r (load n s).c ≡ Pass
  unfolding ask5 load
  pass-5 = rw (first-all (bad_index (table (λ (j : ℕ). j) n) n) n index-good)

  finite-pass : (v : List Float) (from : ℕ) → Every Finite nan v → ask_finite v from ≡ Pass
  unfolding ask_finite not_finite
  finite-pass v from h = rw (first-all (not_finite v) (length v) (λ p l. rw (h p l)))

  pass-6 : ask6 (load n s).values (load n s).b ≡ Pass
  unfolding ask6 load
  pass-6 =
      rw (finite-pass _ 0 (every-joined Finite nan (λ i. values_for (row_at n s i)) n (λ i h. finite-values (row_at n s i))))
      (finite-pass _ _ (every-table Finite nan one n refl))

  row-some : (k : ℕ) → k < n → empty_row (load n s).starts (load n s).r k ≡ false
  unfolding empty_row no_entry
  row-some k l = rw (own_row k l, start-at (k + 1) (omega arith), start-at k (omega arith)) (lt-leb (entries_at n s (k + 1)) (entries_at n s k) (omega (arith, entries-more n s k, (row-at n s k l).some)))

  pass-7 : ask7 n (load n s).starts (load n s).r ≡ Pass
  unfolding ask7
  pass-7 = rw (first-all (empty_row (load n s).starts (load n s).r) n row-some)

  -- questions 3 to 7 of a solve, and 19 where the floor is one
  pub passes : (f : Float) → is_floor f ≡ true → ask_solve (with_floor f (load n s)) ≡ Pass
  unfolding ask_solve ask_pattern ask_numbers ask_floor
  passes f h = rw (n-is, pass-3, pass-4, pass-5, pass-6, h, pass-7)

  -- its lists have the lengths of n rows and as many entries
  pub lists-long : Long n (length (load n s).columns) (length (load n s).starts) (length (load n s).columns) (length (load n s).values) (length (load n s).r) (length (load n s).c) (length (load n s).b)
  unfolding load
  lists-long = record {
    starts-long = length-table (entries_at n s) (n + 1);
    columns-long = refl;
    values-long = numbers-long n s n ∙ sym (entries-long n s n);
    r-long = length-table (λ (k : ℕ). k) n;
    c-long = length-table (λ (k : ℕ). k) n;
    b-long = length-table (λ (k : ℕ). one) n;
  }

  -- and they are within the limit
  pub count-within : n ≤ max_rows → length (load n s).columns ≤ max_entries
  count-within h = omega (arith, count-is, entries-most n s n)
