-- What a solve or a refactor of the plain form leaves passes the writer's questions: it can be kept.
use Rattle.std.specs.Prelude.{None}
use mathlib.Core.Path.{◌≡◌, refl, sym, ap, ap₂, ◌∙◌}
use mathlib.Core.Bool.{Bool, true, false, not, ◌&&◌, ◌||◌}
use mathlib.Core.List.{List, ◌++◌}
use Prim.Native.Nat.{ℕ, zero, suc, ◌+◌, ◌-◌, ◌*◌, ◌<◌, ◌≤◌}
use native.Mathlib.Omega.{arith}
use lib.ListN.{length, get_or}
use lib.Seq.{length-take-le}
use lib.Dec.{eqb, leb, ltb}
use lib.Ieee.{nan}
use lib.Ieee.Scale.{finite}
use borrow.Author.Tests.{le-leb, eq-eqb, eqb-true, not-false}
use Rattle.base.specs.Lists.{sum, count, has}
use Rattle.base.specs.All.{all}
use Rattle.base.specs.AllLaws.{all_true, all_join}
use Rattle.base.specs.Answers.{holds, and_then, Pass}
use Rattle.base.specs.AscLaws.{sum-ext, count-ext, length-asc, has-asc}
use Rattle.base.specs.First.{first}
use Rattle.base.specs.FirstLaws.{first-none, first-all, both-pass, holds-pass, absent-pass}
use Rattle.base.specs.Limits.{max_rows, max_slots, rows_within}
use Rattle.base.specs.Tests.{or-false, and_cases}
use Rattle.base.specs.declared.Counts.{Counts}
use Rattle.base.specs.declared.Form.TheVariants.{Plain}
use Rattle.base.specs.declared.Refusal.TheVariants.{Rows, Lengths}
use Rattle.base.specs.declared.Side.{Side}
use Rattle.base.specs.declared.Side.TheVariants.{Lower, Upper}
use Rattle.fill.specs.Fill.{Pattern, filled, upper_row, lower_row, lower_column, products}
use Rattle.placement.specs.Placing.{start_of}
use Rattle.matrix.specs.Input.{Input, stored}
use Rattle.matrix.specs.ListsLaws.{rows-range}
use Rattle.matrix.specs.Questions.{ask3, ask4, ask5, ask7, ask_pattern, ask_numbers, ask_solve}
use Rattle.arithmetic.specs.Arith.{Result}
use Rattle.outcome.specs.Buffers.{Buffers, sizes, matrix_tests, buffer_tests, ask_shape}
use Rattle.outcome.specs.Forms.{lists_of, value_need}
use Rattle.outcome.specs.Structure.{counts}
use Rattle.outcome.specs.Solve.{shape}
use Rattle.outcome.specs.Resolve.{given_list, given_values, misplaced, bad_list, bad_at, ask_factors}
use Rattle.reuse.specs.Reuse.{Factored}
use Rattle.reuse.proofs.Contracts.{plain-keeps}
use Rattle.reuse.proofs.Kept.{FactorsKept, factors-kept, factors-pass}
use Rattle.reuse.proofs.Stored.{list-is}
use Rattle.factor_contents.specs.FactorFile.{FactorLists, factor_lists, lower_of, upper_of, cut, file_length, lists_fit, ask15, products_of, ask_contents, ask_lengths, ask_write}
use Rattle.factor_contents.specs.Judging.{presented_lists}
use Rattle.factor_file.proofs.Products.{columns-products}
use Rattle.keeping.proofs.Cut.{enough, list-used, used-good}

start-sum : (T : ℕ → List ℕ) (m : ℕ) → start_of T m ≡ sum m (λ j. length (T j))
unfolding start_of sum
start-sum T zero = refl
start-sum T (suc m) = ap (λ (v : ℕ). v + length (T m)) (start-sum T m)

module _ (i : Input) (s t : Buffers) (a : Result) (g : FactorsKept Plain i s t a) where
  abbrev n : ℕ
  n = i.n

  abbrev P : Pattern
  P = stored i

  abbrev k : Counts
  k = counts i

  -- the factors with the orders that they were found by
  abbrev factors_left : FactorLists
  factors_left = factor_lists i.r i.c t.lower.starts t.lower.index t.lower.values t.upper.starts t.upper.index t.upper.values t.d

  -- ---- lengths

  abbrev tests : List Bool
  tests = matrix_tests i ++ buffer_tests Plain n (sizes t)

  shaped : (holds (rows_within n) Rows ≡ Pass) × (holds (all tests) Lengths ≡ Pass)
  unfolding shape ask_shape
  shaped = both-pass (holds (rows_within n) Rows) (holds (all tests) Lengths) (ap (shape Plain i) g.long ∙ g.lengths)

  rows : (1 ≤ n) × (n ≤ max_rows)
  rows = rows-range n (holds-pass (rows_within n) Rows shaped.0)

  test : (j : ℕ) → get_or tests j true ≡ true
  test = all_true tests (holds-pass (all tests) Lengths shaped.1)

  stated : all (buffer_tests Plain n (sizes t)) ≡ true
  stated =
      (and_cases (all (matrix_tests i)) (all (buffer_tests Plain n (sizes t))) (sym (all_join (matrix_tests i) (buffer_tests Plain n (sizes t))) ∙ holds-pass (all tests) Lengths shaped.1)).1

  lower_long : length t.lower.starts ≡ n + 1
  lower_long = eqb-true _ _ (test 6)

  upper_long : length t.upper.starts ≡ n + 1
  upper_long = eqb-true _ _ (test 9)

  -- ---- 15

  whole : (j : ℕ) → j < n → (bad_list Plain Lower n (lower_of factors_left) j ≡ false) × (bad_list Plain Upper n (upper_of factors_left) j ≡ false) × (finite (get_or t.d j nan) ≡ true)
  unfolding ask_factors bad_at bad_list misplaced given_list given_values
  whole j l =
      let f = first-none (bad_at Plain n t) n (absent-pass _ _ (factors-pass Plain plain-keeps i s t a g)) j l in
      let x = or-false (bad_list Plain Lower n t.lower j || bad_list Plain Upper n t.upper j) (not (finite (get_or t.d j nan))) f in
      let y = or-false (bad_list Plain Lower n t.lower j) (bad_list Plain Upper n t.upper j) x.0 in
      (y.0, y.1, not-false _ x.1)

  ends_at : (side : Side) (starts : List ℕ) → ((j : ℕ) → j < n → get_or starts (j + 1) 0 ≡ value_need Plain side P n (suc j)) → get_or starts n 0 ≡ sum n (λ j. length (lists_of Plain side P n j))
  unfolding value_need
  ends_at side starts h =
      let e : n - 1 + 1 ≡ n = omega (arith, rows.0) in
      let f : suc (n - 1) ≡ n = omega (arith, rows.0) in
      rw (e, f) at (h (n - 1) (omega (arith, rows.0))) ∙ start-sum (lists_of Plain side P n) n

  lower-end : get_or t.lower.starts n 0 ≡ k.lower
  unfolding counts
  lower-end = ends_at Lower t.lower.starts (λ j l. (g.stands Lower j l).next)

  upper-end : get_or t.upper.starts n 0 ≡ k.upper
  unfolding counts
  upper-end = ends_at Upper t.upper.starts (λ j l. (g.stands Upper j l).next)

  some : 0 < n
  some = omega (arith, rows.0)

  -- without unused slots
  abbrev used : FactorLists
  used = cut k factors_left

  lower-used : (j : ℕ) → j < n → bad_list Plain Lower n (lower_of used) j ≡ false
  unfolding cut
  lower-used = used-good Lower n t.lower.starts t.lower.index t.lower.values lower_long (λ j l. (whole j l).0) k.lower some lower-end

  upper-used : (j : ℕ) → j < n → bad_list Plain Upper n (upper_of used) j ≡ false
  unfolding cut
  upper-used = used-good Upper n t.upper.starts t.upper.index t.upper.values upper_long (λ j l. (whole j l).1) k.upper some upper-end

  passed-15 : ask15 n k.lower k.upper used ≡ Pass
  unfolding ask15 ask_factors bad_at cut
  passed-15 =
      let e : first (bad_at Plain n (presented_lists used)) n ≡ None = first-all (bad_at Plain n (presented_lists used)) n (λ j q. rw (lower-used j q, upper-used j q, (whole j q).2)) in
      rw (e, eq-eqb (get_or t.lower.starts n 0) k.lower lower-end, eq-eqb (get_or t.upper.starts n 0) k.upper upper-end)

  -- ---- 21

  lower-list : (j : ℕ) → j < n → given_list Plain (lower_of used) j ≡ lower_row P j
  unfolding cut given_list
  lower-list j q =
      sym (list-used Lower n t.lower.starts t.lower.index t.lower.values lower_long (λ j l. (whole j l).0) k.lower some lower-end j)
      ∙ list-is Plain Lower P n t.lower j (g.stands Lower j q)

  upper-list : (j : ℕ) → j < n → given_list Plain (upper_of used) j ≡ upper_row P n j
  unfolding cut given_list
  upper-list j q =
      sym (list-used Upper n t.upper.starts t.upper.index t.upper.values upper_long (λ j l. (whole j l).1) k.upper some upper-end j)
      ∙ list-is Plain Upper P n t.upper j (g.stands Upper j q)

  in_row : (m j : ℕ) → has (lower_row P m) j ≡ (ltb j m && filled P m j)
  unfolding lower_row
  in_row m j = has-asc (filled P m) m j

  column : (j : ℕ) → count (λ m. has (given_list Plain (lower_of used) m) j) n ≡ length (lower_column P n j)
  unfolding lower_column
  column j =
      count-ext (λ m. has (given_list Plain (lower_of used) m) j) (λ m. ltb j m && filled P m j) n (λ m q. ap (λ (l : List ℕ). has l j) (lower-list m q) ∙ in_row m j)
      ∙ sym (length-asc (λ m. ltb j m && filled P m j) n)

  lower-enough : (k.lower ≤ length t.lower.index) × (k.lower ≤ length t.lower.values)
  lower-enough = enough Lower n t.lower.starts t.lower.index t.lower.values lower_long (λ j l. (whole j l).0) k.lower some lower-end

  upper-enough : (k.upper ≤ length t.upper.index) × (k.upper ≤ length t.upper.values)
  upper-enough = enough Upper n t.upper.starts t.upper.index t.upper.values upper_long (λ j l. (whole j l).1) k.upper some upper-end

  products-are : products_of used.lower-index used.upper-starts ≡ products P n
  unfolding products cut
  products-are =
      columns-products n k.lower k.upper used some (length-take-le k.lower t.lower.index lower-enough.0) (length-take-le k.upper t.upper.index upper-enough.0) passed-15
      ∙ sum-ext n (λ j. count (λ m. has (given_list Plain (lower_of used) m) j) n * length (given_list Plain (upper_of used) j)) (λ j. length (lower_column P n j) * length (upper_row P n j))
      (λ j q. ap₂ ◌*◌ (column j) (ap length (upper-list j q)))

  -- ---- all of them

  orders : ask5 n i.r i.c ≡ Pass
  unfolding ask_solve ask_pattern
  orders =
      let p = (both-pass (ask_pattern i) (and_then (ask_numbers i.values i.b i.floor) (ask7 n i.starts i.r)) g.questions).0 in
      (both-pass (ask4 n i.columns) (ask5 n i.r i.c) (both-pass (ask3 n (length i.columns) i.starts) (and_then (ask4 n i.columns) (ask5 n i.r i.c)) p).1).1

  contents : ask_contents n k used ≡ Pass
  unfolding ask_contents cut counts
  contents = rw (orders, passed-15, eq-eqb (products P n) (products_of used.lower-index used.upper-starts) (sym products-are))

  fits : lists_fit n k.lower k.upper factors_left ≡ true
  fits =
      let er : eqb (length i.r) n ≡ true = test 2 in
      let ec : eqb (length i.c) n ≡ true = test 3 in
      let els : eqb (length t.lower.starts) (n + 1) ≡ true = test 6 in
      let eli : leb (length t.lower.index) max_slots ≡ true = test 7 in
      let elv : leb (length t.lower.values) max_slots ≡ true = test 8 in
      let eus : eqb (length t.upper.starts) (n + 1) ≡ true = test 9 in
      let eui : leb (length t.upper.index) max_slots ≡ true = test 10 in
      let euv : leb (length t.upper.values) max_slots ≡ true = test 11 in
      let ed : eqb (length t.d) n ≡ true = test 12 in
      rw (er, ec, ed, els, le-leb _ _ lower-enough.0, eli, le-leb _ _ lower-enough.1, elv, eus, le-leb _ _ upper-enough.0, eui, le-leb _ _ upper-enough.1, euv)

  asked : (len : ℕ) → len ≡ file_length n k.lower k.upper → ask_write n k factors_left len ≡ Pass
  unfolding ask_write ask_lengths
  asked len e = rw (le-leb 1 n rows.0, le-leb n max_rows rows.1, fits, eq-eqb len (file_length n k.lower k.upper) e, contents)

-- Over a buffer of the file's length, what a solve or a refactor left is never refused.
pub kept-asked : (i : Input) (s t : Buffers) → Factored Plain i s t → (len : ℕ) → len ≡ file_length i.n (counts i).lower (counts i).upper
    → ask_write i.n (counts i) (factor_lists i.r i.c t.lower.starts t.lower.index t.lower.values t.upper.starts t.upper.index t.upper.values t.d) len ≡ Pass
kept-asked i s t h len e = let f = factors-kept Plain plain-keeps i s t h in asked i s t f.0 f.1 len e

-- and its buffers have the lengths that another right side asks for
pub kept-stated : (i : Input) (s t : Buffers) → Factored Plain i s t → all (buffer_tests Plain i.n (sizes t)) ≡ true
kept-stated i s t h = let f = factors-kept Plain plain-keeps i s t h in stated i s t f.0 f.1
