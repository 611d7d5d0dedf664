-- What the shared structure call leaves is what the sheet is printed from.
use Prim.Native.Nat.{ℕ, ◌+◌, ◌*◌, ◌<◌, ◌≤◌}
use mathlib.Core.Path.{◌≡◌, sym, ap, ◌∙◌}
use mathlib.Core.Bool.{Bool, true, ◌&&◌}
use mathlib.Core.List.{List, ◌++◌}
use native.Mathlib.Omega.{arith}
use lib.ListN.{length, get_or, length-replicate, get_or-replicate}
use lib.Dec.{ltb}
use borrow.Author.Tests.{lt-ltb, le-ltb, eqb-true}
use Rattle.base.specs.Lists.{bit, count, asc, has, list_at}
use Rattle.base.specs.AscLaws.{asc-ascends, length-asc, count-ext, sum-part}
use Rattle.base.specs.All.{all}
use Rattle.base.specs.AllLaws.{all_true}
use Rattle.base.specs.FirstLaws.{both-pass, holds-pass}
use Rattle.base.specs.Answers.{holds}
use Rattle.base.specs.Limits.{max_rows, rows_within}
use Rattle.base.specs.declared.Form.TheVariants.{Shared}
use Rattle.base.specs.declared.Side.TheVariants.{Lower, Upper}
use Rattle.base.specs.declared.Refusal.TheVariants.{Rows, Lengths}
use Rattle.fill.specs.Fill.{Pattern, filled, upper, flip, upper_row, lower_row}
use Rattle.fill.proofs.RowRule.{filled-flip}
use Rattle.lent.specs.Reading.{Distinct, length_in}
use Rattle.marks.specs.FillLaws.{has-upper, upper-below}
use Rattle.marks.specs.ListLaws.{lower-le, upper-le}
use Rattle.matrix.specs.Input.{Input, stored}
use Rattle.matrix.specs.ListsLaws.{rows-range}
use Rattle.matrix.proofs.OrderLaws.{order_below}
use Rattle.outcome.specs.Forms.{value_need}
use Rattle.outcome.specs.Buffers.{Buffers, sizes, pattern_tests, structure_tests, ask_shape}
use Rattle.outcome.specs.Placed.{PlacedSide, lists-kept, starts-long, size-at, run_at, run_inside, list_at-is}
use Rattle.questions.specs.SettledLaws.{structured}
use Rattle.lists.proofs.Handed.{Structures}
use Rattle.sheet.specs.Sheet.{Line}
use Rattle.fill_sheet.specs.FillSheet.{fill_line}
use Rattle.sheet.specs.Printing.{line_in, PlacesLent}
use Rattle.sheet.specs.Counting.{Countable, RowsCounted}
use Rattle.sheet.specs.Lent.{SheetLent}
use Rattle.sheet.proofs.Laws.{line-fits}
use Rattle.sheet.proofs.Widths.{place-exact}

asc-distinct : (p : ℕ → Bool) (n : ℕ) → Distinct (asc p n)
asc-distinct p n = record { apart = λ a b l h e. let q = asc-ascends p n a b l (rw length-asc at h) in absurd (omega arith) }

upper-distinct : (P : Pattern) (n k : ℕ) → Distinct (upper_row P n k)
unfolding upper_row
upper-distinct P n k = asc-distinct (upper P k) n

-- in how many lower columns k stands: as often as lower row k is long
in-column : (P : Pattern) (n j k : ℕ) → k < n → has (upper_row (flip P) n j) k ≡ (ltb j k && filled P k j)
unfolding upper
in-column P n j k h = has-upper (flip P) n j k h ∙ rw (filled-flip P j k)

row-long : (P : Pattern) (n k : ℕ) → k < n → count (λ j. has (upper_row (flip P) n j) k) n ≡ length (lower_row P k)
unfolding lower_row count
row-long P n k h =
    count-ext (λ j. has (upper_row (flip P) n j) k) (λ j. ltb j k && filled P k j) n (λ j l. in-column P n j k h)
    ∙ sum-part (λ j. bit (ltb j k && filled P k j)) k n (omega arith) (λ j l. rw (le-ltb j k l))
    ∙ count-ext (λ j. ltb j k && filled P k j) (filled P k) k (λ j l. rw (lt-ltb j k l))
    ∙ sym (length-asc (filled P k) k)

module _ (i : Input) (s t : Buffers) (D : Structures Shared i s t) where
  pub few : i.n ≤ max_rows
  few = (rows-range i.n D.stood.rows).1

  tests : (k : ℕ) → get_or (pattern_tests i ++ structure_tests Shared i.n (sizes s)) k true ≡ true
  unfolding ask_shape
  tests = all_true (pattern_tests i ++ structure_tests Shared i.n (sizes s)) (holds-pass (all (pattern_tests i ++ structure_tests Shared i.n (sizes s))) Lengths (both-pass (holds (rows_within i.n) Rows) _ D.shaped).1)

  r-long : length i.r ≡ i.n
  r-long = eqb-true _ _ (tests 2)

  marks-size : (sizes s).marks ≡ 8 * i.n + 8
  marks-size = eqb-true _ _ (tests 13)

  marks-long : length t.marks ≡ 8 * i.n + 8
  marks-long = ap length D.marks ∙ length-replicate (sizes s).marks 0 ∙ marks-size

  lower : PlacedSide Shared Lower (stored i) i.n t.lower.starts t.lower.runs t.lower.index (value_need Shared Lower (stored i) i.n i.n)
  lower = D.stood.lower.placed

  upper-side : PlacedSide Shared Upper (stored i) i.n t.upper.starts t.upper.runs t.upper.index (value_need Shared Upper (stored i) i.n i.n)
  upper-side = D.stood.upper.placed

  column-is : (j : ℕ) → j < i.n → list_at t.lower.starts t.lower.runs t.lower.index j ≡ upper_row (flip (stored i)) i.n j
  column-is j h = list_at-is _ _ _ _ _ _ _ _ lower j h

  upper_long : (k : ℕ) → k < i.n → length_in t.upper.starts k ≡ length (upper_row (stored i) i.n k)
  upper_long k h = omega (arith, size-at _ _ _ _ _ _ _ _ upper-side k h)

  runs-long : length t.upper.runs ≡ i.n
  runs-long = ap length upper-side.runs-are ∙ (lists-kept Shared Upper (stored i) i.n i.n (omega arith)).count

  countable : Countable i.n t.lower.starts t.lower.runs t.lower.index t.marks
  countable = record {
    few = few;
    room = omega (arith, marks-long);
    lists = λ j h. record {
      has-run = (run_at _ _ _ _ _ _ _ _ lower j h).0;
      has-start = omega (arith, starts-long _ _ _ _ _ _ _ _ lower);
      rise = omega (arith, size-at _ _ _ _ _ _ _ _ lower j h);
      inside = run_inside _ _ _ _ _ _ _ _ lower j h;
    };
    below = λ j h. rw (column-is j h) (upper-below (flip (stored i)) i.n j);
    distinct = λ j h. rw (column-is j h) (upper-distinct (flip (stored i)) i.n j);
    zero = λ k h. rw D.marks (get_or-replicate (sizes s).marks k 0 0 (omega (arith, marks-size)));
  }

  places : PlacesLent i.n i.r t.upper.starts t.upper.runs
  places = record {
    few = few;
    own = omega (arith, r-long);
    lists = omega (arith, starts-long _ _ _ _ _ _ _ _ upper-side);
    placed = omega (arith, runs-long);
    own_below = order_below i.r i.n (structured i D.asked).readable.row-order;
    rise = λ k h. omega (arith, size-at _ _ _ _ _ _ _ _ upper-side k h);
    lists-below = λ k h. omega (arith, upper_long k h, upper-le (stored i) i.n k h);
    runs-below = λ k h. omega (arith, run_inside _ _ _ _ _ _ _ _ upper-side k h, D.stood.upper.few);
  }

  module _ (rows : List ℕ) (C : RowsCounted i.n t.lower.starts t.lower.runs t.lower.index t.marks rows) where
    rows_long : (k : ℕ) → k < i.n → get_or rows k 0 ≡ length (lower_row (stored i) k)
    rows_long k h =
        C.rows k h
        ∙ count-ext (λ j. has (list_at t.lower.starts t.lower.runs t.lower.index j) k) (λ j. has (upper_row (flip (stored i)) i.n j) k) i.n (λ j l. ap (λ (q : List ℕ). has q k) (column-is j l))
        ∙ row-long (stored i) i.n k h

    pub line-is : (k : ℕ) → k < i.n → line_in i.r rows t.upper.starts t.upper.runs k ≡ fill_line i k
    unfolding line_in fill_line
    line-is k h = rw (rows_long k h, upper_long k h, (run_at _ _ _ _ _ _ _ _ upper-side k h).1)

  pub sheet-lent : SheetLent i.n i.r t.lower.starts t.lower.runs t.lower.index t.upper.starts t.upper.runs t.marks
  sheet-lent = record { countable = countable; places = places }

  pub line-exact : (k : ℕ) → k < i.n → Line (fill_line i k)
  unfolding fill_line
  line-exact k h =
      place-exact k _ _ _ _
      (line-fits i.n k _ _ _ _ few h (places.own_below k h) (omega (arith, lower-le (stored i) k)) (omega (arith, upper-le (stored i) i.n k h))
      (omega (arith, places.runs-below k h, (run_at _ _ _ _ _ _ _ _ upper-side k h).1)))
