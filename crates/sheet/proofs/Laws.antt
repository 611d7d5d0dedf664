-- Lines, pages and the sheet, one behind the other.
use Prim.Native.Nat.{ℕ, ◌+◌, ◌*◌, ◌<◌, ◌≤◌}
use mathlib.Core.Path.{◌≡◌, ap, ◌∙◌}
use mathlib.Core.List.{List, [], ◌∷◌, ◌++◌, append-nil}
use native.Mathlib.Omega.{arith}
use lib.ListN.{length, get_or, replicate, length-replicate, drop_of_length-le}
use lib.Dec.{ltb}
use lib.Seq.{sets, sets-eq}
use borrow.Author.Tests.{lt-ltb, le-ltb, ltb-true}
use Rattle.base.specs.Tests.{by-test}
use Rattle.base.specs.TableLaws.{joined-more, joined-ext}
use Rattle.base.specs.Lists.{joined}
use Rattle.base.specs.Limits.{max_rows, max_slots}
use Rattle.lent.specs.Reading.{length_in}
use Rattle.printing.specs.Print.{column, width_in}
use Rattle.printing.specs.declared.Printer.{Printer}
use Rattle.printing.specs.Prints.{Prints, then-prints, prints-none}
use Rattle.printing.proofs.Laws.{width-most}
use Rattle.sheet.specs.Sheet.{place_line, head_line, blank_line, line_or, page, pages_for, sheet}
use Rattle.sheet.specs.Printing.{line_in, Printable, sheet_most, LineFits, LineWritten, LinesWritten, PageWritten}

-- ---- lines

-- a number in its column, as it is printed
abbrev Column : ℕ → ℕ → Printer → Printer → Type 0
Column w x p q = record { prints : Prints (column w x) p q; next : q.at ≡ p.at + w }

pub place-line : (k own lower upper run : ℕ) {o a b c d e q : Printer} → Column 6 k o a → Column 8 own a b → Column 8 lower b c → Column 8 upper c d → Column 10 run d e → Prints (10 ∷ []) e q
    → LineWritten (place_line k own lower upper run) o q
unfolding place_line
place-line k own lower upper run A B C D E F =
    record {
      prints = then-prints (then-prints (then-prints (then-prints (then-prints A.prints B.prints) C.prints) D.prints) E.prints) F;
      next = omega (arith, A.next, B.next, C.next, D.next, E.next, F.written.next);
    }

pub head-line : (p : ℕ) {o a b c q : Printer} → Prints (70 ∷ 73 ∷ 76 ∷ 76 ∷ []) o a → Prints (replicate 30 32) a b → Column 6 (p + 1) b c → Prints (10 ∷ []) c q → LineWritten (head_line p) o q
unfolding head_line
head-line p A B C D =
    record {
      prints = then-prints (then-prints (then-prints A B) C.prints) D;
      next = omega (arith, A.written.next, B.written.next, length-replicate {A = ℕ} 30 32, C.next, D.written.next);
    }

pub blank-line : {o a q : Printer} → Prints (replicate 40 32) o a → Prints (10 ∷ []) a q → LineWritten blank_line o q
unfolding blank_line
blank-line A B = record { prints = then-prints A B; next = omega (arith, A.written.next, length-replicate {A = ℕ} 40 32, B.written.next) }

-- ---- the numbers fit, said once of the limits

rows_fit : (w x : ℕ) → 6 ≤ w → x ≤ max_rows → width_in 20 x ≤ w
rows_fit w x h l = omega (arith, width-most 20 6 x (omega arith) (omega arith))

slots-fit : (x : ℕ) → x ≤ max_slots → width_in 20 x ≤ 10
slots-fit x l = width-most 20 10 x (omega arith) (omega arith)

pub line-fits : (n k own lower upper run : ℕ) → n ≤ max_rows → k < n → own < n → lower ≤ n → upper ≤ n → run ≤ max_slots → LineFits k own lower upper run
line-fits n k own lower upper run f h o l u s = record {
  place = rows_fit 6 k (omega arith) (omega arith);
  own_row = rows_fit 8 own (omega arith) (omega arith);
  lower-row = rows_fit 8 lower (omega arith) (omega arith);
  upper-list = rows_fit 8 upper (omega arith) (omega arith);
  run-start = slots-fit run s;
}

-- the numbers as the code reads them
pub read_fits : (n : ℕ) (r lower starts runs : List ℕ) → Printable n r lower starts runs → (k own rows list run : ℕ) → k < n
    → own ≡ get_or r k 0 → rows ≡ get_or lower k 0 → list ≡ length_in starts k → run ≡ get_or runs k 0 → LineFits k own rows list run
read_fits n r lower starts runs P k own rows list run h eo er el en = let L = P.places in rw (eo, er, el, en) (line-fits n k _ _ _ _ L.few h (L.own_below k h) (P.rows-below k h) (L.lists-below k h) (L.runs-below k h))

pub page-fits : (p : ℕ) → p < max_rows → width_in 20 (p + 1) ≤ 6
page-fits p h = rows_fit 6 (p + 1) (omega arith) (omega arith)

-- ---- pages

place-there : (n : ℕ) (line : ℕ → List ℕ) (k : ℕ) {p q : Printer} → k < n → LineWritten (line k) p q → LineWritten (line_or n line k) p q
unfolding line_or
place-there n line k h w = rw (lt-ltb k n h) w

pub place_read : (n : ℕ) (r lower starts runs : List ℕ) (k own rows list run : ℕ) {p q : Printer} → k < n
    → own ≡ get_or r k 0 → rows ≡ get_or lower k 0 → list ≡ length_in starts k → run ≡ get_or runs k 0 → LineWritten (place_line k own rows list run) p q
    → LineWritten (line_or n (line_in r lower starts runs) k) p q
unfolding line_in
place_read n r lower starts runs k own rows list run h eo er el en w = place-there n (line_in r lower starts runs) k h (rw (eo, er, el, en) at w)

pub place_none : (n : ℕ) (line : ℕ → List ℕ) (k : ℕ) {p q : Printer} → n ≤ k → LineWritten blank_line p q → LineWritten (line_or n line k) p q
unfolding line_or
place_none n line k h w = rw (le-ltb k n h) w

module _ (n : ℕ) (line : ℕ → List ℕ) where
  pub lines_start : (first : ℕ) (p : Printer) → LinesWritten n line first 0 p p
  unfolding joined
  lines_start first p = record { prints = prints-none p; next = omega arith }

  pub lines_more : (first j : ℕ) {o p q : Printer} → LinesWritten n line first j o p → LineWritten (line_or n line (first + j)) p q → LinesWritten n line first (j + 1) o q
  lines_more first j L W = record { prints = rw (joined-more (λ i. line_or n line (first + i)) j) (then-prints L.prints W.prints); next = omega (arith, L.next, W.next) }

  pub lines_end : (first j : ℕ) {o p : Printer} → 49 ≤ j → j ≤ 49 → LinesWritten n line first j o p → LinesWritten n line first 49 o p
  lines_end first j l h L = let e : j ≡ 49 = omega arith in rw e at L

  pub page-whole : (k : ℕ) {o p q : Printer} → LineWritten (head_line k) o p → LinesWritten n line (49 * k) 49 p q → PageWritten n line k o q
  unfolding page
  page-whole k H L = record { prints = then-prints H.prints L.prints; next = omega (arith, H.next, L.next) }

  -- the pages before k
  pub record Pages (k : ℕ) (o p : Printer) : Type 0 where
    pub prints : Prints (joined (page n line) k) o p
    pub next : p.at ≡ o.at + 2050 * k

  pub pages-start : (o : Printer) → Pages 0 o o
  unfolding joined
  pages-start o = record { prints = prints-none o; next = omega arith }

  pub pages-more : (k : ℕ) {o p q : Printer} → Pages k o p → PageWritten n line k p q → Pages (k + 1) o q
  pages-more k P W = record { prints = rw (joined-more (page n line) k) (then-prints P.prints W.prints); next = omega (arith, P.next, W.next) }

  pub pages-end : (k : ℕ) {o p : Printer} → k ≡ pages_for n → Pages k o p → Prints (sheet n line) o p
  unfolding sheet
  pages-end k e P = rw (← e) P.prints

pub page-room : (n p at : ℕ) → n ≤ max_rows → p < pages_for n → at ≡ 2050 * p → (at + 2050 ≤ sheet_most) × (p < max_rows)
page-room n p at f h e = (omega arith, omega arith)

-- ---- the same lines give the same sheet

module _ (n : ℕ) (f g : ℕ → List ℕ) (h : (k : ℕ) → k < n → f k ≡ g k) where
  or_same : (k : ℕ) → line_or n f k ≡ line_or n g k
  unfolding line_or
  or_same k = by-test (ltb k n) (λ t. rw t (h k (ltb-true k n t))) (λ t. rw t)

  page-same : (p : ℕ) → page n f p ≡ page n g p
  unfolding page
  page-same p = ap (λ (l : List ℕ). head_line p ++ l) (joined-ext (λ j. line_or n f (49 * p + j)) (λ j. line_or n g (49 * p + j)) 49 (λ j l. or_same (49 * p + j)))

  pub sheet-same : sheet n f ≡ sheet n g
  unfolding sheet
  sheet-same = joined-ext (page n f) (page n g) (pages_for n) (λ p l. page-same p)

-- a text over a buffer of its length
pub sets-whole : (old new : List ℕ) → length old ≡ length new → sets old 0 new ≡ new
sets-whole old new e = let l : length old ≤ 0 + length new = omega (arith, e) in sets-eq new old 0 (omega (arith, e)) ∙ rw (drop_of_length-le old l) (append-nil new)
