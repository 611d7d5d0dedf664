-- What the sheet is printed from: the row order, the lengths of the lower rows, the upper list starts and run starts. Definitions only.
use Rattle.std.specs.Prelude.{ℕ, ◌+◌, ◌*◌, ◌<◌, ◌≤◌, ◌≡◌, List, length, get_or}
use Rattle.base.specs.Limits.{max_rows, max_slots}
use Rattle.lent.specs.Reading.{length_in}
use Rattle.printing.specs.Print.{width_in}
use Rattle.printing.specs.declared.Printer.{Printer}
use Rattle.printing.specs.Prints.{Prints}
use Rattle.base.specs.Lists.{joined}
use Rattle.sheet.specs.Sheet.{place_line, line_or, page}

-- the line of place k, from these
unfoldable pub line_in : List ℕ → List ℕ → List ℕ → List ℕ → ℕ → List ℕ
line_in r lower starts runs k = place_line k (get_or r k 0) (get_or lower k 0) (length_in starts k) (get_or runs k 0)

-- the row order and the upper lists are there for n places, and no number is over its limit
pub record PlacesLent (n : ℕ) (r starts runs : List ℕ) : Type 0 where
  pub few : n ≤ max_rows
  pub own : n ≤ length r
  pub lists : n < length starts
  pub placed : n ≤ length runs
  pub own_below : (k : ℕ) → k < n → get_or r k 0 < n
  pub rise : (k : ℕ) → k < n → get_or starts k 0 ≤ get_or starts (k + 1) 0
  pub lists-below : (k : ℕ) → k < n → length_in starts k ≤ n
  pub runs-below : (k : ℕ) → k < n → get_or runs k 0 ≤ max_slots

-- and so are the lengths of the lower rows
pub record Printable (n : ℕ) (r lower starts runs : List ℕ) : Type 0 where
  pub places : PlacesLent n r starts runs
  pub rows : n ≤ length lower
  pub rows-below : (k : ℕ) → k < n → get_or lower k 0 ≤ n

-- no byte of a sheet lies farther
abbrev pub sheet_most : ℕ
sheet_most = 2050 * max_rows

-- what a line is asked for: its numbers fit their columns
pub record LineFits (k own lower upper run : ℕ) : Type 0 where
  pub place : width_in 20 k ≤ 6
  pub own_row : width_in 20 own ≤ 8
  pub lower-row : width_in 20 lower ≤ 8
  pub upper-list : width_in 20 upper ≤ 8
  pub run-start : width_in 20 run ≤ 10

-- a line is written, and is 41 bytes long
pub record LineWritten (bytes : List ℕ) (p q : Printer) : Type 0 where
  pub prints : Prints bytes p q
  pub next : q.at ≡ p.at + 41

-- so many lines are, from place `first` on
pub record LinesWritten (n : ℕ) (line : ℕ → List ℕ) (first count : ℕ) (p q : Printer) : Type 0 where
  pub prints : Prints (joined (λ j. line_or n line (first + j)) count) p q
  pub next : q.at ≡ p.at + 41 * count

-- a page is
pub record PageWritten (n : ℕ) (line : ℕ → List ℕ) (k : ℕ) (p q : Printer) : Type 0 where
  pub prints : Prints (page n line k) p q
  pub next : q.at ≡ p.at + 2050
