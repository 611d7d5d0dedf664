-- What the sheet is printed from, and what is left then. Definitions only.
use Rattle.std.specs.Prelude.{ℕ, ◌≡◌, List}
use Rattle.std.proofs.lemmas.List.Edits.{sets}
use Rattle.base.specs.Lists.{blank}
use Rattle.sheet.specs.Sheet.{sheet}
use Rattle.sheet.specs.Printing.{line_in, PlacesLent}
use Rattle.sheet.specs.Counting.{Countable, RowsCounted}

-- lower columns that can be counted along, and numbers that can be printed
pub record SheetLent (n : ℕ) (r ls lr li us ur counts : List ℕ) : Type 0 where
  pub countable : Countable n ls lr li counts
  pub places : PlacesLent n r us ur

-- the sheet, by the lengths of the lower rows
pub record SheetPrinted (n : ℕ) (r ls lr li us ur counts out counts' out' : List ℕ) : Type 0 where
  pub lower : List ℕ
  pub counted : RowsCounted n ls lr li counts lower
  pub printed : out' ≡ sets out 0 (sheet n (line_in r lower us ur))
  pub cleared : counts' ≡ blank 0 counts
