-- What the questions before 5 have settled for a writer. Definitions only.
use Rattle.std.specs.Prelude.{◌≡◌, ℕ, ◌≤◌}
use Rattle.base.specs.Limits.{max_rows, max_slots}
use Rattle.base.specs.declared.Counts.{Counts}
use Rattle.factor_contents.specs.FactorFile.{FactorLists, file_length}
use Rattle.factor_contents.specs.Judging.{Whole, Lent}

-- lists without unused slots, and a buffer for their file
pub record WriteLent (n : ℕ) (k : Counts) (l : FactorLists) (len : ℕ) : Type 0 where
  pub few : n ≤ max_rows
  pub some : 1 ≤ n
  pub lower-few : k.lower ≤ max_slots
  pub upper-few : k.upper ≤ max_slots
  pub lists : Lent Whole n k.lower k.upper l
  pub file : len ≡ file_length n k.lower k.upper
