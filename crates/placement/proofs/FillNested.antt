-- Where the lists of a fill stand.
use Rattle.std.specs.Prelude.{ℕ, ◌≤◌}
use mathlib.Core.List.{List}
use Rattle.fill.specs.Fill.{Pattern, upper_row, lower_row}
use Rattle.placement.specs.Placing.{plain, shared, placed}
use Rattle.placement.specs.PlacingLaws.{Kept}
use Rattle.placement.proofs.PlacingLaws.{shared-way, plain-way, placed-kept}
use Rattle.placement.specs.FillNested.{fill-nested}

-- every run of a fill's side reads its list after any later placing, and the used slots are at most the entries
pub fill-kept : (stored : Pattern) (n k : ℕ) → k ≤ n → Kept (upper_row stored n) (placed shared (upper_row stored n) (lower_row stored) k) k
fill-kept stored n k l = placed-kept shared (upper_row stored n) (lower_row stored) n (shared-way (upper_row stored n) (lower_row stored) n (fill-nested stored n)) k l

-- lists one after another, whatever they are
pub plain-kept : (T R : ℕ → List ℕ) (n k : ℕ) → k ≤ n → Kept T (placed plain T R k) k
plain-kept T R n k l = placed-kept plain T R n (plain-way T R n) k l
