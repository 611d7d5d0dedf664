use lib.ListN.{get_or}
use mathlib.Core.Path.{◌≡◌}
use Prim.Native.Nat.{ℕ, ◌+◌, ◌*◌, ◌/◌, ◌≤◌, ◌<◌}
use Rattle.base.specs.Scratch.{blocks_from}
use Rattle.marks.proofs.next_block.Given as goal

-- no block before b is stamped
abbrev pub invariant-loop-b : goal.invariant-loop-b
invariant-loop-b l = (i : ℕ) → l.j ≤ i → i < l.b * 64 → get_or l.marks (blocks_from l.n + i / 64) 0 ≡ l.stamp → ⊥
