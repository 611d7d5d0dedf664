use Rattle.std.specs.Prelude.{◌≡◌, None}
use Rattle.base.specs.First.{first}
use Rattle.blocks.specs.Blocks.{wrong_block}
use Rattle.blocks.proofs.first_wrong.Given as goal

abbrev pub invariant-loop-k : goal.invariant-loop-k
invariant-loop-k l = first (wrong_block l.file) l.k ≡ None
