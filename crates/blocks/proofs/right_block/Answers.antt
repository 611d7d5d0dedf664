use Rattle.blocks.specs.Blocks.{right_block}
use Rattle.blocks.proofs.CheckLaws.{right-from}
use Rattle.blocks.proofs.right_block.Goals as goal

pub returns : goal.returns
unfolding right_block
returns c =
    right-from _ _ _ _ _ _ _ c.checks_of-c.ensures.0 c.checks_of-c.ensures.1 c.number_in-number.ensures.0 c.number_in-a.ensures.0 c.number_in-b.ensures.0
