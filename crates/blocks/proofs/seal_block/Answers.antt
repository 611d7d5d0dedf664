use Rattle.blocks.proofs.SealLaws.{block-sealed}
use Rattle.blocks.proofs.seal_block.Goals as goal

pub returns : goal.returns
returns c =
    let checked = c.checks_of-c.ensures in
    block-sealed _ _ c.requires _ _ _ _ _ c.put_bytes.ensures checked.0 checked.1 c.put_bytes-2.ensures c.put_bytes-3.ensures
