use Rattle.factor_contents.proofs.CallLaws.{asked-copies}
use Rattle.factor_contents.proofs.ask_copies.Goals as goal

pub returns : goal.returns
returns c =
    let h = c.requires in
    asked-copies _ _ _ _ _ _ _ _ _ h.3 h.4 c.read_as.ensures.1 c.read_as-2.ensures.1 c.ask_orders.ensures
