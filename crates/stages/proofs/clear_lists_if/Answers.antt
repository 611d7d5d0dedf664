use Rattle.stages.specs.Ends.{if_yes}
use Rattle.stages.proofs.clear_lists_if.Goals as goal

pub returns-then-refused : goal.returns-then-refused
returns-then-refused c = let b = c.if-refused.true in (if_yes _ _ _ _ b c.clear.ensures, if_yes _ _ _ _ b c.clear-then-refused.ensures)
