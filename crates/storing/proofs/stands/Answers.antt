use mathlib.Core.Path.{◌∙◌}
use Rattle.storing.specs.CheckLaws.{stands-is}
use Rattle.storing.proofs.Chains.{agree-zip}
use Rattle.storing.proofs.stands.Goals as goal

pub returns : goal.returns
returns c =
    let a = c.args in
    stands-is a.starts.now a.runs.now a.index.now a.list.now a.k.0 a.s a.plan c.slot-p.result c.slot.result c.slot-2.result c.slot-3.result c.agrees.result
    c.slot-p.ensures.0 c.slot.ensures.0 c.slot-2.ensures.0 c.slot-3.ensures.0 (c.agrees.ensures ∙ agree-zip _ _)
