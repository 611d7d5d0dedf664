use Rattle.marks.specs.MarkLaws.{stamped-turn, stamped-end}
use native.Mathlib.Omega.{arith}
use mathlib.Core.Path.{sym, ◌∙◌}
use Rattle.marks.proofs.merge_list.Goals as goal

pub loop-j-preserved : goal.loop-j-preserved
loop-j-preserved c =
    stamped-turn _ _ _ _ c.args.list.now c.loop-j.j-index _ c.loop-j-test.true c.wide.ensures.0 c.mark.ensures ∙ c.loop-j.invariant

pub returns : goal.returns
returns c = sym (stamped-end _ _ _ _ c.loop-j.j-index (omega arith)) ∙ c.loop-j.invariant
