use mathlib.Core.Path.{ap, ◌∙◌}
use Rattle.matrix.specs.Input.{own_order}
use Rattle.lent.specs.ReadingLaws.{take_rest}
use Rattle.base.specs.Scratch.{z_from}
use Rattle.stages.proofs.write_x.Goals as goal

pub returns : goal.returns
returns c = let s = c.args in c.write_solution.ensures ∙ ap (own_order s.c.now s.n) (take_rest (z_from s.n) s.work.now)
