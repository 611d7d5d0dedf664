use Rattle.stages.specs.ShapedLaws.{solution-due}
use Rattle.stages.specs.Ends.{came-refused, came-passed}
use Rattle.stages.proofs.factor_and_solve.Goals as goal

pub factor-requires : goal.factor-requires
factor-requires c = (_, c.requires.ready)

pub returns-in_err-factor : goal.returns-in_err-factor
returns-in_err-factor c =
    came-refused _ _ _ _ _ _ _ _ _ (c.factor.ensures _ c.requires.ready) _ c.in_err-factor.was c.from_residual.ensures.1

pub write_x-requires : goal.write_x-requires
write_x-requires c = solution-due _ _ _ _ _ _ c.requires c.factor.auto.work

pub returns : goal.returns
returns c = came-passed _ _ _ _ _ _ _ _ _ (c.factor.ensures _ c.requires.ready) c.in_ok-factor.was c.write_x.ensures
