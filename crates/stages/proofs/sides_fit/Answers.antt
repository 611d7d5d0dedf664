use Rattle.outcome.specs.Buffers.{side_tests, lower_tests}
use Rattle.stages.specs.LengthLaws.{all-next}
use Rattle.stages.proofs.sides_fit.Goals as goal

pub returns : goal.returns
returns c =
    let a = c.args in
    all-next (lower_tests a.form a.n a.sizes.lower) (side_tests a.form a.n a.sizes.upper) _ _ c.lower_fits-below.ensures c.side_fits-above.ensures
