use Rattle.base.specs.FirstLaws.{passed-on}
use Rattle.factor_reading.proofs.ShapeLaws.{head-pass, head-stop}
use Rattle.factor_reading.proofs.head_shape.Goals as goal

pub returns : goal.returns
returns c =
    let s = c.sizes_of-sizes.ensures in
    head-pass _ _ s.0 s.1 s.2 _ c.ask_head.ensures c.in_ok-ask_head.was

pub returns-in_err-ask_head : goal.returns-in_err-ask_head
returns-in_err-ask_head c =
    let s = c.sizes_of-sizes.ensures in
    rw (passed-on _ _ c.from_residual.ensures.1) (head-stop _ _ s.0 s.1 s.2 _ c.ask_head.ensures _ c.in_err-ask_head.was)
