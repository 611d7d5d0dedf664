use Rattle.base.specs.FirstLaws.{passed-on}
use Rattle.matrix_file.proofs.CallLaws.{head-room, shape-head, shape-stop}
use Rattle.matrix_file.proofs.matrix_file_shape.Goals as goal

pub head_shape-requires : goal.head_shape-requires
head_shape-requires c = head-room _ _ c.ask_blocks.ensures c.in_ok-ask_blocks.was

pub returns : goal.returns
returns c = shape-head _ _ c.ask_blocks.ensures _ c.in_ok-ask_blocks.was c.head_shape.ensures

pub returns-in_err-ask_blocks : goal.returns-in_err-ask_blocks
returns-in_err-ask_blocks c = rw (passed-on _ _ c.from_residual.ensures.1) (shape-stop _ _ c.ask_blocks.ensures _ c.in_err-ask_blocks.was)
