use Rattle.std.proofs.Common.{ap}
use mathlib.Core.Bool.{not}
use Rattle.matrix.specs.Lists.{matrix_lists}
use Rattle.base.specs.FirstLaws.{passed-on}
use Rattle.matrix_file.proofs.CallLaws.{rows-most, read-stop, read-lengths, read-room, read_done}
use Rattle.matrix_file.proofs.read_matrix.Goals as goal

pub lengths_right-requires : goal.lengths_right-requires
lengths_right-requires c = rows-most _ _ _ c.matrix_file_shape.ensures c.in_ok-m.was

pub returns-then-not-lengths_right : goal.returns-then-not-lengths_right
returns-then-not-lengths_right c = read-lengths _ _ _ c.matrix_file_shape.ensures _ c.in_ok-m.was _ c.lengths_right.ensures (ap not c.if-not-lengths_right.true)

pub load-requires : goal.load-requires
load-requires c =
    let lists = (matrix_lists c.args.starts.now c.args.columns.now c.args.values.now c.args.r.now c.args.c.now c.args.b.now) in
    read-room _ lists _ c.matrix_file_shape.ensures _ c.in_ok-m.was _ c.lengths_right.ensures (ap not c.if-not-lengths_right.false)

pub returns-in_err-m : goal.returns-in_err-m
returns-in_err-m c = rw (passed-on _ _ c.from_residual.ensures.1) (read-stop _ _ _ c.matrix_file_shape.ensures _ c.in_err-m.was)

pub returns : goal.returns
returns c =
    read_done _ _ _ c.matrix_file_shape.ensures _ c.in_ok-m.was _ c.lengths_right.ensures _ (ap not c.if-not-lengths_right.false) c.load.ensures
