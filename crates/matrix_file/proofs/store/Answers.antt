use Rattle.matrix_file.proofs.CallLaws.{matrix-room, orders-room, whole-file, all_laid}
use Rattle.matrix_file.proofs.store.Goals as goal

pub lay_matrix-at-requires : goal.lay_matrix-at-requires
lay_matrix-at-requires c = matrix-room _ c.args.file.now c.requires

pub lay_orders-at-requires : goal.lay_orders-at-requires
lay_orders-at-requires c =
    let m = c.lay_matrix-at in
    orders-room _ c.args.file.now c.requires m.new.file _ m.ensures.0 m.auto.file

pub finish-requires : goal.finish-requires
finish-requires c =
    let m = c.lay_matrix-at in
    let o = c.lay_orders-at in
    whole-file _ c.args.file.now c.requires m.new.file o.new.file _ _ m.ensures.0 m.auto.file o.ensures.0 o.auto.file

pub returns : goal.returns
returns c = all_laid _ _ _ _ c.lay_matrix-at.ensures.1 c.lay_orders-at.ensures.1 c.finish.ensures
