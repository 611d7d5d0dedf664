use Rattle.std.proofs.Common.{sym, ◌∙◌, arith}
use Rattle.fields.proofs.PutLaws.{room_for-one}
use Rattle.fields.proofs.FieldLaws.{values-start, values-more, values-end}
use Rattle.fields.proofs.read.Goals as goal

pub loop-x-init : goal.loop-x-init
loop-x-init g c = values-start _ _ _ _ _

pub number_at-requires : goal.number_at-requires
number_at-requires g c =
    let w = c.WIDTH.ensures in
    (omega (arith, w, g.met.T.Field.narrow), omega (arith, c.loop-x.invariant.next, w, c.requires, room_for-one g.T.Field.WIDTH _ _ c.loop-x-test.true))

pub overflow_add-p : goal.overflow_add-p
overflow_add-p g c =
    omega (arith, c.loop-x.invariant.next, c.WIDTH-p.ensures, c.requires, room_for-one g.T.Field.WIDTH _ _ c.loop-x-test.true)

pub loop-x-preserved : goal.loop-x-preserved
loop-x-preserved g c =
    values-more _ _ _ _ _ _ _ _ _ _ _ (omega arith) c.WIDTH.ensures c.WIDTH-p.ensures c.number_at.ensures.0 c.from_number.ensures c.loop-x.invariant

pub returns : goal.returns
returns g c =
    let d = values-end _ _ _ _ _ _ _ _ c.loop-x.auto.out (omega arith) c.loop-x.invariant in
    (d.0, d.1 ∙ sym (g.met.T.Field.reads_each _ _ _))
