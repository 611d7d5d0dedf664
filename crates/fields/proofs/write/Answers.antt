use Rattle.std.proofs.Common.{ap, ◌∙◌, arith}
use Rattle.std.proofs.lemmas.List.{length-map}
use Rattle.base.specs.TableLaws.{get_or-map-lt}
use Rattle.fields.proofs.PutLaws.{room_for-one, write-start, write-more}
use Rattle.fields.proofs.FieldLaws.{written-end}
use Rattle.fields.proofs.write.Goals as goal

pub loop-x-init : goal.loop-x-init
loop-x-init g c = write-start _ _ _ _

pub put_number-p-requires : goal.put_number-p-requires
put_number-p-requires g c =
    omega (arith, c.WIDTH.ensures, c.loop-x.invariant.next, c.requires, room_for-one g.T.Field.WIDTH _ _ c.loop-x-test.true)

pub loop-x-preserved : goal.loop-x-preserved
loop-x-preserved g c =
    let f = g.T.Field.number_of in
    let s = c.put_number-p.ensures in
    write-more _ _ _ _ _ _ _ _ _ _ _ (rw length-map c.loop-x-test.true) c.WIDTH.ensures
    (c.to_number.ensures ∙ (ap f c.x-item.is ∙ get_or-map-lt f c.args.src.now _ _ 0 c.loop-x-test.true)) s.0 s.1 c.loop-x.invariant

pub returns : goal.returns
returns g c = written-end _ _ _ _ _ _ _ _ _ (omega arith) (g.met.T.Field.writes_each _) c.loop-x.invariant
