use Rattle.numeric.specs.PassLaws.{reduced}
use Rattle.numeric.specs.StoreLaws.{below-is, list-room}
use Rattle.numeric.specs.LoadLaws.{loads}
use Rattle.lent.specs.Reading.{order_of, placed}
use lib.ListN.{length}
use lib.Seq.{length-take-le, length_front}
use mathlib.Core.Path.{◌≡◌, refl, sym, ◌∙◌}
use native.Mathlib.Omega.{arith}
use Rattle.numeric.proofs.reduce_row.Goals as goal
use Rattle.numeric.proofs.reduce_row.Goals.{After-eliminate-row}

-- the scratch is as long as it was
long : (c : After-eliminate-row) → length c.eliminate-row.new.f ≡ length c.args.f.now
long c = c.eliminate-row.auto.f ∙ length_front c.args.f.now c.load_row.new.w c.args.n c.load_row.auto.w

pub slice_bounds-load_row-end : goal.slice_bounds-load_row-end
slice_bounds-load_row-end c = omega (arith, c.requires.scratch)

pub slice_bounds-load_row-end-2 : goal.slice_bounds-load_row-end-2
slice_bounds-load_row-end-2 c = sym (length-take-le c.args.n c.args.f.now (omega (arith, c.requires.scratch)))

pub load_row-requires : goal.load_row-requires
load_row-requires c = (length-take-le c.args.n c.args.f.now (omega (arith, c.requires.scratch)), c.requires.row)

pub eliminate-row-requires : goal.eliminate-row-requires
eliminate-row-requires c = (omega (arith, c.requires.scratch), c.requires.lists, c.requires.below)

pub list_at-above-requires : goal.list_at-above-requires
list_at-above-requires c = c.requires.lists.list c.args.k c.requires.place

pub offset_bounds-starts-k : goal.offset_bounds-starts-k
offset_bounds-starts-k c = omega (arith, c.requires.lists.values c.args.k c.requires.place)

pub bounds-starts-k : goal.bounds-starts-k
bounds-starts-k c = omega (arith, c.requires.lists.values c.args.k c.requires.place)

pub slice_bounds-finish_row-end : goal.slice_bounds-finish_row-end
slice_bounds-finish_row-end c = omega (arith, c.requires.scratch, c.eliminate-row.auto.f)

pub slice_bounds-finish_row-end-2 : goal.slice_bounds-finish_row-end-2
slice_bounds-finish_row-end-2 c =
    sym (length-take-le c.args.n c.eliminate-row.new.f (omega (arith, long (goal.at.slice_bounds-finish_row-end-2 c).After-eliminate-row, c.requires.scratch)))

pub finish_row-requires : goal.finish_row-requires
finish_row-requires c =
    let a = c.args in
    let e = length-take-le a.n c.eliminate-row.new.f (omega (arith, long (goal.at.finish_row-requires c).After-eliminate-row, c.requires.scratch)) in (
      rw e c.requires.place,
      rw e (below-is a.n _ _ c.list_at-above.ensures (c.requires.lists.below a.k c.requires.place)),
      list-room (length a.u.now) a.k _ a.starts.now a.runs.now a.upper.now _ c.slot-from.ensures.0 c.list_at-above.ensures
          (c.requires.lists.list a.k c.requires.place) (c.requires.lists.values a.k c.requires.place),
    )

pub shape_of-f : goal.shape_of-f
shape_of-f c = long (goal.at.shape_of-f c).After-eliminate-row

pub returns : goal.returns
returns c =
    let a = c.args in
    λ S rows H L C. reduced S rows a.n a.k a.f.now a.starts.now a.runs.now a.upper.now a.u.now H c.requires.place c.requires.scratch
    a.lower.now (placed (order_of a.n a.marks.now) a.columns.now) a.values.now a.b a.floor L C c.requires.lists
    c.load_row.new.w c.eliminate-row.new.f _ _ c.eliminate-row.result _ _ _ refl
    (loads (order_of a.n a.marks.now) a.columns.now a.values.now _ _ c.requires.row.paired (λ p h. rw (length-take-le a.n a.f.now (omega (arith, c.requires.scratch))) (c.requires.row.placeable.inside p h)) L.fine
    c.load_row.ensures) c.load_row.auto.w c.eliminate-row.ensures c.list_at-above.ensures c.slot-from.ensures.0 c.finish_row.ensures
