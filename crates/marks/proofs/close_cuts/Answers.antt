use Rattle.marks.specs.ListedLaws.{listed_start, listed-fit, listed_below, listed_more, listed-end}
use native.Mathlib.Omega.{arith}
use Rattle.marks.proofs.close_cuts.Goals as goal

pub loop-p-init : goal.loop-p-init
loop-p-init c =
    let q = c.requires.bounds in
    (listed-fit _ _ _ q.0 q.2 _ c.requires.walk, listed_start _ _ _ q.0 q.2 _ c.requires.walk _ _ q.1)

pub cut_list-requires : goal.cut_list-requires
cut_list-requires c =
    let q = c.requires.bounds in
    let i = listed_below _ _ _ q.0 q.2 c.args.below c.requires.walk _ _ q.1 _ _ c.loop-p.invariant.1 c.slot-i.result (omega arith) c.slot-i.ensures.0 in
    (omega (arith, q.1.high, q.2.long, c.loop-p.auto.marks), c.requires.lists c.slot-i.result i)

pub loop-p-preserved : goal.loop-p-preserved
loop-p-preserved c =
    let q = c.requires.bounds in (
      c.loop-p.invariant.0,
      listed_more _ _ _ q.0 q.2 c.args.below c.requires.walk _ _ q.1 _ _ c.loop-p.invariant.1 _ c.slot-i.result (omega arith) c.slot-i.ensures.0 c.cut_list.ensures,
    )

pub returns : goal.returns
returns c =
    let q = c.requires.bounds in
    listed-end _ _ _ q.0 q.2 c.args.below c.requires.walk _ _ q.1 _ _ c.loop-p.invariant.1 (omega arith)
