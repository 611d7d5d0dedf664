use mathlib.Core.List.{[]}
use lib.ListN.{length}
use native.Mathlib.Omega.{arith}
use Rattle.base.specs.TableLaws.{fill_start, fill_more, fill_end}
use Rattle.matrix.specs.Input.{input_of, right_at}
use Rattle.substitution.specs.EndLaws.{right-below, right_is}
use Rattle.substitution.proofs.load_right.Goals as goal

pub loop-k-init : goal.loop-k-init
loop-k-init c =
    fill_start (right_at (input_of c.args.n [] [] [] c.args.r.now [] c.args.b.now)) c.args.n c.args.sums.now c.requires.1

pub row_right-requires : goal.row_right-requires
row_right-requires c =
    right-below c.args.r.now c.loop-k.k _ c.own_row-i.ensures (length c.args.b.now) c.requires.0.rows (omega (arith, c.requires.0.row-order))

pub loop-k-preserved : goal.loop-k-preserved
loop-k-preserved c =
    let l = c.loop-k in
    fill_more _ _ _ l.k _ c.loop-k-test.true (right_is _ _ _ c.own_row-i.ensures _ _ _ c.row_right.ensures) l.invariant

pub returns : goal.returns
returns c = fill_end _ _ _ c.loop-k.k c.loop-k-test.false c.loop-k.invariant
