use Rattle.std.proofs.lemmas.Result.{err_from_is_err_and}
use Rattle.symbolic.proofs.Starts.{default-is, inverse-lent, row-start}
use Rattle.symbolic.proofs.Ends.{found-stop, found-end}
use Rattle.symbolic.proofs.Keeping.{told}
use Rattle.symbolic.specs.Pass.{TurnEnds}
use Rattle.base.specs.declared.Form.TheVariants.{ByRow}
use mathlib.Core.Path.{refl}
use mathlib.Core.List.{[]}
use Rattle.symbolic.proofs.analyze_by_row.Goals as goal

pub loop-k-init : goal.loop-k-init
loop-k-init c =
    row-start _ _ _ _ _ _ _ _ _ c.requires c.clear.ensures c.clear-2.ensures c.begin_marks.ensures _ (default-is c.default-g.result c.default-g.ensures)

pub analyze_place_by_row-requires : goal.analyze_place_by_row-requires
analyze_place_by_row-requires c = record { order = _; low = _; up = _; place = c.loop-k-test.true; at = c.loop-k.invariant }

pub returns-in_err-g : goal.returns-in_err-g
returns-in_err-g c =
    let q = err_from_is_err_and c.from_residual.result c.from_residual.ensures.1 in
    rw (q.1, q.2) (found-stop ByRow _ [] 0 c.clear-2.new.s _ 0 _ refl c.clear-2.auto.s _
    (told (TurnEnds ByRow _ _ _ _ _ _ _ _ _ _ _ _ _) c.in_err-g.was (c.analyze_place_by_row.ensures _ _ _ c.loop-k.invariant)) _ _ _ _)

pub loop-k-preserved : goal.loop-k-preserved
loop-k-preserved c = told (TurnEnds ByRow _ _ _ _ _ _ _ _ _ _ _ _ _) c.in_ok-g.was (c.analyze_place_by_row.ensures _ _ _ c.loop-k.invariant)

pub returns : goal.returns
returns c =
    found-end ByRow _ _ _ _ _ _ _ _ _ _ _ _ _ _ _ _ _ refl c.clear-2.ensures c.loop-k.invariant c.loop-k-test.false c.counts_at.ensures tt

pub begin_marks-requires : goal.begin_marks-requires
begin_marks-requires c = inverse-lent _ _ c.requires.matrix
