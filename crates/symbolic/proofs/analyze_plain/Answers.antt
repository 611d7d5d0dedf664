use Rattle.std.proofs.lemmas.Result.{err_from_is_err_and}
use Rattle.symbolic.proofs.Starts.{default-is, inverse-lent, plain-start}
use Rattle.symbolic.proofs.Ends.{both-stop, both_end}
use Rattle.symbolic.proofs.Keeping.{told}
use Rattle.symbolic.specs.Pass.{TurnEnds}
use Rattle.base.specs.declared.Form.TheVariants.{Plain}
use mathlib.Core.Path.{refl}
use Rattle.symbolic.proofs.analyze_plain.Goals as goal

pub loop-k-init : goal.loop-k-init
loop-k-init c =
    plain-start _ _ _ _ _ _ _ _ _ _ _ _ _ c.requires c.clear.ensures c.clear-2.ensures c.clear-3.ensures c.clear-4.ensures c.begin_marks.ensures _ (default-is c.default-g.result c.default-g.ensures)

pub analyze_place_plain-requires : goal.analyze_place_plain-requires
analyze_place_plain-requires c = record { order = _; low = _; up = _; place = c.loop-k-test.true; at = c.loop-k.invariant }

pub returns-in_err-g : goal.returns-in_err-g
returns-in_err-g c =
    let q = err_from_is_err_and c.from_residual.result c.from_residual.ensures.1 in
    rw (q.1, q.2) (both-stop Plain _ c.clear-2.new.s _ c.clear-4.new.s _ _ _ c.clear-2.auto.s c.clear-4.auto.s _
    (told (TurnEnds Plain _ _ _ _ _ _ _ _ _ _ _ _ _) c.in_err-g.was (c.analyze_place_plain.ensures _ _ _ c.loop-k.invariant)) _ _ _ _ _ _ _)

pub loop-k-preserved : goal.loop-k-preserved
loop-k-preserved c = told (TurnEnds Plain _ _ _ _ _ _ _ _ _ _ _ _ _) c.in_ok-g.was (c.analyze_place_plain.ensures _ _ _ c.loop-k.invariant)

pub returns : goal.returns
returns c =
    both_end Plain _ _ _ _ _ _ _ _ _ _ _ _ _ _ _ _ _ c.clear-2.ensures c.clear-4.ensures c.loop-k.invariant c.loop-k-test.false c.counts_at.ensures refl refl tt

pub begin_marks-requires : goal.begin_marks-requires
begin_marks-requires c = inverse-lent _ _ c.requires.matrix
