use Rattle.std.proofs.Common.{ap}
use mathlib.Core.Bool.{not}
use Rattle.comparison.proofs.Ends.{default-is, met_start, compared-first, compared-stop, compared-pass}
use Rattle.comparison.specs.Comparing.{PlaceEnds}
use Rattle.symbolic.proofs.Keeping.{told}
use Rattle.comparison.proofs.compare.Goals as goal

pub returns-then-not-start_right : goal.returns-then-not-start_right
returns-then-not-start_right c = compared-first c.requires _ c.start_right.ensures (ap not c.if-not-start_right.true) _

pub loop-k-init : goal.loop-k-init
loop-k-init c = met_start c.requires _ c.start_right.ensures (ap not c.if-not-start_right.false) _ c.begin.ensures _ (default-is c.default-g.result c.default-g.ensures)

pub returns-in_default : goal.returns-in_default
returns-in_default c =
    compared-stop c.requires _ _ _ c.loop-k.invariant c.loop-k-test.true
    (told (PlaceEnds _ _ _ _ _ _ _ _ _ _ _ _) c.in_default.is (c.compare_place-found.ensures _ c.loop-k.invariant)) _

pub returns : goal.returns
returns c = compared-pass c.requires c.loop-k.invariant c.loop-k-test.false
