use Rattle.std.proofs.Common.{ap}
use mathlib.Core.Bool.{not}
use mathlib.Core.Path.{refl, sym, ◌∙◌}
use native.Mathlib.Omega.{arith}
use Rattle.base.specs.FirstLaws.{passed-on}
use Rattle.factor_contents.proofs.JudgingLaws.{runs-alike}
use Rattle.factor_contents.proofs.CallLaws.{ask15-stop, ask15-end, ask15-pass}
use Rattle.factor_contents.proofs.ask_15.Goals as goal

pub ask_factors-requires : goal.ask_factors-requires
ask_factors-requires c =
    let h = c.requires in
    record {
      lower = record { few = h.few; starts-size = h.lower-starts; runs-size = omega (arith, h.lower-starts); runs-are = refl };
      upper = record { few = h.few; starts-size = h.upper-starts; runs-size = omega (arith, h.upper-starts); runs-are = refl };
      reciprocals = h.reciprocals;
    }

pub returns-in_err-ask_factors : goal.returns-in_err-ask_factors
returns-in_err-ask_factors c = rw (passed-on _ _ c.from_residual.ensures.1) (ask15-stop _ _ _ _ _ (c.ask_factors.ensures ∙ runs-alike _ _ _ _ _ _ _ _) _ c.in_err-ask_factors.was)

pub returns-then-not-lower_end-lower_index : goal.returns-then-not-lower_end-lower_index
returns-then-not-lower_end-lower_index c =
    ask15-end _ _ _ _ _ (c.ask_factors.ensures ∙ runs-alike _ _ _ _ _ _ _ _) c.in_ok-ask_factors.was _ _
    (sym c.slot-lower_end.ensures.0) (sym c.slot-upper_end.ensures.0) (ap not c.if-not-lower_end-lower_index.true)

pub returns : goal.returns
returns c =
    ask15-pass _ _ _ _ _ (c.ask_factors.ensures ∙ runs-alike _ _ _ _ _ _ _ _) c.in_ok-ask_factors.was _ _
    (sym c.slot-lower_end.ensures.0) (sym c.slot-upper_end.ensures.0) (ap not c.if-not-lower_end-lower_index.false)
