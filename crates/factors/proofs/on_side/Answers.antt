use mathlib.Core.Path.{refl}
use native.Mathlib.Numerals.{add-one}
use Rattle.factors.specs.PresentedLaws.{on-side}
use Rattle.factors.proofs.on_side.Goals as goal

pub returns-in-Upper : goal.returns-in-Upper
returns-in-Upper c = on-side _ _ _ _ _ _ _ _ _ _ refl c.in-Upper.is (add-one _) refl c.rises_in.ensures

pub returns-in-Plain : goal.returns-in-Plain
returns-in-Plain c = on-side _ _ _ _ _ _ _ _ _ _ c.in-Plain.is c.in-Lower.is refl refl c.rises_in-in-Plain.ensures
