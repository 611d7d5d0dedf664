use mathlib.Core.Path.{refl}
use native.Mathlib.Numerals.{add-one}
use Rattle.base.specs.declared.Form.TheVariants.{Plain}
use Rattle.factors.specs.PresentedLaws.{on-side}
use Rattle.factor_contents.proofs.on_side.Goals as goal

pub returns-in-Lower : goal.returns-in-Lower
returns-in-Lower c = on-side Plain Plain _ _ _ _ _ _ _ _ refl c.in-Lower.is refl refl c.rises_at.ensures

pub returns-in-Upper : goal.returns-in-Upper
returns-in-Upper c = on-side Plain Plain _ _ _ _ _ _ _ _ refl c.in-Upper.is (add-one _) refl c.rises_at-in-Upper.ensures
