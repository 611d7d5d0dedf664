use Rattle.comparison.proofs.Lists.{lower-told}
use Rattle.symbolic.proofs.Keeping.{lower-turn, lower-ready}
use Rattle.fill.specs.Fill.{lower_row, flip}
use mathlib.Core.Path.{refl}
use Rattle.comparison.proofs.Presented.compare_lower.Goals as goal

pub check_list-requires : goal.check_list-requires
check_list-requires c = lower-ready c.requires.keep _ refl

pub returns : goal.returns
returns c =
    let a = c.args in
    λ P h. lower-told P a.self.values a.k.0 a.self.starts.now a.self.index.now c.check_list.result
    (c.check_list.ensures.steps (lower_row P) (lower_row (flip P)) a.n (lower-turn h _ refl))
