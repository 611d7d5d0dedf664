use Rattle.symbolic.proofs.Keeping.{lower-turn, lower-ready, lower-stepped}
use Rattle.fill.specs.Fill.{lower_row, flip}
use mathlib.Core.Path.{refl}
use Rattle.symbolic.proofs.append_lower.Goals as goal

pub append_list-requires : goal.append_list-requires
append_list-requires c = lower-ready c.requires.keep _ refl

pub returns : goal.returns
returns c =
    λ P store h. lower-stepped P c.args.values c.args.k.0 store c.append_list.new.starts c.append_list.new.index c.append_list.result
    (c.append_list.ensures.steps (lower_row P) (lower_row (flip P)) c.args.n store (lower-turn h _ refl))
