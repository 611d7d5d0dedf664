use mathlib.Core.Path.{sym, ◌∙◌}
use native.Mathlib.Omega.{arith}
use Rattle.factors.specs.PresentedLaws.{inside, good-outside, good-aside, good-values}
use Rattle.factors.proofs.side_good.Goals as goal

pub returns-then-outside : goal.returns-then-outside
returns-then-outside c =
    good-outside _ _ _ _ _ c.args.form c.args.side c.args.n c.requires.1.runs-are _ c.outside.ensures c.if-outside.true

pub list_at-list-requires : goal.list_at-list-requires
list_at-list-requires c =
    let h = c.requires in
    (inside _ _ _ _ _ (omega (arith, h.1.runs-size, h.0)) (omega (arith, h.1.starts-size, h.0)) (sym c.outside.ensures ∙ c.if-outside.false)).0

pub values_at-requires : goal.values_at-requires
values_at-requires c =
    let h = c.requires in
    (inside _ _ _ _ _ (omega (arith, h.1.runs-size, h.0)) (omega (arith, h.1.starts-size, h.0)) (sym c.outside.ensures ∙ c.if-outside.false)).1

pub returns-then-on_side : goal.returns-then-on_side
returns-then-on_side c =
    good-values _ _ _ _ _ c.args.form c.args.side c.args.n c.requires.1.runs-are _ c.outside.ensures _ _ c.list_at-list.ensures c.on_side.ensures
    c.if-outside.false _ _ c.values_at.ensures c.all_finite.ensures c.if-on_side.true

pub returns-else-on_side : goal.returns-else-on_side
returns-else-on_side c =
    c.if-on_side.false
    ∙ good-aside _ _ _ _ _ c.args.form c.args.side c.args.n c.requires.1.runs-are _ c.outside.ensures _ _ c.list_at-list.ensures c.on_side.ensures
    c.if-outside.false c.if-on_side.false
