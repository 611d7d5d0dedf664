use mathlib.Core.Path.{refl, sym, ap, ◌∙◌}
use Rattle.storing.proofs.Chains.{meets-at, meets-none, agree-zip}
use Rattle.storing.specs.LoopLaws.{overlap-found, overlap-apart, overlap-missed}
use Rattle.storing.specs.Slices.{as_plan}
use Rattle.storing.proofs.overlap_plan.Goals as goal

pub returns-in_default : goal.returns-in_default
returns-in_default c =
    let a = c.args in
    c.fresh_plan.ensures ∙ ap as_plan (sym (overlap-missed a.slots.now a.last a.list.now _ refl (meets-none a.slots.now a.last a.list.now _ c.first_at.ensures c.requires.0 c.in_default.is)))

pub returns-then-agrees : goal.returns-then-agrees
returns-then-agrees c =
    let a = c.args in
    let m = meets-at a.slots.now a.last a.list.now _ c.first_at.ensures c.in-Some.j c.requires.0 c.in-Some.is in
    rw c.min.ensures (overlap-found a.slots.now a.last a.list.now _ m.0 m.1 (sym (c.agrees.ensures ∙ agree-zip _ _) ∙ c.if-agrees.true))

pub returns : goal.returns
returns c =
    let a = c.args in
    let m = meets-at a.slots.now a.last a.list.now _ c.first_at.ensures c.in-Some.j c.requires.0 c.in-Some.is in
    c.fresh_plan-2.ensures ∙ ap as_plan (sym (overlap-apart a.slots.now a.last a.list.now _ m.0 m.1 (sym (c.agrees.ensures ∙ agree-zip _ _) ∙ c.if-agrees.false)))
