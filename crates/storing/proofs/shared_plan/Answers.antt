use mathlib.Core.Path.{sym, ap, ◌∙◌}
use native.Mathlib.Omega.{arith}
use borrow.Author.Rules.{rules}
use Rattle.storing.specs.PlanLaws.{plan-empty, tail-found, plan-found, plan-none}
use Rattle.storing.specs.Slices.{as_plan}
use Rattle.storing.proofs.shared_plan.Goals as goal

pub returns-then-list-eq0 : goal.returns-then-list-eq0
returns-then-list-eq0 c =
    let a = c.args in
    plan-empty a.starts.now a.runs.now a.slots.now a.last a.k.0 a.row.now a.list.now (omega arith)

pub offset_bounds-row-j : goal.offset_bounds-row-j
offset_bounds-row-j c =
    let a = c.args in
    let h = (tail-found a.starts.now a.runs.now a.slots.now a.last a.k.0 a.row.now a.list.now c.if-list-eq0.false c.requires.readable c.in-Some.j (sym c.full_tail-found.ensures ∙ c.in-Some.is)).0 in
    search rules

pub bounds-row-j : goal.bounds-row-j
bounds-row-j c =
    let a = c.args in
    (tail-found a.starts.now a.runs.now a.slots.now a.last a.k.0 a.row.now a.list.now c.if-list-eq0.false c.requires.readable c.in-Some.j (sym c.full_tail-found.ensures ∙ c.in-Some.is)).0

pub tail_start-requires : goal.tail_start-requires
tail_start-requires c =
    let a = c.args in
    (tail-found a.starts.now a.runs.now a.slots.now a.last a.k.0 a.row.now a.list.now c.if-list-eq0.false c.requires.readable c.in-Some.j (sym c.full_tail-found.ensures ∙ c.in-Some.is)).1

pub returns-in-Some : goal.returns-in-Some
returns-in-Some c =
    let a = c.args in
    plan-found a.starts.now a.runs.now a.slots.now a.last a.k.0 a.row.now a.list.now c.if-list-eq0.false c.requires.readable c.in-Some.j (sym c.full_tail-found.ensures ∙ c.in-Some.is) c.tail_start.result c.tail_start.ensures

pub returns-in-None : goal.returns-in-None
returns-in-None c =
    let a = c.args in
    c.overlap_plan.ensures ∙ ap as_plan (sym (plan-none a.starts.now a.runs.now a.slots.now a.last a.k.0 a.row.now a.list.now c.if-list-eq0.false c.requires.readable (sym c.full_tail-found.ensures ∙ c.in-None.is)))
