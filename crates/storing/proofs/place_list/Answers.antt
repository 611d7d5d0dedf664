use mathlib.Core.Path.{sym, ◌∙◌}
use native.Mathlib.Omega.{arith}
use Rattle.storing.specs.LookLaws.{looked, not-looked}
use Rattle.storing.specs.StepLaws.{place-done, place-full}
use Rattle.storing.specs.LoopLaws.{set_same}
use Rattle.storing.proofs.place_list.Goals as goal

pub write_list-requires : goal.write_list-requires
write_list-requires c =
    let a = c.args in
    let w = looked a.way a.starts.now a.runs.now a.index.now a.values a.row.now a.list.now a.k.0 a.s c.requires c.in_ok-plan.plan c.in_ok-plan.next (sym c.look_for.ensures ∙ c.in_ok-plan.was) in
    let y = c.requires in
    record { have-in = w.have-in; index-room = w.index-room; start-room = y.start-room; entries-limit = omega (arith, w.values-room, y.value-limit); small = y.small }

pub number32-requires : goal.number32-requires
number32-requires c =
    let a = c.args in
    let w = looked a.way a.starts.now a.runs.now a.index.now a.values a.row.now a.list.now a.k.0 a.s c.requires c.in_ok-plan.plan c.in_ok-plan.next (sym c.look_for.ensures ∙ c.in_ok-plan.was) in
    let y = c.requires in
    omega (arith, w.start-in, y.used-in, y.index-limit)

pub returns : goal.returns
returns c =
    let a = c.args in
    let b = c.write_list in
    place-done a.way a.starts.now a.runs.now a.index.now a.values a.row.now a.list.now a.k.0 a.s c.requires c.in_ok-plan.plan c.in_ok-plan.next (looked a.way a.starts.now a.runs.now a.index.now a.values a.row.now a.list.now a.k.0 a.s c.requires c.in_ok-plan.plan c.in_ok-plan.next (sym c.look_for.ensures ∙ c.in_ok-plan.was)) b.new.starts _ b.new.index b.ensures
    (set_same a.runs.now c.slot-p.result a.k.0 c.number32.result c.in_ok-plan.plan.start c.slot-p.ensures.0 c.number32.ensures)

pub returns-in_err-plan : goal.returns-in_err-plan
returns-in_err-plan c =
    let a = c.args in
    rw c.from_residual.ensures (place-full a.way a.starts.now a.runs.now a.index.now a.values a.row.now a.list.now a.k.0 a.s c.requires (not-looked a.way a.starts.now a.runs.now a.index.now a.values a.row.now a.list.now a.k.0 a.s (sym c.look_for.ensures ∙ c.in_err-plan.was)))
