use mathlib.Core.Path.{sym, ◌∙◌}
use native.Mathlib.Omega.{arith}
use Rattle.storing.specs.LookLaws.{looked, not-looked}
use Rattle.storing.specs.CheckLaws.{check-ends, match-no, match-fits}
use Rattle.storing.proofs.check_list.Goals as goal

pub stands-requires : goal.stands-requires
stands-requires c =
    let a = c.args in
    let w = looked a.way a.starts.now a.runs.now a.index.now a.values a.row.now a.list.now a.k.0 a.s c.requires c.in_ok-plan.plan c.in_ok-plan.next (sym c.look_for.ensures ∙ c.in_ok-plan.was) in
    let y = c.requires in
    record { have-in = w.have-in; index-room = w.index-room; run_room = y.run_room; start-room = y.start-room; entries-limit = omega (arith, w.values-room, y.value-limit) }

pub returns-then-stands : goal.returns-then-stands
returns-then-stands c =
    let a = c.args in
    check-ends a.way a.starts.now a.runs.now a.index.now a.values a.row.now a.list.now a.k.0 a.s c.requires _ (sym (match-fits a.way a.starts.now a.runs.now a.index.now a.values a.row.now a.list.now a.k.0 a.s c.in_ok-plan.plan c.in_ok-plan.next (looked a.way a.starts.now a.runs.now a.index.now a.values a.row.now a.list.now a.k.0 a.s c.requires c.in_ok-plan.plan c.in_ok-plan.next (sym c.look_for.ensures ∙ c.in_ok-plan.was)) ∙ rw (sym c.stands.ensures ∙ c.if-stands.true)))

pub returns : goal.returns
returns c =
    let a = c.args in
    check-ends a.way a.starts.now a.runs.now a.index.now a.values a.row.now a.list.now a.k.0 a.s c.requires _ (sym (match-fits a.way a.starts.now a.runs.now a.index.now a.values a.row.now a.list.now a.k.0 a.s c.in_ok-plan.plan c.in_ok-plan.next (looked a.way a.starts.now a.runs.now a.index.now a.values a.row.now a.list.now a.k.0 a.s c.requires c.in_ok-plan.plan c.in_ok-plan.next (sym c.look_for.ensures ∙ c.in_ok-plan.was)) ∙ rw (sym c.stands.ensures ∙ c.if-stands.false)))

pub returns-in_err-plan : goal.returns-in_err-plan
returns-in_err-plan c =
    let a = c.args in
    rw c.from_residual.ensures (check-ends a.way a.starts.now a.runs.now a.index.now a.values a.row.now a.list.now a.k.0 a.s c.requires _ (match-no a.way a.starts.now a.runs.now a.index.now a.values a.row.now a.list.now a.k.0 a.s (not-looked a.way a.starts.now a.runs.now a.index.now a.values a.row.now a.list.now a.k.0 a.s (sym c.look_for.ensures ∙ c.in_err-plan.was))))
