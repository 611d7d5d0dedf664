use native.Mathlib.Omega.{arith}
use Rattle.storing.specs.LookLaws.{no_index, no-values, looked-fits}
use Rattle.storing.proofs.look_for.Goals as goal

pub returns-then-index-used : goal.returns-then-index-used
returns-then-index-used c =
    let a = c.args in
    no_index a.way a.starts.now a.runs.now a.index.now a.values a.row.now a.list.now a.k.0 a.s c.requires c.plan_list-plan.result c.plan_list-plan.ensures.is c.if-index-used.true

pub returns-then-values-entries : goal.returns-then-values-entries
returns-then-values-entries c =
    let a = c.args in
    no-values a.way a.starts.now a.runs.now a.index.now a.values a.row.now a.list.now a.k.0 a.s c.requires c.plan_list-plan.result c.plan_list-plan.ensures.is c.if-values-entries.true

pub returns : goal.returns
returns c =
    let a = c.args in
    let p = c.plan_list-plan in
    looked-fits a.way a.starts.now a.runs.now a.index.now a.values a.row.now a.list.now a.k.0 a.s c.requires p.result p.ensures.is (omega arith) (omega arith) c.last_run-last.result c.last_run-last.ensures
