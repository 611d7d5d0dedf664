use Rattle.storing.specs.PlanLaws.{planned-plain, planned-shared, planning-shared}
use Rattle.storing.proofs.plan_list.Goals as goal

pub shared_plan-requires : goal.shared_plan-requires
shared_plan-requires c = planning-shared _ _ _ _ _ _ _ _ c.in-Sharing.is c.requires

pub returns-in-OneAfterAnother : goal.returns-in-OneAfterAnother
returns-in-OneAfterAnother c =
    let a = c.args in
    planned-plain a.starts.now a.runs.now a.slots.now a.last a.k.0 a.row.now a.list.now a.way c.in-OneAfterAnother.is c.requires

pub returns-in-Sharing : goal.returns-in-Sharing
returns-in-Sharing c =
    let a = c.args in
    planned-shared a.starts.now a.runs.now a.slots.now a.last a.k.0 a.row.now a.list.now a.way c.shared_plan.result c.in-Sharing.is c.requires c.shared_plan.ensures
