use mathlib.Core.Path.{sym, ◌∙◌}
use native.Mathlib.Omega.{arith}
use Rattle.storing.specs.LookLaws.{looked, not-looked}
use Rattle.storing.specs.StepLaws.{plain_done, plain-full}
use Rattle.storing.specs.declared.Way.TheVariants.{OneAfterAnother}
use Rattle.storing.proofs.append_list.Goals as goal

pub write_list-requires : goal.write_list-requires
write_list-requires c =
    let a = c.args in
    let w = looked OneAfterAnother a.starts.now a.starts.now a.index.now a.values a.list.now a.list.now a.k.0 a.s c.requires c.in_ok-plan.plan c.in_ok-plan.next (sym c.look_for.ensures ∙ c.in_ok-plan.was) in
    let y = c.requires in
    record { have-in = w.have-in; index-room = w.index-room; start-room = y.start-room; entries-limit = omega (arith, w.values-room, y.value-limit); small = y.small }

pub returns : goal.returns
returns c =
    let a = c.args in
    let b = c.write_list in
    plain_done a.starts.now a.index.now a.values a.list.now a.k.0 a.s c.requires c.in_ok-plan.plan c.in_ok-plan.next (looked OneAfterAnother a.starts.now a.starts.now a.index.now a.values a.list.now a.list.now a.k.0 a.s c.requires c.in_ok-plan.plan c.in_ok-plan.next (sym c.look_for.ensures ∙ c.in_ok-plan.was)) b.new.starts b.new.index b.ensures

pub returns-in_err-plan : goal.returns-in_err-plan
returns-in_err-plan c =
    let a = c.args in
    rw c.from_residual.ensures (plain-full a.starts.now a.index.now a.values a.list.now a.k.0 a.s c.requires (not-looked OneAfterAnother a.starts.now a.starts.now a.index.now a.values a.list.now a.list.now a.k.0 a.s (sym c.look_for.ensures ∙ c.in_err-plan.was)))
