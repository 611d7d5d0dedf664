use Rattle.factor.specs.EndLaws.{stopped-below, stopped-at, back-mapped}
use Rattle.std.proofs.Common.{rules, ◌<◌, arith}
use Rattle.numeric.specs.Stores.{store_given}
use Rattle.base.specs.Scratch.{z_from}
use lib.ListN.{drop}
use mathlib.Core.Path.{◌∙◌}
use Rattle.factor.proofs.solve_back.Goals as goal

pub map_err-requires : goal.map_err-requires
map_err-requires c =
    let a = c.args in
    λ k e.
    let b : k < a.n = stopped-below (store_given a.n a.work.now a.lists.upper_starts.now a.lists.upper_runs.now a.lists.upper_index.now a.upper_values.now) a.n k (drop (z_from a.n) a.work.now)
    (stopped-at _ _ c.back_steps.result _ e c.back_steps.ensures.0) in
    let f = c.requires.few in
    let g : k < 4294967296 = omega arith in
    search rules

pub returns : goal.returns
returns c = back-mapped _ c.back_steps.result c.map_err.result (λ k q h. search rules) c.map_err.ensures.cases c.map_err.ensures.variant ∙ c.back_steps.ensures.0
