use mathlib.Core.Path.{◌∙◌}
use Prim.Native.Nat.{◌+◌, ◌*◌}
use native.Mathlib.Omega.{arith}
use Rattle.std.specs.List.{range_with_len}
use Rattle.std.proofs.Common.{rules, tests}
use Rattle.std.proofs.lemmas.Iterator.{YieldsList-from_range, YieldsList-from_map}
use Rattle.std.proofs.lemmas.Iterator.Consumers.{sum_by_from_yields_List}
use Rattle.std.proofs.lemmas.Iterator.Adapters.{fits_from_length, at_most_from_yields_List}
use Rattle.std.proofs.lemmas.List.FromFn.{length-range_with_len}
use Rattle.base.specs.Limits.{max_slots}
use Rattle.lent.specs.Reading.{length_in}
use Rattle.fields.specs.Numbers.{le}
use Rattle.fields.specs.Payload.{payload, fields_at}
use Rattle.factor_contents.proofs.JudgingLaws.{products-at}
use Rattle.factor_contents.proofs.products_in.Goals as goal

pub sum-requires-clause-fits : goal.sum-requires-clause-fits
sum-requires-clause-fits c =
    fits_from_length _ _ max_slots _ (at_most_from_yields_List (YieldsList-from_range 0 c.args.count c.args.count (cc) (omega arith)) (rw length-range_with_len c.requires.1)) c.map.ensures.closure (omega arith) (λ x r q k. search (rules, tests))

pub returns : goal.returns
returns c =
    let a = c.args in
    let starts = fields_at 4 a.file.now a.starts (a.n + 1) in
    sum_by_from_yields_List (λ i. length_in starts (le 2 (payload a.file.now) (a.index + 2 * i))) (range_with_len 0 a.count) c.map.result _ c.sum.ensures.ran
    (YieldsList-from_map _ (λ i. length_in starts (le 2 (payload a.file.now) (a.index + 2 * i))) (YieldsList-from_range 0 a.count a.count (cc) (omega arith)) c.map.ensures.closure (λ x r q k. search (rules, tests)))
    ∙ products-at a.file.now starts a.index a.count
