use mathlib.Core.Path.{refl, ◌∙◌}
use Prim.Native.Nat.{◌+◌, ◌*◌}
use native.Mathlib.Omega.{arith}
use lib.Ieee.{binary64, of_bits}
use lib.Ieee.Scale.{finite}
use Rattle.std.proofs.Common.{rules, tests}
use Rattle.std.proofs.lemmas.Iterator.{YieldsList-from_range}
use Rattle.std.proofs.lemmas.Iterator.Search.{all_from_yields_List}
use Rattle.fields.specs.Numbers.{le}
use Rattle.fields.specs.Payload.{payload}
use Rattle.factor_contents.proofs.JudgingLaws.{finite-all-at}
use Rattle.factor_contents.proofs.finite_at.Goals as goal

pub returns : goal.returns
returns c =
    all_from_yields_List (λ i. finite (of_bits binary64 (le 8 (payload c.args.file.now) (c.args.at + 8 * i)))) _ _ _ c.all.ensures.ran (YieldsList-from_range 0 c.args.count c.args.count refl (omega arith)) (λ x b q k. search (rules, tests))
    ∙ finite-all-at c.args.file.now c.args.at c.args.count
