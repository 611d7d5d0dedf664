use Rattle.std.proofs.Common.{ap}
use mathlib.Core.Bool.{not}
use native.Mathlib.Omega.{arith}
use Rattle.matrix.specs.ListsLaws.{range-of}
use Rattle.fill_sheet.proofs.Call.{length-within, length-beyond}
use Rattle.fill_sheet.proofs.wrong_length.Goals as goal

pub returns-then-not-rows_within : goal.returns-then-not-rows_within
returns-then-not-rows_within c = length-beyond c.args.n c.args.len _ c.rows_within.ensures (ap not c.if-not-rows_within.true)

pub pages-requires : goal.pages-requires
pages-requires c = range-of c.args.n _ c.rows_within.ensures (ap not c.if-not-rows_within.false)

pub overflow_mul-result : goal.overflow_mul-result
overflow_mul-result c =
    let few = range-of c.args.n _ c.rows_within.ensures (ap not c.if-not-rows_within.false) in
    record { fits = omega (arith, few, c.pages.ensures) }

pub returns : goal.returns
returns c =
    length-within c.args.n c.args.len _ c.rows_within.ensures (ap not c.if-not-rows_within.false) _ c.pages.ensures
