use Rattle.std.proofs.Common.{ap}
use mathlib.Core.Bool.{not}
use native.Mathlib.Omega.{arith}
use Rattle.matrix.specs.ListsLaws.{range-of}
use Rattle.blocks.proofs.AskLaws.{then-no, then-yes, holds-no, holds-yes}
use Rattle.factor_contents.specs.FactorFile.{ask_head}
use Rattle.factor_reading.proofs.ask_head.Goals as goal

pub returns-then-not-rows_within : goal.returns-then-not-rows_within
unfolding ask_head
returns-then-not-rows_within c = then-no _ _ _ _ c.rows_within.ensures (ap not c.if-not-rows_within.true)

pub ends_right-requires : goal.ends_right-requires
ends_right-requires c = let h = range-of _ _ c.rows_within.ensures (ap not c.if-not-rows_within.false) in (h, omega arith, omega arith)

pub returns-then-not-ends_right : goal.returns-then-not-ends_right
unfolding ask_head
returns-then-not-ends_right c = then-yes _ _ _ _ _ c.rows_within.ensures (ap not c.if-not-rows_within.false) (holds-no _ _ _ c.ends_right.ensures (ap not c.if-not-ends_right.true))

pub returns : goal.returns
unfolding ask_head
returns c = then-yes _ _ _ _ _ c.rows_within.ensures (ap not c.if-not-rows_within.false) (holds-yes _ _ _ c.ends_right.ensures (ap not c.if-not-ends_right.false))
