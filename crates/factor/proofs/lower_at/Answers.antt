use Rattle.factor.specs.Factoring.{LowerAsked, LowerGiven}
use Rattle.factor.specs.FormLaws.{asked-as, given-as}
use mathlib.Core.Bool.{true, false}
use Rattle.factor.proofs.lower_at.Goals as goal

pub lower_plain-requires : goal.lower_plain-requires
unfolding LowerAsked
lower_plain-requires c = asked-as c.args.form _ _ _ _ _ _ _ c.reads_lower.result true c.reads_lower.ensures c.if-reads_lower.true c.requires

pub returns-then-reads_lower : goal.returns-then-reads_lower
unfolding LowerGiven
returns-then-reads_lower c = given-as c.args.form _ _ _ _ _ _ _ _ _ c.reads_lower.result true c.reads_lower.ensures c.if-reads_lower.true c.lower_plain.ensures

pub find_lower-requires : goal.find_lower-requires
unfolding LowerAsked
find_lower-requires c = asked-as c.args.form _ _ _ _ _ _ _ c.reads_lower.result false c.reads_lower.ensures c.if-reads_lower.false c.requires

pub returns : goal.returns
unfolding LowerGiven
returns c = given-as c.args.form _ _ _ _ _ _ _ _ _ c.reads_lower.result false c.reads_lower.ensures c.if-reads_lower.false c.find_lower.ensures
