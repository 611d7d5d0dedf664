use Rattle.std.specs.Prelude.{None}
use mathlib.Core.Path.{◌≡◌}
use Rattle.base.specs.First.{first}
use Rattle.base.specs.declared.Form.TheVariants.{Plain}
use Rattle.outcome.specs.Resolve.{bad_at}
use Rattle.factor_contents.specs.FactorFile.{lists_at}
use Rattle.factor_contents.specs.Judging.{presented_lists}
use Rattle.factor_contents.proofs.ask_lists_in.Given as goal

abbrev pub invariant-loop-k : goal.invariant-loop-k
invariant-loop-k l = first (bad_at Plain l.n (presented_lists (lists_at l.file l.n l.lower l.upper))) l.k ≡ None
