use Rattle.columns.proofs.WindowLaws.{both-cleared}
use native.Mathlib.Omega.{arith}
use Rattle.columns.proofs.clear_counts.Goals as goal

pub returns : goal.returns
returns c =
    both-cleared c.args.n _ _ _ _ _ c.requires (omega arith) (omega arith) (c.fill.ensures.after (λ y e. e)) (c.fill-2.ensures.after (λ y e. e))
