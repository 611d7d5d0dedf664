use mathlib.Core.Path.{◌∙◌}
use lib.Ieee.{of_bits}
use lib.ListN.{length}
use Rattle.load.specs.Load.{one}
use Rattle.load.proofs.DrawLaws.{table-same}
use Rattle.load.proofs.ones.Goals as goal

pub returns : goal.returns
unfolding of_bits
returns c = c.fill.ensures.after (λ y e. e) ∙ table-same one (length c.args.b.now)
