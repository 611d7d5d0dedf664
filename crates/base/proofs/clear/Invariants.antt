use Rattle.std.proofs.Common.{◌≡◌}
use Rattle.base.specs.ZerosLaws.{filling}
use Rattle.base.proofs.clear.Given as goal

abbrev pub invariant-loop-x : goal.invariant-loop-x
invariant-loop-x g l = l.s ≡ filling g.T.Zero.nil l.initial.s l.x-index
