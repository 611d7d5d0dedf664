use Rattle.program.proofs.Laws.{outcome-lines}
use native.Mathlib.Omega.{arith}
use lib.Ieee.{of_bits}
use Rattle.program.proofs.solve_into.Goals as goal

pub put_answer-requires : goal.put_answer-requires
put_answer-requires c = (c.requires.0, c.requires.1, omega (arith, c.requires.2, c.solve_plain-a.auto))

pub returns : goal.returns
unfolding of_bits
returns c = outcome-lines _ _ _ _ c.solve_plain-a.ensures c.put_answer.ensures
