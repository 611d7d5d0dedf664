use Rattle.matrix.specs.Questions.{bad_start}
use Prim.Native.Nat.{◌+◌}
use native.Mathlib.Omega.{arith}
use borrow.Author.Rules.{rules}
use Rattle.questions.proofs.start_bad.Goals as goal

pub overflow_cast-result : goal.overflow_cast-result
overflow_cast-result c = omega (arith, c.shared_slice_known-2-1.given (c.args.i.0 + 1))

pub returns : goal.returns
unfolding bad_start
returns c = search rules
