use Rattle.std.proofs.Common.{ap}
use mathlib.Core.Bool.{not}
use Rattle.matrix.specs.ListsLaws.{range-of}
use Rattle.matrix_file.proofs.CallLaws.{ask-1, ask-18, ask-2, ask-pass}
use native.Mathlib.Omega.{arith}
use Rattle.matrix_file.proofs.ask_write.Goals as goal

pub returns-then-not-rows_within : goal.returns-then-not-rows_within
returns-then-not-rows_within c = ask-1 _ _ _ _ _ _ _ _ _ c.rows_within.ensures (ap not c.if-not-rows_within.true)

pub returns-then-e-gt-MAX_ENTRIES : goal.returns-then-e-gt-MAX_ENTRIES
returns-then-e-gt-MAX_ENTRIES c = ask-18 _ _ _ _ _ _ _ _ _ c.rows_within.ensures (ap not c.if-not-rows_within.false) c.if-e-gt-MAX_ENTRIES.true

pub lengths_right-requires : goal.lengths_right-requires
lengths_right-requires c = range-of _ _ c.rows_within.ensures (ap not c.if-not-rows_within.false)

pub overflow_mul-n : goal.overflow_mul-n
overflow_mul-n c = omega (arith, range-of c.args.n _ c.rows_within.ensures (ap not c.if-not-rows_within.false))

pub overflow_add-n : goal.overflow_add-n
overflow_add-n c = omega (arith, range-of c.args.n _ c.rows_within.ensures (ap not c.if-not-rows_within.false))

pub overflow_add-n-2 : goal.overflow_add-n-2
overflow_add-n-2 c = omega (arith, range-of c.args.n _ c.rows_within.ensures (ap not c.if-not-rows_within.false))

pub overflow_add-n-3 : goal.overflow_add-n-3
overflow_add-n-3 c = omega (arith, range-of c.args.n _ c.rows_within.ensures (ap not c.if-not-rows_within.false))

pub overflow_mul-n-2 : goal.overflow_mul-n-2
overflow_mul-n-2 c = omega (arith, range-of c.args.n _ c.rows_within.ensures (ap not c.if-not-rows_within.false))

pub returns-then-lengths_right-len : goal.returns-then-lengths_right-len
returns-then-lengths_right-len c = ask-pass _ _ _ _ _ _ _ _ _ c.rows_within.ensures (ap not c.if-not-rows_within.false) c.if-e-gt-MAX_ENTRIES.false _ c.lengths_right.ensures (ap not c.if-lengths_right-len.true)

pub returns : goal.returns
returns c = ask-2 _ _ _ _ _ _ _ _ _ c.rows_within.ensures (ap not c.if-not-rows_within.false) c.if-e-gt-MAX_ENTRIES.false _ c.lengths_right.ensures (ap not c.if-lengths_right-len.false)
