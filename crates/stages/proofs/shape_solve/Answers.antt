use mathlib.Core.Path.{refl, ◌∙◌}
use Rattle.base.specs.FirstLaws.{passed-on}
use mathlib.Core.Bool.{Bool, true, false}
use mathlib.Core.List.{List, ◌++◌}
use Rattle.matrix.specs.Input.{Input, input_of}
use Rattle.outcome.specs.Buffers.{matrix_tests, buffer_tests}
use Rattle.outcome.specs.Solve.{shape}
use Rattle.outcome.proofs.Making.{made-few, made-stop, made-on}
use Rattle.stages.specs.LengthLaws.{solve-tests}
use Rattle.stages.proofs.shape_solve.Goals as goal
use Rattle.stages.proofs.shape_solve.Goals.{Start}

abbrev given : Start → Input
given s = let a = s.args.input in input_of a.n a.starts.now a.columns.now a.values.now a.r.now a.c.now a.b.now

abbrev asked : Start → List Bool
asked s = matrix_tests (given s) ++ buffer_tests s.args.form s.args.input.n s.args.sizes

pub returns-in_err-new : goal.returns-in_err-new
unfolding shape
returns-in_err-new c =
    passed-on _ _ c.from_residual.ensures.1 ∙ made-stop _ _ _ (asked (goal.at.returns-in_err-new c).Start) c.new.ensures _ c.in_err-new.was _ (solve-tests c.args.form (given (goal.at.returns-in_err-new c).Start) c.args.sizes _ _ _ refl refl refl _ _ refl refl)

pub returns-then-pattern-numbers : goal.returns-then-pattern-numbers
unfolding shape
returns-then-pattern-numbers c =
    made-on _ _ _ (asked (goal.at.returns-then-pattern-numbers c).Start) c.new.ensures _ c.in_ok-new.was _ true
    (solve-tests c.args.form (given (goal.at.returns-then-pattern-numbers c).Start) c.args.sizes _ _ _ c.pattern_fits-pattern.ensures c.sides_fit-lists.ensures c.scratch_fits-slots.ensures _ _ c.numbers_fit-numbers.ensures c.vectors_fit-vectors.ensures) c.if-pattern-numbers.true

pub returns : goal.returns
unfolding shape
returns c =
    made-on _ _ _ (asked (goal.at.returns c).Start) c.new.ensures _ c.in_ok-new.was _ false
    (solve-tests c.args.form (given (goal.at.returns c).Start) c.args.sizes _ _ _ c.pattern_fits-pattern.ensures c.sides_fit-lists.ensures c.scratch_fits-slots.ensures _ _ c.numbers_fit-numbers.ensures c.vectors_fit-vectors.ensures) c.if-pattern-numbers.false

pub pattern_fits-pattern-requires : goal.pattern_fits-pattern-requires
pattern_fits-pattern-requires c = made-few _ _ _ _ c.new.ensures c.in_ok-new.was

pub sides_fit-lists-requires : goal.sides_fit-lists-requires
sides_fit-lists-requires c = made-few _ _ _ _ c.new.ensures c.in_ok-new.was

pub scratch_fits-slots-requires : goal.scratch_fits-slots-requires
scratch_fits-slots-requires c = made-few _ _ _ _ c.new.ensures c.in_ok-new.was
