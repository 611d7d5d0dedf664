use mathlib.Core.Path.{refl, ◌∙◌}
use Rattle.base.specs.FirstLaws.{passed-on}
use mathlib.Core.Bool.{Bool, true, false}
use mathlib.Core.List.{List, ◌++◌}
use Rattle.matrix.specs.Input.{Input, lent_pattern}
use Rattle.outcome.specs.Buffers.{pattern_tests, structure_tests}
use Rattle.outcome.proofs.Making.{made-few, made-stop, made-on}
use Rattle.stages.specs.LengthLaws.{structure-tests}
use Rattle.stages.proofs.shape_structure.Goals as goal
use Rattle.stages.proofs.shape_structure.Goals.{Start}

abbrev given : Start → Input
given s = lent_pattern s.args.input

abbrev asked : Start → List Bool
asked s = pattern_tests (given s) ++ structure_tests s.args.form s.args.input.n s.args.sizes

pub returns-in_err-new : goal.returns-in_err-new
returns-in_err-new c =
    passed-on _ _ c.from_residual.ensures.1 ∙ made-stop _ _ _ (asked (goal.at.returns-in_err-new c).Start) c.new.ensures _ c.in_err-new.was _ (structure-tests c.args.form (given (goal.at.returns-in_err-new c).Start) c.args.sizes _ _ _ refl refl refl)

pub returns-then-pattern-lists : goal.returns-then-pattern-lists
returns-then-pattern-lists c =
    made-on _ _ _ (asked (goal.at.returns-then-pattern-lists c).Start) c.new.ensures _ c.in_ok-new.was _ true
    (structure-tests c.args.form (given (goal.at.returns-then-pattern-lists c).Start) c.args.sizes _ _ _ c.pattern_fits-pattern.ensures c.sides_fit-lists.ensures c.scratch_fits-slots.ensures) c.if-pattern-lists.true

pub returns : goal.returns
returns c =
    made-on _ _ _ (asked (goal.at.returns c).Start) c.new.ensures _ c.in_ok-new.was _ false
    (structure-tests c.args.form (given (goal.at.returns c).Start) c.args.sizes _ _ _ c.pattern_fits-pattern.ensures c.sides_fit-lists.ensures c.scratch_fits-slots.ensures) c.if-pattern-lists.false

pub pattern_fits-pattern-requires : goal.pattern_fits-pattern-requires
pattern_fits-pattern-requires c = made-few _ _ _ _ c.new.ensures c.in_ok-new.was

pub sides_fit-lists-requires : goal.sides_fit-lists-requires
sides_fit-lists-requires c = made-few _ _ _ _ c.new.ensures c.in_ok-new.was

pub scratch_fits-slots-requires : goal.scratch_fits-slots-requires
scratch_fits-slots-requires c = made-few _ _ _ _ c.new.ensures c.in_ok-new.was
