use mathlib.Core.List.{[]}
use Prim.Native.Nat.{◌≤◌}
use Rattle.base.specs.Limits.{max_rows}
use Rattle.matrix.specs.Input.{Input, input_of}
use Rattle.resolve.specs.AgainLaws.{few-of, shape-rows, shape-pass, shape-lengths}
use Rattle.resolve.proofs.ask_shape.Goals as goal
use Rattle.resolve.proofs.ask_shape.Goals.{Start, Then-rows_within}

abbrev given : Start → Input
given s = let a = s.args in input_of a.n [] [] [] a.r.now a.c.now a.b.now

few : (c : Then-rows_within) → c.args.n ≤ max_rows
few c = few-of c.args.form (let a = c.args in input_of a.n [] [] [] a.r.now a.c.now a.b.now) c.args.sizes _ c.rows_within.ensures c.if-rows_within.true

pub returns-then-right-lists : goal.returns-then-right-lists
returns-then-right-lists c =
    shape-pass c.args.form (given (goal.at.returns-then-right-lists c).Start) c.args.sizes _ c.rows_within.ensures c.if-rows_within.true _ _ _ _ c.right_fits-right.ensures c.sides_fit-lists.ensures c.vectors_fit-vectors.ensures
    c.scratch_fits-slots.ensures c.if-right-lists.true

pub returns-then-rows_within : goal.returns-then-rows_within
returns-then-rows_within c =
    shape-lengths c.args.form (given (goal.at.returns-then-rows_within c).Start) c.args.sizes _ c.rows_within.ensures c.if-rows_within.true _ _ _ _ c.right_fits-right.ensures c.sides_fit-lists.ensures c.vectors_fit-vectors.ensures
    c.scratch_fits-slots.ensures c.if-right-lists.false

pub returns : goal.returns
returns c = shape-rows c.args.form (given (goal.at.returns c).Start) c.args.sizes _ c.rows_within.ensures c.if-rows_within.false

pub sides_fit-lists-requires : goal.sides_fit-lists-requires
sides_fit-lists-requires c = few (goal.at.sides_fit-lists-requires c).Then-rows_within

pub scratch_fits-slots-requires : goal.scratch_fits-slots-requires
scratch_fits-slots-requires c = few (goal.at.scratch_fits-slots-requires c).Then-rows_within
