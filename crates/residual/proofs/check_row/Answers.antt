use mathlib.Core.Bool.{true, false}
use Rattle.matrix.specs.Input.{Input}
use Rattle.residual.specs.Lent.{lent_matrix, Fits}
use mathlib.Core.Path.{subst}
use Rattle.std.proofs.Common.{rules}
use Rattle.residual.proofs.Rows.{few, row-lent, row_is}
use Rattle.residual.proofs.check_row.Goals as goal
use Rattle.residual.proofs.check_row.Goals.{Start}

abbrev given : Start → Input
given s = lent_matrix s.args.input

pub sum_up-s-requires : goal.sum_up-s-requires
sum_up-s-requires c = row-lent (given (goal.at.sum_up-s-requires c).Start) _ _ c.requires _ c.row_columns-own.ensures _ c.row_values-entries.ensures

pub width_of-w-requires : goal.width_of-w-requires
width_of-w-requires c = few (given (goal.at.width_of-w-requires c).Start) _ _ c.requires _ c.row_columns-own.ensures

pub returns-then-is_finite : goal.returns-then-is_finite
returns-then-is_finite c = (
  row_is (given (goal.at.returns-then-is_finite c).Start) _ _ c.requires _ c.row_columns-own.ensures _ c.row_values-entries.ensures _ _ _ _ _ _ c.row_right-right.ensures c.sum_up-s.ensures.0 c.sum_up-s.ensures.1
      c.width_of-w.ensures c.is_finite.ensures c.is_finite-2.ensures true c.if-is_finite.true,
  record { values = subst Fits c.row_values-entries.ensures (search rules); right = rw (← c.row_right-right.ensures) c.row_right-right.type_inv },
)

pub returns : goal.returns
returns c = (
  row_is (given (goal.at.returns c).Start) _ _ c.requires _ c.row_columns-own.ensures _ c.row_values-entries.ensures _ _ _ _ _ _ c.row_right-right.ensures c.sum_up-s.ensures.0 c.sum_up-s.ensures.1
      c.width_of-w.ensures c.is_finite.ensures c.is_finite-2.ensures false c.if-is_finite.false,
  record { values = subst Fits c.row_values-entries.ensures (search rules); right = rw (← c.row_right-right.ensures) c.row_right-right.type_inv },
)
