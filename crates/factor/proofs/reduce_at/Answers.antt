use Rattle.factor.specs.SystemLaws.{row-reducible, row-lent, system-closed}
use Rattle.factor.specs.Factoring.{lent_lists, RowAt, RowReady}
use Rattle.factor.specs.TurnLaws.{row_room}
use Rattle.factor.proofs.Parts.{own-list, own-right}
use Rattle.outcome.specs.Solve.{system}
use Rattle.matrix.specs.Input.{lent_by}
use mathlib.Core.List.{List}
use Prim.Native.Nat.{ℕ}
use lib.ListN.{length}
use Rattle.factor.proofs.reduce_at.Goals as goal
use Rattle.factor.proofs.reduce_at.Goals.{After-lower_at-below}

-- the row once its lower row stands in the marks, for any column order that fits
stands : (c : After-lower_at-below) (o : List ℕ)
    → RowReady c.args.form (lent_by c.args.input o) (lent_lists c.args.lists)
    c.args.k.0 (length c.args.upper_values.now) (length c.args.work.now) c.args.marks.now
    → RowAt (lent_by c.args.input o) c.args.k.0 c.lower_at-below.result c.args.lists.upper_starts.now c.args.lists.upper_runs.now c.args.lists.upper_index.now
    c.lower_at-below.new.marks (length c.args.upper_values.now) (length c.args.work.now)
stands c o h = h.row c.lower_at-below.new.marks c.lower_at-below.result c.lower_at-below.auto.marks c.lower_at-below.ensures

here : (c : After-lower_at-below) → RowAt (lent_by c.args.input c.requires.0)
    c.args.k.0 c.lower_at-below.result c.args.lists.upper_starts.now c.args.lists.upper_runs.now c.args.lists.upper_index.now
    c.lower_at-below.new.marks (length c.args.upper_values.now) (length c.args.work.now)
here c = stands c c.requires.0 c.requires.1

pub row_columns-own-requires : goal.row_columns-own-requires
row_columns-own-requires c =
    let a = c.args in
    own-list a.input.r.now a.k c.own_row-row.result c.own_row-row.ensures a.input.starts.now _ (here (goal.at.row_columns-own-requires c).After-lower_at-below).columns

pub row_values-entries-requires : goal.row_values-entries-requires
row_values-entries-requires c =
    let a = c.args in
    own-list a.input.r.now a.k c.own_row-row.result c.own_row-row.ensures a.input.starts.now _ (here (goal.at.row_values-entries-requires c).After-lower_at-below).values

pub row_right-right-requires : goal.row_right-right-requires
row_right-right-requires c =
    let a = c.args in
    own-right a.input.r.now a.k c.own_row-row.result c.own_row-row.ensures _ (here (goal.at.row_right-right-requires c).After-lower_at-below).right

pub reduce_row-sums-requires : goal.reduce_row-sums-requires
reduce_row-sums-requires c =
    let a = c.args in
    row-reducible _ a.k.0 c.lower_at-below.result a.lists.upper_starts.now a.lists.upper_runs.now a.lists.upper_index.now c.lower_at-below.new.marks (length a.upper_values.now) (length a.work.now) (here (goal.at.reduce_row-sums-requires c).After-lower_at-below)
    c.own_row-row.result c.row_columns-own.result.now c.lower_part-lower.result.now c.row_values-entries.result.now c.row_right-right.result
    c.own_row-row.ensures c.row_columns-own.ensures c.row_values-entries.ensures c.row_right-right.ensures c.lower_part-lower.ensures

pub returns : goal.returns
returns c =
    let a = c.args in (
      c.lower_at-below.ensures,
      λ o rows h H.
          let i = (lent_by a.input o) in
          c.reduce_row-sums.ensures (system i) rows H
          (row-lent i a.k.0 c.lower_at-below.result a.lists.upper_starts.now a.lists.upper_runs.now a.lists.upper_index.now c.lower_at-below.new.marks (length a.upper_values.now) (length a.work.now) (stands (goal.at.returns c).After-lower_at-below o h)
          c.own_row-row.result c.row_columns-own.result.now c.lower_part-lower.result.now c.row_values-entries.result.now c.row_right-right.result
          c.own_row-row.ensures c.row_columns-own.ensures c.row_values-entries.ensures c.row_right-right.ensures c.lower_part-lower.ensures)
          (system-closed i a.k.0 (stands (goal.at.returns c).After-lower_at-below o h).place),
    )

pub lower_at-below-requires : goal.lower_at-below-requires
lower_at-below-requires c = c.requires.1.asked

pub lower_part-lower-requires : goal.lower_part-lower-requires
lower_part-lower-requires c = row_room (here (goal.at.lower_part-lower-requires c).After-lower_at-below)

pub own_row-row-requires : goal.own_row-row-requires
own_row-row-requires c = (here (goal.at.own_row-row-requires c).After-lower_at-below).own-place
