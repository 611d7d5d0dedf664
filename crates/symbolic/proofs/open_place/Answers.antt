use Rattle.symbolic.proofs.Opening.{open-given, loaded-room, loaded-marks, loaded-parts, closed-marks, closed-short, row-found, base-of, base-at, parts_at, closing_at}
use Rattle.symbolic.specs.Places.{pattern_of, cuts_of, Open}
use Rattle.fill.specs.Fill.{filled}
use Rattle.matrix.specs.Input.{pattern_by}
use Rattle.marks.specs.Rows.{Closing}
use Rattle.marks.specs.Marks.{Room, Holds}
use Rattle.marks.specs.MarkLaws.{room-kept}
use mathlib.Core.Path.{sym, ◌∙◌}
use mathlib.Core.List.{List}
use Prim.Native.Nat.{ℕ}
use native.Mathlib.Omega.{arith}
use Rattle.symbolic.proofs.open_place.Goals as goal
use Rattle.symbolic.proofs.open_place.Goals.{After-close_place-below}

pub load-end-requires : goal.load-end-requires
load-end-requires c =
    let o = c.requires.due in
    record { given = open-given _ (pattern_by c.args.input c.requires.order) _ _ _ _ _ _ _ o; side_ready = o.ready; place = o.below }

pub close_place-below-requires : goal.close_place-below-requires
close_place-below-requires c =
    let e = c.cuts_of-cuts.ensures in
    let o = c.requires.due in
    let i = pattern_by c.args.input c.requires.order in record {
      parts = parts_at _ _ _ _ _ _ _ e (loaded-parts _ i _ _ _ _ _ _ _ o _ _ c.load-end.ensures);
      bounds = (o.below, base-at _ _ _ e (base-of c.args.side c.args.input.n), loaded-room _ i _ _ _ _ _ _ _ o _ _ c.load-end.ensures);
      blocks = (loaded-marks _ i _ _ _ _ _ _ _ o _ _ c.load-end.ensures).blocks;
    }

-- the place is closed over the lists before it
closing : (p : After-close_place-below) → let s = p.args in
    Closing s.input.n s.stamp s.k.0 (cuts_of s.side s.input.n) s.runs.now s.index.now p.load-end.new.marks p.close_place-below.new.marks p.close_place-below.result
closing p = closing_at _ _ _ _ _ _ _ _ _ _ p.cuts_of-cuts.ensures p.close_place-below.ensures

-- scratch has its regions
room : (p : After-close_place-below) → Room p.args.input.n p.close_place-below.new.marks
room p =
    room-kept _ _ _ p.close_place-below.auto.marks (loaded-room _ (pattern_by p.args.input p.requires.order) _ _ _ _ _ _ _ p.requires.due _ _ p.load-end.ensures)

-- the marks are row k of the fill, for the column order and the list starts that the caller has
filled_row : (p : After-close_place-below) (order lists : List ℕ) → let s = p.args in
    Open s.side (pattern_by p.args.input order) s.k.0 s.stamp s.window lists s.runs.now s.index.now s.marks.now
    → Holds s.input.n s.stamp p.close_place-below.new.marks (filled (pattern_of s.side (pattern_by p.args.input order)) s.k.0)
filled_row p order lists o = closed-marks _ (pattern_by p.args.input order) _ _ _ _ _ _ _ o _ _ p.load-end.ensures _ _ (closing p)

pub has_diagonal-requires : goal.has_diagonal-requires
has_diagonal-requires c =
    omega (arith, (room (goal.at.has_diagonal-requires c).After-close_place-below).long, c.requires.due.below)

pub list_upper-above-requires : goal.list_upper-above-requires
list_upper-above-requires c =
    let o = c.requires.due in
    record { bounds = (o.below, closed-short _ (pattern_by c.args.input c.requires.order) _ _ _ _ _ _ _ o _ _ c.load-end.ensures _ _ (closing (goal.at.list_upper-above-requires c).After-close_place-below), room (goal.at.list_upper-above-requires c).After-close_place-below); blocks = (filled_row (goal.at.list_upper-above-requires c).After-close_place-below c.requires.order c.requires.lists o).blocks }

pub returns-then-has_diagonal : goal.returns-then-has_diagonal
returns-then-has_diagonal c =
    λ order lists o.
    let i = pattern_by c.args.input order in
    let h = filled_row (goal.at.returns-then-has_diagonal c).After-close_place-below order lists o in
    row-found _ i _ _ _ _ _ _ _ o _ _ c.load-end.ensures _ _ (closing (goal.at.returns-then-has_diagonal c).After-close_place-below) _ (c.list_upper-above.auto.marks ∙ c.close_place-below.auto.marks) _ (c.list_upper-above.ensures (pattern_of c.args.side i) h)
    (sym (c.has_diagonal.ensures.filled c.args.input.n (pattern_of c.args.side i) o.below h) ∙ c.if-has_diagonal.true)

pub returns : goal.returns
returns c =
    λ order lists o. sym (c.has_diagonal.ensures.filled c.args.input.n (pattern_of c.args.side (pattern_by c.args.input order)) o.below (filled_row (goal.at.returns c).After-close_place-below order lists o)) ∙ c.if-has_diagonal.false
