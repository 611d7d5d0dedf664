use Rattle.comparison.proofs.Lists.{side_same, side-differs}
use Rattle.comparison.specs.Comparing.{ListEnds, ListEndsIn, SideAtIn}
use Rattle.symbolic.proofs.Keeping.{told}
use Rattle.symbolic.proofs.Sides.{side-open, side-keep}
use Rattle.symbolic.specs.Places.{pattern_of, OpenEnds, RowFound}
use Rattle.base.specs.Tests.{and_left}
use Rattle.matrix.specs.Input.{pattern_by}
use Rattle.symbolic.specs.declared.OpenRow.{OpenRow}
use Rattle.std.specs.Prelude.{Some}
use mathlib.Core.Path.{◌≡◌}
use mathlib.Core.List.{List}
use Prim.Native.Nat.{ℕ}
use Rattle.comparison.proofs.Presented.compare_side.Goals as goal
use Rattle.comparison.proofs.Presented.compare_side.Goals.{After-compare_list, After-open_place}

pub open_place-requires : goal.open_place-requires
open_place-requires c = let d = c.requires in record { order = d.order; lists = _; due = side-open d.due }

-- what opening tells
opens : (p : After-open_place) (c : List ℕ) → let a = p.args in
    SideAtIn a.way a.side a.input c a.self a.k.0 a.stamp a.window a.marks.now a.e
    →
    OpenEnds a.side (pattern_by a.input c) a.k.0 a.stamp a.marks.now p.open_place.new.marks p.open_place.result
opens p c h = p.open_place.ensures c _ (side-open h)

pub returns-in_err-row : goal.returns-in_err-row
returns-in_err-row c = λ o h.
    rw c.from_residual.ensures (and_left _ _ (told (OpenEnds _ _ _ _ _ _) c.in_err-row.was (opens (goal.at.returns-in_err-row c).After-open_place o h)))

found : (p : After-open_place) (row : OpenRow) → p.open_place.result ≡ Some row → (c : List ℕ) → let a = p.args in
    SideAtIn a.way a.side a.input c a.self a.k.0 a.stamp a.window a.marks.now a.e
    →
    RowFound a.side (pattern_by a.input c) a.k.0 a.stamp a.marks.now p.open_place.new.marks row
found p row is c h = told (OpenEnds _ _ _ _ _ _) is (opens p c h)

pub compare_list-requires : goal.compare_list-requires
compare_list-requires c =
    let d = c.requires in
    record { pattern = _; stamp = _; keep = side-keep d.due (found (goal.at.compare_list-requires c).After-open_place _ c.in_ok-row.was d.order d.due) _ c.cuts_of-cuts.ensures }

-- what comparing T(k) tells
compares : (w : After-compare_list) (c : List ℕ) → let a = w.args in
    SideAtIn a.way a.side a.input c a.self a.k.0 a.stamp a.window a.marks.now a.e
    →
    ListEndsIn a.way (pattern_of a.side (pattern_by a.input c)) a.input.n a.k.0 w.cuts_of-cuts.result a.self w.open_place.new.marks w.compare_list.new.marks w.compare_list.result
compares w c h = w.compare_list.ensures _ _ (side-keep h (told (OpenEnds _ _ _ _ _ _) w.in_ok-row.was (w.open_place.ensures c _ (side-open h))) _ w.cuts_of-cuts.ensures)

pub returns-in_err-extent : goal.returns-in_err-extent
returns-in_err-extent c =
    λ o h.
    rw c.from_residual-in_err-extent.ensures (side-differs _ _ (found (goal.at.returns-in_err-extent c).After-open_place _ c.in_ok-row.was o h).diagonal (told (ListEnds _ _ _ _ _ _ _ _ _ _ _) c.in_err-extent.was (compares (goal.at.returns-in_err-extent c).After-compare_list o h)))

pub returns : goal.returns
returns c =
    λ o h.
    side_same h (found (goal.at.returns c).After-open_place _ c.in_ok-row.was o h) _ c.cuts_of-cuts.ensures (told (ListEnds _ _ _ _ _ _ _ _ _ _ _) c.in_ok-extent.was (compares (goal.at.returns c).After-compare_list o h)) c.compare_list.auto.marks
