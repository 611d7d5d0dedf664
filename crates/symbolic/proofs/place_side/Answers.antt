use Rattle.symbolic.proofs.Sides.{side-open, side-keep, side-next}
use Rattle.symbolic.proofs.Keeping.{told}
use Rattle.symbolic.specs.Places.{pattern_of, OpenEnds, RowFound, KeepEnds, SideAt}
use Rattle.storing.specs.declared.Way.TheVariants.{Sharing}
use Rattle.matrix.specs.Input.{pattern_by}
use mathlib.Core.List.{List}
use Prim.Native.Nat.{ℕ}
use mathlib.Core.Path.{◌≡◌}
use Rattle.symbolic.specs.declared.OpenRow.{OpenRow}
use Rattle.std.specs.Prelude.{Some}
use Rattle.symbolic.proofs.place_side.Goals as goal
use Rattle.symbolic.proofs.place_side.Goals.{After-open_place-opened, After-share_list-put}

pub open_place-opened-requires : goal.open_place-opened-requires
open_place-opened-requires c = let d = c.requires in record { order = d.order; lists = _; due = side-open d.due }

-- what opening tells
opens : (p : After-open_place-opened) (c store : List ℕ) → let a = p.args in
    SideAt Sharing a.side (pattern_by a.input c) store a.side_values a.k.0 a.stamp a.window a.side_starts.now a.side_runs.now a.side_index.now a.marks.now a.e
    →
    OpenEnds a.side (pattern_by p.args.input c) a.k.0 a.stamp a.marks.now p.open_place-opened.new.marks p.open_place-opened.result
opens p c store h = p.open_place-opened.ensures c _ (side-open h)

pub returns-in_default : goal.returns-in_default
returns-in_default c = λ o store h. told (OpenEnds _ _ _ _ _ _) c.in_default.is (opens (goal.at.returns-in_default c).After-open_place-opened o store h)

-- what the row that is found tells
found : (p : After-open_place-opened) (row : OpenRow) → p.open_place-opened.result ≡ Some row → (c store : List ℕ) → let a = p.args in
    SideAt Sharing a.side (pattern_by a.input c) store a.side_values a.k.0 a.stamp a.window a.side_starts.now a.side_runs.now a.side_index.now a.marks.now a.e
    →
    RowFound a.side (pattern_by a.input c) a.k.0 a.stamp a.marks.now p.open_place-opened.new.marks row
found p row is c store h = told (OpenEnds _ _ _ _ _ _) is (opens p c store h)

pub share_list-put-requires : goal.share_list-put-requires
share_list-put-requires c =
    let d = c.requires in
    record { pattern = _; store = d.store; stamp = _; keep = side-keep d.due (found (goal.at.share_list-put-requires c).After-open_place-opened _ c.in-Some.is d.order d.store d.due) _ c.cuts_of-cuts.ensures }

-- what keeping T(k) tells
keeps : (w : After-share_list-put) (c store : List ℕ) → let a = w.args in SideAt Sharing a.side (pattern_by a.input c) store a.side_values a.k.0 a.stamp a.window a.side_starts.now a.side_runs.now a.side_index.now a.marks.now a.e
    → let r = w.share_list-put in
    KeepEnds Sharing (pattern_of a.side (pattern_by a.input c)) a.input.n a.k.0 w.cuts_of-cuts.result store a.side_values r.new.starts r.new.runs r.new.index w.open_place-opened.new.marks r.new.marks r.result
keeps w c store h = w.share_list-put.ensures _ store _ (side-keep h (told (OpenEnds _ _ _ _ _ _) w.in-Some.is (w.open_place-opened.ensures c _ (side-open h))) _ w.cuts_of-cuts.ensures)

pub returns-in_default-put : goal.returns-in_default-put
returns-in_default-put c =
    λ o store h. ((found (goal.at.returns-in_default-put c).After-open_place-opened _ c.in-Some.is o store h).diagonal, told (KeepEnds Sharing _ _ _ _ _ _ _ _ _ _ _) c.in_default-put.is (keeps (goal.at.returns-in_default-put c).After-share_list-put o store h))

pub returns : goal.returns
returns c =
    λ o store h.
    side-next h (found (goal.at.returns c).After-open_place-opened _ c.in-Some.is o store h) _ c.cuts_of-cuts.ensures (told (KeepEnds Sharing _ _ _ _ _ _ _ _ _ _ _) c.in-Some-put.is (keeps (goal.at.returns c).After-share_list-put o store h)) c.share_list-put.auto.marks
