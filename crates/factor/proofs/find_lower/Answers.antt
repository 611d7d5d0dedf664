use Rattle.factor.specs.FindLaws.{base-at, close-parts, close-blocks, cut_members, found}
use Rattle.marks.specs.MarkLaws.{room-kept}
use Rattle.factor.proofs.find_lower.Goals as goal

pub load_row_place-requires : goal.load_row_place-requires
load_row_place-requires c =
    let F = c.requires.1 in
    record { bounds = (F.own-place, F.room); list_in = F.row; below = F.columns-below; order = F.inverse }

pub close_place-below-requires : goal.close_place-below-requires
close_place-below-requires c =
    let F = c.requires.1 in
    let l = c.load_row_place in
    record { parts = close-parts F l.ensures l.auto.marks; bounds = (F.place, base-at _, room-kept _ _ _ l.auto.marks F.room); blocks = close-blocks F l.ensures l.auto.marks }

pub renew_cuts-requires : goal.renew_cuts-requires
renew_cuts-requires c =
    let F = c.requires.1 in
    let l = c.load_row_place in
    let q = c.close_place-below in record { lists = F.store.read; bounds = (F.place, base-at _, room-kept c.args.input.n l.new.marks q.new.marks q.auto.marks (room-kept c.args.input.n c.args.marks.now l.new.marks l.auto.marks F.room)); walk = record { stamp = _; list = cut_members F l.ensures l.auto.marks q.ensures q.auto.marks } }

pub returns : goal.returns
returns c P F =
    let l = c.load_row_place in
    let q = c.close_place-below in
    let e = c.renew_cuts in
    found F l.ensures l.auto.marks q.ensures q.auto.marks (e.ensures _ (cut_members F l.ensures l.auto.marks q.ensures q.auto.marks)) e.auto.marks
