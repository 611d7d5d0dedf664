use mathlib.Core.Path.{◌≡◌, ◌∙◌, ap}
use lib.ListN.{get_or}
use Rattle.base.specs.Lists.{row_of}
use Rattle.marks.specs.FillLaws.{loaded-is}
use Rattle.marks.proofs.load_row_place.Goals as goal
use Rattle.marks.proofs.load_row_place.Goals.{After-row_columns-cols}

-- the part is own row r(k)
part : (c : After-row_columns-cols)
    → c.row_columns-cols.result.now ≡ row_of c.args.starts.now c.args.columns.now (get_or c.args.r.now c.args.k.0 0)
part c = c.row_columns-cols.ensures ∙ ap (λ i. row_of c.args.starts.now c.args.columns.now i.0) c.own_row-i.ensures

pub returns : goal.returns
returns c =
    loaded-is _ _ _ _ _ _ _ _ (part (goal.at.returns c).After-row_columns-cols) c.requires.below c.requires.bounds.1 c.requires.order c.load_row.ensures
