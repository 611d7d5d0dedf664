use Rattle.columns.proofs.WindowLaws.{loaded, window-list}
use Rattle.columns.proofs.load_column.Goals as goal

pub returns : goal.returns
returns c =
    let e = c.window_at-end.ensures in
    loaded c.requires.given.space e (c.stamp_list.ensures _ (window-list e c.slot-head.ensures.0))
