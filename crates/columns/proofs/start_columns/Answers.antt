use Rattle.columns.proofs.WindowLaws.{started}
use Rattle.columns.proofs.Keeps.{order-kept, given-kept}
use Rattle.columns.proofs.start_columns.Goals as goal

pub count_columns-requires-clause-given : goal.count_columns-requires-clause-given
count_columns-requires-clause-given c =
    let t = c.clear_counts.ensures.kept in
    given-kept t.size (order-kept _ 0 _ t) c.requires

pub returns : goal.returns
returns c =
    started _ _ _ _ c.clear_counts.ensures c.count_columns.ensures
