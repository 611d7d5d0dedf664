use Rattle.columns.proofs.WindowLaws.{window-fits, window-made}
use Rattle.columns.proofs.Keeps.{order-kept, given-kept, rows_same}
use native.Mathlib.Omega.{arith}
use Rattle.columns.proofs.window_at.Goals as goal

pub fill_window-requires-clause-given : goal.fill_window-requires-clause-given
fill_window-requires-clause-given c =
    let e = c.open_window-end.ensures.kept in
    given-kept e.size (order-kept c.args.input.n _ _ e) c.requires.given

pub fill_window-requires-clause-fits : goal.fill_window-requires-clause-fits
fill_window-requires-clause-fits c =
    let e = c.open_window-end.ensures in
    (e.most, window-fits (rows_same _ _ _ _ _ _ (order-kept c.args.input.n _ _ e.kept)) (omega arith) c.requires.ready e)

pub returns : goal.returns
returns c =
    let e = c.open_window-end.ensures in
    window-made _ _ _ _ _ _ (rows_same _ _ _ _ _ _ (order-kept c.args.input.n _ _ e.kept)) c.requires.place (omega arith) c.requires.ready e c.fill_window.ensures
