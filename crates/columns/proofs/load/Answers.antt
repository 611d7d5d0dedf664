use mathlib.Core.Path.{refl}
use Rattle.columns.proofs.SideLaws.{upper-loaded}
use Rattle.columns.proofs.Keeps.{row_is}
use Rattle.columns.proofs.load.Goals as goal

pub returns-in-Upper : goal.returns-in-Upper
returns-in-Upper c =
    upper-loaded _ _ _ c.args.k _ _ _ _ _ c.in-Upper.is (row_is c.args.input.n c.args.k _ _ c.args.input.r.now _ _ _ c.row_of-cols.ensures refl) c.load_row.ensures
