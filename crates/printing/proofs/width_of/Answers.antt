use Rattle.std.proofs.Common.{sym, arith}
use Rattle.printing.proofs.Laws.{width-between}
use Rattle.printing.proofs.width_of.Goals as goal

pub returns : goal.returns
returns c =
    let p = c.ilog10.ensures in
    let m = c.max.ensures in
    (sym (width-between 20 c.ilog10.result c.args.x p.bound (rw m at p.power_le) (omega (arith, m, p.next_power_gt))), omega (arith, p.bound))
