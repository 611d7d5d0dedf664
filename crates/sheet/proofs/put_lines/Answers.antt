use Rattle.std.proofs.Common.{◌≡◌, arith}
use Rattle.sheet.proofs.Laws.{lines_start, lines_more}
use Rattle.sheet.proofs.put_lines.Goals as goal

pub loop-j-init : goal.loop-j-init
loop-j-init c = lines_start _ _ _ _

pub loop-j-preserved : goal.loop-j-preserved
loop-j-preserved c = lines_more _ _ _ _ c.loop-j.invariant c.put_place.ensures

pub returns : goal.returns
returns c = let e : c.loop-j.j ≡ 49 = omega arith in rw e at c.loop-j.invariant
