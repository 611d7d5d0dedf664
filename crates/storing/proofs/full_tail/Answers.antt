use native.Mathlib.Omega.{arith}
use lib.ListN.{length, get_or}
use Rattle.base.specs.FirstLaws.{first-zero, scan-hit, scan-more}
use Rattle.base.specs.AscLaws.{mem-at}
use Rattle.storing.specs.Slices.{full_at}
use Rattle.storing.proofs.full_tail.Goals as goal

pub loop-j-init : goal.loop-j-init
loop-j-init c = let a = c.args in first-zero (full_at a.starts.now a.runs.now a.slots.now a.k.0 a.count a.row.now)

pub has_tail-requires : goal.has_tail-requires
has_tail-requires c =
    record { tailed = c.requires.all_tailed (get_or c.args.row.now c.loop-j.j 0) (mem-at c.args.row.now c.loop-j.j (omega arith)); count_nonzero = c.requires.count_nonzero }

pub returns-then-has_tail : goal.returns-then-has_tail
unfolding full_at
returns-then-has_tail c =
    let a = c.args in
    scan-hit (full_at a.starts.now a.runs.now a.slots.now a.k.0 a.count a.row.now) c.has_tail.result c.loop-j.j (length a.row.now) (omega arith) c.loop-j.invariant c.has_tail.ensures c.if-has_tail.true

pub loop-j-preserved : goal.loop-j-preserved
unfolding full_at
loop-j-preserved c =
    let a = c.args in
    scan-more (full_at a.starts.now a.runs.now a.slots.now a.k.0 a.count a.row.now) c.has_tail.result c.loop-j.j c.loop-j.invariant c.has_tail.ensures c.if-has_tail.false
