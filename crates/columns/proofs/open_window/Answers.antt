use Rattle.columns.proofs.WindowLaws.{open-start, open_more, open-stop}
use native.Mathlib.Omega.{arith}
use Rattle.columns.proofs.open_window.Goals as goal

pub loop-hi-init : goal.loop-hi-init
loop-hi-init c = open-start _ _ _ (omega arith)

pub returns-then-left-count : goal.returns-then-left-count
returns-then-left-count c =
    open-stop (omega arith) c.slot-count.ensures.0 (omega arith) c.loop-hi.invariant

pub loop-hi-preserved : goal.loop-hi-preserved
loop-hi-preserved c =
    open_more c.requires.room (omega arith) c.slot-count.ensures.0 (omega arith) c.loop-hi.invariant
