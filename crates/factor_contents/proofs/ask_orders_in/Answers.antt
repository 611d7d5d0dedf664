use native.Mathlib.Omega.{arith}
use mathlib.Core.Path.{sym}
use Rattle.factor_contents.proofs.CallLaws.{part-long}
use Rattle.factor_contents.proofs.ask_orders_in.Goals as goal

pub slice_bounds-ask_copies-end : goal.slice_bounds-ask_copies-end
slice_bounds-ask_copies-end c = part-long _ _ _ c.order-rows.ensures (omega arith)

pub slice_bounds-ask_copies-end-2 : goal.slice_bounds-ask_copies-end-2
slice_bounds-ask_copies-end-2 c = part-long _ _ _ c.order-columns.ensures (omega arith)

pub ask_copies-requires : goal.ask_copies-requires
ask_copies-requires c =
    let h = c.requires in
    (h.0, h.1, h.2, sym (part-long _ _ _ c.order-rows.ensures (omega arith)), sym (part-long _ _ _ c.order-columns.ensures (omega arith)), omega arith)
