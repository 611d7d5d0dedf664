use Rattle.load.specs.Stores.{RowsDrawing}
use Rattle.load.proofs.draw_rows.Given as goal

abbrev pub invariant-loop-k : goal.invariant-loop-k
invariant-loop-k l = RowsDrawing l.n l.seed l.k l.d l.starts l.columns l.values
