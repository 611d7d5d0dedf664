use Rattle.program.proofs.Laws.{part-long, fitting}
use native.Mathlib.Omega.{arith}
use Rattle.program.proofs.shaped_lines.Goals as goal

pub slice_bounds-read_lines-end : goal.slice_bounds-read_lines-end
slice_bounds-read_lines-end c = part-long _ _ _ c.zeroed-starts.ensures.long (omega (arith, c.requires.1, c.requires.2))

pub slice_bounds-read_lines-end-2 : goal.slice_bounds-read_lines-end-2
slice_bounds-read_lines-end-2 c = part-long _ _ _ c.zeroed-columns.ensures.long (omega (arith, c.requires.1, c.requires.2))

pub slice_bounds-read_lines-end-3 : goal.slice_bounds-read_lines-end-3
slice_bounds-read_lines-end-3 c = part-long _ _ _ c.zeroed-values.ensures.long (omega (arith, c.requires.1, c.requires.2))

pub slice_bounds-read_lines-end-4 : goal.slice_bounds-read_lines-end-4
slice_bounds-read_lines-end-4 c = part-long _ _ _ c.zeroed-r.ensures.long (omega (arith, c.requires.1, c.requires.2))

pub slice_bounds-read_lines-end-5 : goal.slice_bounds-read_lines-end-5
slice_bounds-read_lines-end-5 c = part-long _ _ _ c.zeroed-c.ensures.long (omega (arith, c.requires.1, c.requires.2))

pub slice_bounds-read_lines-end-6 : goal.slice_bounds-read_lines-end-6
slice_bounds-read_lines-end-6 c = part-long _ _ _ c.zeroed-b.ensures.long (omega (arith, c.requires.1, c.requires.2))

pub read_lines-requires : goal.read_lines-requires
read_lines-requires c = (c.requires.0, c.requires.1, fitting _ _ _ _ _ _ _ _ 0 0 (c.requires.1, c.requires.2, c.requires.3) c.zeroed-starts.ensures.long c.zeroed-columns.ensures.long c.zeroed-values.ensures.long c.zeroed-r.ensures.long c.zeroed-c.ensures.long c.zeroed-b.ensures.long)
