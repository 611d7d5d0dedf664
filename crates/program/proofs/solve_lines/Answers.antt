use Rattle.program.proofs.Laws.{part-long, lent-lines, zeros-are, noughts-are}
use native.Mathlib.Omega.{arith}
use Rattle.program.proofs.solve_lines.Goals as goal

pub slice_bounds-solve_into-end : goal.slice_bounds-solve_into-end
slice_bounds-solve_into-end c = part-long _ _ _ c.zeroed-lower_starts.ensures.long (omega (arith, c.requires.1))

pub slice_bounds-solve_into-end-4 : goal.slice_bounds-solve_into-end-4
slice_bounds-solve_into-end-4 c = part-long _ _ _ c.zeroed-upper_starts.ensures.long (omega (arith, c.requires.1))

pub slice_bounds-solve_into-end-7 : goal.slice_bounds-solve_into-end-7
slice_bounds-solve_into-end-7 c = part-long _ _ _ c.zeroed-d.ensures.long (omega (arith, c.requires.1))

pub slice_bounds-solve_into-end-8 : goal.slice_bounds-solve_into-end-8
slice_bounds-solve_into-end-8 c = part-long _ _ _ c.zeroed-x.ensures.long (omega (arith, c.requires.1))

pub slice_bounds-solve_into-end-9 : goal.slice_bounds-solve_into-end-9
slice_bounds-solve_into-end-9 c = part-long _ _ _ c.zeroed-work.ensures.long (omega (arith, c.requires.1))

pub slice_bounds-solve_into-end-10 : goal.slice_bounds-solve_into-end-10
slice_bounds-solve_into-end-10 c = part-long _ _ _ c.zeroed-marks.ensures.long (omega (arith, c.requires.1))

pub solve_into-requires : goal.solve_into-requires
solve_into-requires c = (c.requires.0, c.requires.1, omega (arith, c.requires.1, part-long c.args.n c.zeroed-x.result 2016 c.zeroed-x.ensures.long (omega (arith, c.requires.1))))

pub returns : goal.returns
returns c =
    lent-lines _ _ _ _ _ _ _ _ _ _ _ c.requires.1 (zeros-are _ _ c.zeroed-lower_starts.ensures.zero) (zeros-are _ _ c.zeroed-lower_index.ensures.zero) (noughts-are _ _ c.zeroed-lower_values.ensures.zero) (zeros-are _ _ c.zeroed-upper_starts.ensures.zero) (zeros-are _ _ c.zeroed-upper_index.ensures.zero) (noughts-are _ _ c.zeroed-upper_values.ensures.zero) (noughts-are _ _ c.zeroed-d.ensures.zero) (noughts-are _ _ c.zeroed-x.ensures.zero) (noughts-are _ _ c.zeroed-work.ensures.zero) (zeros-are _ _ c.zeroed-marks.ensures.zero) c.solve_into.ensures
