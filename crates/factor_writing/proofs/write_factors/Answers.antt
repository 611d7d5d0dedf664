use mathlib.Core.Path.{sym}
use lib.Seq.{length-take-le}
use Rattle.base.specs.FirstLaws.{passed-on}
use Rattle.factor_contents.specs.FactorFile.{factor_lists, cut}
use Rattle.factor_writing.proofs.WriteLaws.{write-stop, write-long, write-lent, write_done}
use Rattle.factor_writing.proofs.write_factors.Goals as goal

pub slice_bounds-write_lists-end : goal.slice_bounds-write_lists-end
slice_bounds-write_lists-end c =
    let a = c.args in
    sym (length-take-le _ _ (write-long _ a.counts (factor_lists a.r.now a.c.now a.lower_starts.now a.lower_index.now a.lower_values.now a.upper_starts.now a.upper_index.now a.upper_values.now a.d.now) a.file.now _ c.ask_lengths.ensures c.in_ok-ask_lengths.was).lower_long.index-least)

pub slice_bounds-write_lists-end-2 : goal.slice_bounds-write_lists-end-2
slice_bounds-write_lists-end-2 c =
    let a = c.args in
    sym (length-take-le _ _ (write-long _ a.counts (factor_lists a.r.now a.c.now a.lower_starts.now a.lower_index.now a.lower_values.now a.upper_starts.now a.upper_index.now a.upper_values.now a.d.now) a.file.now _ c.ask_lengths.ensures c.in_ok-ask_lengths.was).lower_long.values-least)

pub slice_bounds-write_lists-end-3 : goal.slice_bounds-write_lists-end-3
slice_bounds-write_lists-end-3 c =
    let a = c.args in
    sym (length-take-le _ _ (write-long _ a.counts (factor_lists a.r.now a.c.now a.lower_starts.now a.lower_index.now a.lower_values.now a.upper_starts.now a.upper_index.now a.upper_values.now a.d.now) a.file.now _ c.ask_lengths.ensures c.in_ok-ask_lengths.was).upper_long.index-least)

pub slice_bounds-write_lists-end-4 : goal.slice_bounds-write_lists-end-4
slice_bounds-write_lists-end-4 c =
    let a = c.args in
    sym (length-take-le _ _ (write-long _ a.counts (factor_lists a.r.now a.c.now a.lower_starts.now a.lower_index.now a.lower_values.now a.upper_starts.now a.upper_index.now a.upper_values.now a.d.now) a.file.now _ c.ask_lengths.ensures c.in_ok-ask_lengths.was).upper_long.values-least)

pub write_lists-requires : goal.write_lists-requires
unfolding cut
write_lists-requires c =
    let a = c.args in
    write-lent _ a.counts (factor_lists a.r.now a.c.now a.lower_starts.now a.lower_index.now a.lower_values.now a.upper_starts.now a.upper_index.now a.upper_values.now a.d.now) a.file.now _ c.ask_lengths.ensures c.in_ok-ask_lengths.was

pub returns-in_err-ask_lengths : goal.returns-in_err-ask_lengths
returns-in_err-ask_lengths c = rw (passed-on _ _ c.from_residual.ensures.1) (write-stop _ _ _ _ _ c.ask_lengths.ensures _ c.in_err-ask_lengths.was)

pub returns : goal.returns
unfolding cut
returns c =
    write_done _ _ _ _ _ c.ask_lengths.ensures c.in_ok-ask_lengths.was _ c.write_lists.ensures
