use mathlib.Core.Path.{refl, sym, ap, ◌∙◌}
use Rattle.std.specs.Prelude.{is_err}
use Rattle.base.specs.FirstLaws.{passed-on}
use mathlib.Core.List.{[]}
use lib.ListN.{length, drop}
use Rattle.base.specs.Scratch.{z_from}
use Rattle.matrix.specs.Input.{Input, input_of}
use Rattle.outcome.specs.Buffers.{SideBuffers, side_buffers}
use Rattle.resolve.specs.AgainLaws.{solvable, solution-due, again-15, again-13, again-x}
use Rattle.resolve.proofs.solve_again.Goals as goal
use Rattle.resolve.proofs.solve_again.Goals.{Start}

abbrev given : Start → Input
given s = let a = s.args in input_of a.n [] [] [] a.r.now a.c.now a.b.now

abbrev lower : Start → SideBuffers
lower s = let a = s.args in side_buffers a.lower_starts.now a.lower_runs.now a.lower_index.now a.lower_values.now

abbrev upper : Start → SideBuffers
upper s = let a = s.args in side_buffers a.upper_starts.now a.upper_runs.now a.upper_index.now a.upper_values.now

pub returns-in_err-ask_factors : goal.returns-in_err-ask_factors
returns-in_err-ask_factors c =
    let a = c.args in
    rw (passed-on _ _ c.from_residual.ensures.1 ∙ sym c.in_err-ask_factors.was)
    (again-15 a.form a.n a.r.now a.c.now a.b.now (lower (goal.at.returns-in_err-ask_factors c).Start) (upper (goal.at.returns-in_err-ask_factors c).Start) a.d.now a.x.now c.ask_factors.result c.ask_factors.ensures _ refl (ap is_err c.in_err-ask_factors.was))

pub substitute-solved-requires : goal.substitute-solved-requires
substitute-solved-requires c =
    let a = c.args in
    solvable a.form (given (goal.at.substitute-solved-requires c).Start) a.lower_starts.now a.lower_runs.now a.lower_index.now a.lower_values.now a.upper_starts.now a.upper_runs.now a.upper_index.now
    a.upper_values.now a.d.now (length a.x.now) (length a.work.now) c.requires c.ask_factors.result c.ask_factors.ensures (ap is_err c.in_ok-ask_factors.was)

pub returns-in_err-solved : goal.returns-in_err-solved
returns-in_err-solved c =
    let a = c.args in
    rw (passed-on _ _ c.from_residual-in_err-solved.ensures.1 ∙ sym c.in_err-solved.was)
    (again-13 a.form a.n a.r.now a.c.now a.b.now (lower (goal.at.returns-in_err-solved c).Start) (upper (goal.at.returns-in_err-solved c).Start) a.d.now a.x.now c.ask_factors.result c.ask_factors.ensures _ refl (ap is_err c.in_ok-ask_factors.was)
    c.substitute-solved.result (drop (z_from a.n) c.substitute-solved.new.work) c.substitute-solved.ensures _ refl (ap is_err c.in_err-solved.was))

pub write_x-requires : goal.write_x-requires
write_x-requires c =
    let a = c.args in
    solution-due a.form (given (goal.at.write_x-requires c).Start) a.lower_starts.now a.lower_runs.now a.lower_index.now a.lower_values.now a.upper_starts.now a.upper_runs.now a.upper_index.now
    a.upper_values.now a.d.now (length a.x.now) (length a.work.now) c.requires _ c.substitute-solved.auto.work

pub returns : goal.returns
returns c =
    let a = c.args in
    let h = again-x a.form a.n a.r.now a.c.now a.b.now (lower (goal.at.returns c).Start) (upper (goal.at.returns c).Start) a.d.now a.x.now c.ask_factors.result c.ask_factors.ensures _ refl (ap is_err c.in_ok-ask_factors.was)
    c.substitute-solved.result (drop (z_from a.n) c.substitute-solved.new.work) c.substitute-solved.ensures _ refl (ap is_err c.in_ok-solved.was) _ c.write_x.ensures in
    rw c.in_ok-solved.was at h
