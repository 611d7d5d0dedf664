use mathlib.Core.Path.{refl, sym, ◌∙◌, ap}
use Rattle.std.specs.Prelude.{is_err}
use Rattle.base.specs.FirstLaws.{passed-on}
use mathlib.Core.List.{[]}
use Rattle.base.specs.declared.Form.TheVariants.{Plain}
use Rattle.matrix.specs.Input.{Input, input_of}
use Rattle.outcome.specs.Buffers.{SideBuffers, side_buffers}
use Rattle.resolve.specs.AgainLaws.{asking-of, resolve-stops, resolve-ends, plain_ready, plain-again}
use Rattle.resolve.proofs.resolve_plain.Goals as goal
use Rattle.resolve.proofs.resolve_plain.Goals.{Start}

abbrev given : Start → Input
given s = let a = s.args in input_of a.n [] [] [] a.r.now a.c.now a.b.now

abbrev lower : Start → SideBuffers
lower s = let a = s.args in side_buffers a.lower_starts.now [] a.lower_index.now a.lower_values.now

abbrev upper : Start → SideBuffers
upper s = let a = s.args in side_buffers a.upper_starts.now [] a.upper_index.now a.upper_values.now

pub returns-in_err-ask_right : goal.returns-in_err-ask_right
returns-in_err-ask_right c =
    let a = c.args in
    let g = asking-of Plain (given (goal.at.returns-in_err-ask_right c).Start) _ _ _ _ _ _ _ _ _ _ _ _ _ c.side_sizes-lower.ensures c.side_sizes-upper.ensures c.ask_right.ensures in
    resolve-stops Plain (given (goal.at.returns-in_err-ask_right c).Start) (lower (goal.at.returns-in_err-ask_right c).Start) (upper (goal.at.returns-in_err-ask_right c).Start) a.d.now a.x.now a.work.now _ a.marks.now _ c.ask_right.result g _ (ap is_err c.in_err-ask_right.was)
    (passed-on _ _ c.from_residual.ensures.1 ∙ sym c.in_err-ask_right.was)

pub solve_again-a-requires : goal.solve_again-a-requires
solve_again-a-requires c =
    let a = c.args in
    let g = asking-of Plain (given (goal.at.solve_again-a-requires c).Start) _ _ _ _ _ _ _ _ _ _ _ _ _ c.side_sizes-lower.ensures c.side_sizes-upper.ensures c.ask_right.ensures in
    plain_ready (given (goal.at.solve_again-a-requires c).Start) a.lower_starts.now a.upper_starts.now _ _ _ _ _ _ _ _ _ _ (g.due c.in_ok-ask_right.was) _ c.ask_right.auto.work

pub returns : goal.returns
returns c =
    let a = c.args in
    let g = asking-of Plain (given (goal.at.returns c).Start) _ _ _ _ _ _ _ _ _ _ _ _ _ c.side_sizes-lower.ensures c.side_sizes-upper.ensures c.ask_right.ensures in
    resolve-ends Plain (given (goal.at.returns c).Start) (lower (goal.at.returns c).Start) (upper (goal.at.returns c).Start) a.d.now a.x.now a.work.now _ a.marks.now _ c.ask_right.result g (ap is_err c.in_ok-ask_right.was)
    c.solve_again-a.result _ _ _ _ _ (c.solve_again-a.auto.work ∙ c.ask_right.auto.work) c.ask_right.auto.marks c.clear_scratch.ensures
    (plain-again (given (goal.at.returns c).Start) a.lower_starts.now a.lower_index.now a.lower_values.now a.upper_starts.now a.upper_index.now a.upper_values.now a.d.now a.x.now _ _
    c.solve_again-a.ensures) _ refl
