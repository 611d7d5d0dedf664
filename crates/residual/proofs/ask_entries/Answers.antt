use Rattle.questions.specs.AskLaws.{then-err, then-pass}
use Rattle.residual.specs.Answer.{ask_entries}
use Rattle.residual.proofs.Asking.{out-stop, out-pass, entry-stop, entry-pass}
use Rattle.residual.proofs.ask_entries.Goals as goal
use Rattle.std.proofs.Common.{refl}

pub returns-in_err-ask_starts : goal.returns-in_err-ask_starts
unfolding ask_entries
returns-in_err-ask_starts c = then-err _ _ _ _ _ c.ask_starts.ensures c.in_err-ask_starts.was c.from_residual.ensures.1

pub returns-in_err-ask_columns : goal.returns-in_err-ask_columns
unfolding ask_entries
returns-in_err-ask_columns c =
    then-pass _ _ _ _ c.ask_starts.ensures c.in_ok-ask_starts.was
    (then-err _ _ _ _ _ c.ask_columns.ensures c.in_err-ask_columns.was c.from_residual-in_err-ask_columns.ensures.1)

pub returns-then-row-input : goal.returns-then-row-input
unfolding ask_entries
returns-then-row-input c =
    then-pass _ _ _ _ c.ask_starts.ensures c.in_ok-ask_starts.was (then-pass _ _ _ _ c.ask_columns.ensures c.in_ok-ask_columns.was (out-stop _ _ _ _ _ c.if-row-input.true refl))

pub returns-in_err-ask_values : goal.returns-in_err-ask_values
unfolding ask_entries
returns-in_err-ask_values c =
    then-pass _ _ _ _ c.ask_starts.ensures c.in_ok-ask_starts.was
    (then-pass _ _ _ _ c.ask_columns.ensures c.in_ok-ask_columns.was
    (out-pass _ _ _ _ _ c.if-row-input.false
    (then-err _ _ _ _ _ c.ask_values.ensures c.in_err-ask_values.was c.from_residual-in_err-ask_values.ensures.1)))

pub returns-in_err-ask_finite : goal.returns-in_err-ask_finite
unfolding ask_entries
returns-in_err-ask_finite c =
    then-pass _ _ _ _ c.ask_starts.ensures c.in_ok-ask_starts.was
    (then-pass _ _ _ _ c.ask_columns.ensures c.in_ok-ask_columns.was
    (out-pass _ _ _ _ _ c.if-row-input.false
    (then-pass _ _ _ _ c.ask_values.ensures c.in_ok-ask_values.was
    (then-err _ _ _ _ _ c.ask_finite.ensures c.in_err-ask_finite.was c.from_residual-in_err-ask_finite.ensures.1))))

pub returns-then-row_empty : goal.returns-then-row_empty
unfolding ask_entries
returns-then-row_empty c =
    then-pass _ _ _ _ c.ask_starts.ensures c.in_ok-ask_starts.was
    (then-pass _ _ _ _ c.ask_columns.ensures c.in_ok-ask_columns.was
    (out-pass _ _ _ _ _ c.if-row-input.false
    (then-pass _ _ _ _ c.ask_values.ensures c.in_ok-ask_values.was
    (then-pass _ _ _ _ c.ask_finite.ensures c.in_ok-ask_finite.was
    (entry-stop _ _ _ _ _ c.row_empty.ensures c.if-row_empty.true refl)))))

pub returns : goal.returns
unfolding ask_entries
returns c =
    then-pass _ _ _ _ c.ask_starts.ensures c.in_ok-ask_starts.was
    (then-pass _ _ _ _ c.ask_columns.ensures c.in_ok-ask_columns.was
    (out-pass _ _ _ _ _ c.if-row-input.false
    (then-pass _ _ _ _ c.ask_values.ensures c.in_ok-ask_values.was
    (then-pass _ _ _ _ c.ask_finite.ensures c.in_ok-ask_finite.was
    (entry-pass _ _ _ _ _ c.row_empty.ensures c.if-row_empty.false refl)))))
