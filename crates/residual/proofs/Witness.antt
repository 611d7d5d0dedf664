-- What the functions ask for is met by a computed value: one row of one entry, +0.
use mathlib.Core.Path.{◌≡◌, refl}
use mathlib.Core.List.{List, [], ◌∷◌}
use lib.Ieee.{Float}
use Rattle.base.specs.First.{first}
use Rattle.base.specs.Lists.{nought, list_at}
use Rattle.base.specs.Answers.{own, Pass}
use Rattle.matrix.specs.Input.{Input, input_of}
use Rattle.matrix.specs.Questions.{bad_start, bad_column, not_finite, no_entry, ask3, ask4, ask6, ask_finite}
use Rattle.outcome.specs.Buffers.{ask_shape}
use Rattle.residual.specs.Answer.{ask_sizes, ask_entries, ask_row}
use Rattle.residual.specs.Lent.{RowLent, Sized, Readable}
use Rattle.residual.proofs.Asking.{Passed, passed}
use Rattle.residual.proofs.Rows.{row-lent}

unfoldable pub numbers : List Float
numbers = nought ∷ []

unfoldable pub small : Input
unfolding numbers
small = input_of 1 (0 ∷ 1 ∷ []) (0 ∷ []) numbers [] [] numbers

passes : ask_row small numbers (own 0) ≡ Pass
unfolding small numbers ask_row ask_sizes ask_shape ask_entries ask3 ask4 ask6 ask_finite first bad_start bad_column not_finite no_entry
passes = refl

holds : Passed small numbers (own 0)
holds = passed small numbers (own 0) passes

pub sized : Sized small numbers
sized = holds.sizes

pub readable : Readable small numbers (own 0)
readable = holds.readable

pub lent : RowLent (0 ∷ []) numbers numbers
unfolding small numbers list_at
lent = row-lent small numbers (own 0) readable (0 ∷ []) refl numbers refl
