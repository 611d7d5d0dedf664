-- The call from its two stages, by what the questions answered.
use Rattle.std.specs.Prelude.{Err}
use mathlib.Core.Path.{◌≡◌, sym, ◌∙◌}
use mathlib.Core.List.{List}
use Prim.Native.Nat.{ℕ}
use lib.Ieee.{Float}
use Rattle.base.specs.Answers.{number_of, place_of, Pass, Asked}
use Rattle.base.specs.declared.OwnNumber.{OwnNumber}
use Rattle.base.specs.declared.Refusal.{Refusal}
use Rattle.matrix.specs.Input.{Input}
use Rattle.residual.specs.Answer.{ask_row, answered}
use Rattle.residual.specs.Lent.{Readable}
use Rattle.residual.specs.declared.Checked.{Checked}
use Rattle.residual.specs.declared.Checked.TheVariants.{Refused}
use Rattle.residual.proofs.Asking.{passed}

pub answer-stop : (a : Asked) (q : Refusal) (o : Asked) (x y : ℕ) (r : Checked) → o ≡ a → o ≡ Err q → x ≡ number_of q → y ≡ place_of q → Refused x y ≡ answered a r
answer-stop a q o x y r e h f g = rw (← e, h, f, g)

pub answer-pass : (a o : Asked) (z r : Checked) → o ≡ a → o ≡ Pass → z ≡ r → z ≡ answered a r
answer-pass a o z r e h g = rw (← e, h) g

pub readable-by : (i : Input) (x : List Float) (k : OwnNumber) (o : Asked) → o ≡ ask_row i x k → o ≡ Pass → Readable i x k
readable-by i x k o e h = (passed i x k (sym e ∙ h)).readable
