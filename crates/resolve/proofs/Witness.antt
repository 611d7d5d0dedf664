-- What the stage after 1, 2, 5 and 6 requires is met by computed values: one place with empty lists, in the shared form.
use Rattle.base.specs.Answers.{Pass}
use mathlib.Core.Path.{◌≡◌, refl}
use mathlib.Core.List.{List, [], ◌∷◌}
use Prim.Native.Nat.{ℕ}
use Rattle.base.specs.First.{first}
use Rattle.base.specs.declared.Form.TheVariants.{Shared}
use Rattle.matrix.specs.Input.{input_of, is_of}
use Rattle.matrix.specs.Questions.{bad_index, not_finite, ask5, ask_finite, ask_right}
use Rattle.factors.proofs.Witness.{starts, runs, d, shared}
use Rattle.resolve.specs.Again.{AgainReady}

abbrev order : List ℕ
order = 0 ∷ []

asked : ask_right 1 order order d ≡ Pass
unfolding ask_right ask5 ask_finite bad_index not_finite is_of first
asked = refl

pub ready : AgainReady Shared (input_of 1 [] [] [] order order d) starts runs starts runs 1 1 3
ready = record { lent = shared; row-order = refl; column-order = refl; right = refl; solution = refl; scratch = refl; passed = asked }
