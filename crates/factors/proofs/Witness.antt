-- What the functions require is met by computed values: one place with empty lists, in the plain and in the shared form. 15 passes them.
use Rattle.base.specs.Answers.{Pass}
use mathlib.Core.Path.{◌≡◌, refl}
use mathlib.Core.List.{List, [], ◌∷◌}
use Prim.Native.Nat.{ℕ}
use native.Mathlib.Omega.{arith}
use lib.Ieee.{Float}
use Rattle.base.specs.Lists.{nought, list_at}
use Rattle.base.specs.First.{first}
use Rattle.base.specs.declared.Form.TheVariants.{Plain, Shared}
use Rattle.outcome.specs.Buffers.{side_buffers}
use Rattle.outcome.specs.Resolve.{given_list, given_values, rises_in, misplaced, bad_list, bad_at, ask_factors}
use Rattle.factors.specs.Presented.{FactorsLent, presented}

abbrev pub starts : List ℕ
starts = 0 ∷ 0 ∷ []

abbrev pub runs : List ℕ
runs = 0 ∷ []

abbrev pub d : List Float
d = nought ∷ []

pub plain : FactorsLent Plain 1 starts starts starts starts 1
plain = record {
  lower = record { few = omega arith; starts-size = refl; runs-size = omega arith; runs-are = refl };
  upper = record { few = omega arith; starts-size = refl; runs-size = omega arith; runs-are = refl };
  reciprocals = refl;
}

pub shared : FactorsLent Shared 1 starts runs starts runs 1
shared = record {
  lower = record { few = omega arith; starts-size = refl; runs-size = omega arith; runs-are = tt };
  upper = record { few = omega arith; starts-size = refl; runs-size = omega arith; runs-are = tt };
  reciprocals = refl;
}

pub passed : ask_factors Shared 1 (presented (side_buffers starts runs [] []) (side_buffers starts runs [] []) d) ≡ Pass
unfolding ask_factors bad_at bad_list misplaced given_list given_values rises_in list_at first
passed = refl
