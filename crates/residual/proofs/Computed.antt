-- Computed cases: the answers of rows whose bits were found by another program, and a refusal of each number that the call can give.
use mathlib.Core.Path.{◌≡◌, refl}
use mathlib.Core.List.{List, [], ◌∷◌, map}
use Prim.Native.Nat.{ℕ}
use lib.ListN.{length}
use lib.Ieee.{Float, binary64, of_bits, add, sub, mul, of_int}
use Rattle.base.specs.First.{first}
use Rattle.base.specs.Lists.{list_at, pairs}
use Rattle.base.specs.Answers.{own}
use Rattle.matrix.specs.Input.{input_of}
use Rattle.matrix.specs.Questions.{bad_start, bad_column, not_finite, no_entry, ask3, ask4, ask6, ask_finite}
use Rattle.residual.specs.Residual.{residual_from, total_from, share, least, width_from, results_from}
use Rattle.outcome.specs.Buffers.{ask_shape}
use Rattle.residual.specs.Answer.{ask_sizes, ask_entries, ask_row, scores, row_answer, checked}
use Rattle.residual.specs.declared.Checked.{Checked}
use Rattle.residual.specs.declared.Checked.TheVariants.{Pair, Refused}

abbrev floats : List ℕ → List Float
floats l = map (λ b. of_bits binary64 b) l

abbrev pair : ℕ → ℕ → Checked
pair r w = Pair (of_bits binary64 r) (of_bits binary64 w)

-- numbers by their bits
abbrev asked : ℕ → List ℕ → List ℕ → List ℕ → List ℕ → List ℕ → ℕ → Checked
asked n s j v b x i = checked (input_of n s j (floats v) [] [] (floats b)) (floats x) (own i)

-- a matrix of one row
abbrev one : List ℕ → List ℕ → ℕ → ℕ → ℕ → Checked
one j v b x i = asked 1 (0 ∷ length j ∷ []) j v (b ∷ []) (x ∷ []) i

-- 3·x for x next to a third, whose product rounds to 1; half of 2^-1074, which rounds to 0 and is within the width, from 0 and from −0; three
-- entries of different columns; 0.9 − 0.1·3 − 0.2·3, one column twice; half of the greatest number, whose T is just finite
pairs-given : one (0 ∷ []) (0x4008_0000_0000_0000 ∷ []) 0x3ff0_0000_0000_0000 0x3fd5_5555_5555_5555 0
    ∷ one (0 ∷ []) (1 ∷ []) 0 0x3fe0_0000_0000_0000 0
    ∷ one (0 ∷ []) (1 ∷ []) 0x8000_0000_0000_0000 0xbfe0_0000_0000_0000 0
    ∷ asked 3 (0 ∷ 0 ∷ 3 ∷ 3 ∷ []) (2 ∷ 0 ∷ 1 ∷ []) (0x3fb9_9999_9999_999a ∷ 0xbfd3_3333_3333_3333 ∷ 0x401c_0000_0000_0000 ∷ []) (0 ∷ 0x3fb9_9999_9999_999a ∷ 0 ∷ [])
    (0x3f50_624d_d2f1_a9fc ∷ 0x3c67_0ef5_4646_d497 ∷ 0x3fd3_3333_3333_3333 ∷ []) 1
    ∷ one (0 ∷ 0 ∷ []) (0x3fb9_9999_9999_999a ∷ 0x3fc9_9999_9999_999a ∷ []) 0x3fec_cccc_cccc_cccd 0x4008_0000_0000_0000 0
    ∷ one (0 ∷ []) (0x7fdf_ffff_ffff_ffff ∷ []) 0x7fdf_ffff_ffff_ffff 0x3ff0_0000_0000_0000 0
    ∷ []
    ≡ pair 0 0x3cd8_0000_0000_0000
    ∷ pair 0 1
    ∷ pair 0 1
    ∷ pair 0x3fb1_ff2e_48e8_a719 0x3ca4_d916_872b_0210
    ∷ pair 0xbca0_0000_0000_0000 0x3cdc_cccc_cccc_ccce
    ∷ pair 0 0x7cc7_ffff_ffff_ffff
    ∷ []
unfolding checked ask_row ask_sizes ask_shape ask_entries ask3 ask4 ask6 ask_finite first bad_start bad_column not_finite no_entry list_at pairs scores row_answer residual_from total_from share least width_from results_from of_bits add sub mul of_int
pairs-given = refl

-- 1, 2, 3, 4; 5 before 6; 6 of a value, of b, of x; 7 behind 6; 22, where a product and where T alone is not finite
refused : asked 0 (0 ∷ []) [] [] [] [] 0
    ∷ asked 1 (0 ∷ []) [] [] (0 ∷ []) (0 ∷ []) 0
    ∷ asked 1 (0 ∷ 2 ∷ []) (0 ∷ []) (0 ∷ []) (0 ∷ []) (0 ∷ []) 0
    ∷ one (0 ∷ 1 ∷ []) (0 ∷ 0 ∷ []) 0 0 0
    ∷ one (0 ∷ []) (0x7ff0_0000_0000_0000 ∷ []) 0 0 1
    ∷ one (0 ∷ []) (0x7ff0_0000_0000_0000 ∷ []) 0 0 0
    ∷ one (0 ∷ []) (0 ∷ []) 0x7ff0_0000_0000_0000 0 0
    ∷ one (0 ∷ []) (0 ∷ []) 0 0x7ff8_0000_0000_0000 0
    ∷ one [] [] 0 0x7ff8_0000_0000_0000 0
    ∷ one [] [] 0 0 0
    ∷ one (0 ∷ []) (0x7fe0_0000_0000_0000 ∷ []) 0 0x4000_0000_0000_0000 0
    ∷ one (0 ∷ []) (0x7fef_ffff_ffff_ffff ∷ []) 0x7fef_ffff_ffff_ffff 0x3ff0_0000_0000_0000 0
    ∷ []
    ≡ Refused 1 0
    ∷ Refused 2 0
    ∷ Refused 3 0
    ∷ Refused 4 1
    ∷ Refused 5 1
    ∷ Refused 6 0
    ∷ Refused 6 1
    ∷ Refused 6 2
    ∷ Refused 6 1
    ∷ Refused 7 0
    ∷ Refused 22 0
    ∷ Refused 22 0
    ∷ []
unfolding checked ask_row ask_sizes ask_shape ask_entries ask3 ask4 ask6 ask_finite first bad_start bad_column not_finite no_entry list_at pairs scores row_answer residual_from total_from share least width_from results_from of_bits add sub mul of_int
refused = refl
