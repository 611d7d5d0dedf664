-- What the call is asked and what it answers. Definitions only.
use Rattle.std.specs.Prelude.{ℕ, ◌+◌, Bool, not, cond, List, [], ◌∷◌, map, length, get_or, leb, ltb, eqb, Float, Ok, Err}
use Rattle.std.specs.Float.{nan}
use Rattle.base.specs.Lists.{nought, row_of, pairs}
use Rattle.base.specs.Limits.{max_entries}
use Rattle.base.specs.Answers.{number_of, place_of, holds, and_then, Asked}
use Rattle.base.specs.declared.OwnNumber.{OwnNumber}
use Rattle.base.specs.declared.Refusal.TheVariants.{Order, EmptyRow}
use Rattle.matrix.specs.Input.{Input}
use Rattle.matrix.specs.Questions.{no_entry, ask3, ask4, ask6, ask_finite}
use Rattle.outcome.specs.Buffers.{ask_shape}
use Rattle.arithmetic.specs.RowEnd.{finite_all}
use Rattle.residual.specs.Residual.{Entry, residual_from, width_of, results}
use Rattle.residual.specs.declared.Checked.{Checked}
use Rattle.residual.specs.declared.Checked.TheVariants.{Pair, Refused}

-- ---- number and values of each case: 0 and the pair, or the refusal's number and place

abbrev pub number_of_checked : Checked → ℕ
number_of_checked (Pair r w) = 0
number_of_checked (Refused q p) = q

abbrev pub place_of_checked : Checked → ℕ
place_of_checked (Pair r w) = 0
place_of_checked (Refused q p) = p

-- +0 after a refusal
abbrev pub residual_in : Checked → Float
residual_in (Pair r w) = r
residual_in (Refused q p) = nought

abbrev pub width_in : Checked → Float
width_in (Pair r w) = w
width_in (Refused q p) = nought

-- ---- the questions

-- e is within its limit, starts, values, b and x are as long as stated
abbrev pub size_tests : ℕ → ℕ → ℕ → ℕ → ℕ → ℕ → List Bool
size_tests n s j v b x = leb j max_entries ∷ eqb s (n + 1) ∷ eqb v j ∷ eqb b n ∷ eqb x n ∷ []

-- 1 and 2, by lengths
unfoldable pub ask_sizes : ℕ → ℕ → ℕ → ℕ → ℕ → ℕ → Asked
ask_sizes n s j v b x = ask_shape n (size_tests n s j v b x)

-- "1 to 4, then 5, naming it, for an own row not below n, 6 (values, b, then x plus e + n, e all entries) and 7 for that row": from 3 on
unfoldable pub ask_entries : Input → List Float → OwnNumber → Asked
ask_entries i x k =
    and_then (ask3 i.n (length i.columns) i.starts)
    (and_then (ask4 i.n i.columns)
    (and_then (holds (ltb k.0 i.n) (Order k.0))
    (and_then (ask6 i.values i.b)
    (and_then (ask_finite x (length i.columns + i.n))
    (holds (not (no_entry i.starts k.0)) (EmptyRow k))))))

unfoldable pub ask_row : Input → List Float → OwnNumber → Asked
ask_row i x k = and_then (ask_sizes i.n (length i.starts) (length i.columns) (length i.values) (length i.b) (length x)) (ask_entries i x k)

-- ---- the answer

-- x at the columns of a row
unfoldable pub scores : List Float → List ℕ → List Float
scores x js = map (λ j. get_or x j nan) js

-- the row's entries, as stored
abbrev pub entries_of : Input → List Float → OwnNumber → List Entry
entries_of i x k = pairs (row_of i.starts i.values k.0) (scores x (row_of i.starts i.columns k.0))

abbrev pub right_of : Input → OwnNumber → Float
right_of i k = get_or i.b k.0 nan

-- "22, one of the listed results is not finite, own row, last"
unfoldable pub row_answer : Float → List Entry → OwnNumber → Checked
row_answer b l k = cond (finite_all (results b l)) (Pair (residual_from b l) (width_of b l)) (Refused 22 k.0)

abbrev pub answered : Asked → Checked → Checked
answered (Err q) a = Refused (number_of q) (place_of q)
answered (Ok _) a = a

-- "The answer is either the pair of numbers or the refusal"
unfoldable pub checked : Input → List Float → OwnNumber → Checked
checked i x k = answered (ask_row i x k) (row_answer (right_of i k) (entries_of i x k) k)
