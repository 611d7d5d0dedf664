-- Another right side: factors found before, a new b, in the plain or the shared form. Definitions only.
use Rattle.std.specs.Prelude.{Bool, true, not, cond, ◌&&◌, ◌||◌, List, [], ◌∷◌, ◌++◌, ℕ, suc, ◌+◌, ◌-◌, length, get_or, replicate, leb, ltb, eqb, Float, Err}
use Rattle.std.specs.Float.{nan}
use Rattle.std.specs.Float.Ieee.Scale.{finite}
use Rattle.base.specs.Lists.{list_at, row_of, pairs, joined, nought}
use Rattle.base.specs.First.{first}
use Rattle.base.specs.Answers.{spot, absent, Pass, Asked}
use Rattle.placement.specs.Placing.{first_at}
use Rattle.matrix.specs.Input.{Input, right_at, own_order}
use Rattle.matrix.specs.Questions.{ask_right}
use Rattle.arithmetic.specs.Arith.{Out, ok, met, judged}
use Rattle.arithmetic.specs.RowEnd.{finite_all}
use Rattle.arithmetic.specs.Again.{Factors, whole_again}
use Rattle.base.specs.declared.Form.{Form}
use Rattle.base.specs.declared.Form.TheVariants.{Plain, Shared, ByRow}
use Rattle.base.specs.declared.Side.{Side}
use Rattle.base.specs.declared.Side.TheVariants.{Lower, Upper}
use Rattle.base.specs.declared.Refusal.TheVariants.{BadFactors}
use Rattle.outcome.specs.Buffers.{SideBuffers, Buffers, all_buffers, sizes, right_tests, buffer_tests, ask_shape, scratch_cleared, Outcome, ended, stop}
use Rattle.outcome.specs.Solve.{fault_of}

-- where the lists of a side begin: the plain form's at their list starts
abbrev pub runs_of : Form → SideBuffers → List ℕ
runs_of Plain b = b.starts
runs_of Shared b = b.runs
runs_of ByRow b = b.runs

-- the presented list of place k, and its values
unfoldable pub given_list : Form → SideBuffers → ℕ → List ℕ
given_list f b k = list_at b.starts (runs_of f b) b.index k

unfoldable pub given_values : SideBuffers → ℕ → List Float
given_values b k = row_of b.starts b.values k

-- strictly ascending from lo on, and below hi
unfoldable pub rises_in : ℕ → ℕ → List ℕ → Bool
rises_in lo hi [] = true
rises_in lo hi (x ∷ xs) = leb lo x && ltb x hi && rises_in (suc x) hi xs

-- "on the right side of k and below n": a plain lower row lies below k, a column or T(k) above it
abbrev pub right_side : Form → Side → ℕ → ℕ → List ℕ → Bool
right_side f Upper n k l = rises_in (suc k) n l
right_side Plain Lower n k l = rises_in 0 k l
right_side Shared Lower n k l = rises_in (suc k) n l
right_side ByRow Lower n k l = rises_in (suc k) n l

-- "list starts from 0, never falling; each list or run and its values inside the stores": both starts k and k + 1 belong to place k
unfoldable pub misplaced : Form → SideBuffers → ℕ → Bool
misplaced f b k =
    (eqb k 0 && not (eqb (get_or b.starts 0 0) 0))
    || ltb (get_or b.starts (k + 1) 0) (get_or b.starts k 0)
    || ltb (length b.index) (get_or (runs_of f b) k 0 + (get_or b.starts (k + 1) 0 - get_or b.starts k 0))
    || ltb (length b.values) (get_or b.starts (k + 1) 0)

unfoldable pub bad_list : Form → Side → ℕ → SideBuffers → ℕ → Bool
bad_list f side n b k = misplaced f b k || not (right_side f side n k (given_list f b k)) || not (finite_all (given_values b k))

unfoldable pub bad_at : Form → ℕ → Buffers → ℕ → Bool
bad_at f n s k = bad_list f Lower n s.lower k || bad_list f Upper n s.upper k || not (finite (get_or s.d k nan))

-- question 15
unfoldable pub ask_factors : Form → ℕ → Buffers → Asked
ask_factors f n s = absent (first (bad_at f n s) n) (λ k. BadFactors (spot k))

-- i with L(k, i), where column i has row k
unfoldable pub hit : Form → SideBuffers → ℕ → ℕ → List (ℕ × Float)
hit f b k i =
    cond (ltb (first_at k (given_list f b i)) (length (given_list f b i))) ((i, get_or (given_values b i) (first_at k (given_list f b i)) nan) ∷ []) []

-- lower row k with its L, ascending: row k of the plain form, or what the shared form's columns before k hold of row k
abbrev pub given_lower : Form → SideBuffers → ℕ → List (ℕ × Float)
given_lower Plain b k = pairs (given_list Plain b k) (given_values b k)
given_lower Shared b k = joined (hit Shared b k) k
given_lower ByRow b k = joined (hit ByRow b k) k

unfoldable pub factors_of : Form → Input → Buffers → Factors
factors_of f i s =
    record {
      n = i.n;
      lower = given_lower f s.lower;
      d = λ k. get_or s.d k nan;
      upper = given_list f s.upper;
      u = given_values s.upper;
      rhs = right_at i;
    }

-- it writes x and the scratch only
unfoldable pub with_solution : Buffers → List Float → Buffers
with_solution s x = all_buffers s.lower s.upper s.d x (replicate (length s.work) nought) (replicate (length s.marks) 0)

abbrev pub resolved : Input → Buffers → Out (List Float) → Outcome Asked
resolved i s (ok z) = ended Pass (with_solution s (own_order i.c i.n z))
resolved i s (met q) = ended (Err (fault_of q)) (scratch_cleared s)

-- "Another right side puts 1, 2, 5, 6 (b only, its index), 15, 13"; the input's matrix is not lent
unfoldable pub resolve : Form → Input → Buffers → Outcome Asked
resolve f i s =
    stop Err (ask_shape i.n (right_tests i ++ buffer_tests f i.n (sizes s))) s
    (stop Err (ask_right i.n i.r i.c i.b) (scratch_cleared s)
    (stop Err (ask_factors f i.n s) (scratch_cleared s)
    (resolved i s (judged nought (whole_again (factors_of f i s))))))
