-- The answer by the verdicts of the chain, and which numbers each verdict can give.
use Rattle.std.specs.Prelude.{Ok, Err}
use mathlib.Core.Path.{◌≡◌, refl, ap, ◌∙◌}
use mathlib.Core.Bool.{Bool, true}
use mathlib.Core.List.{List, ◌++◌}
use Prim.Native.Nat.{ℕ, zero, suc, ◌+◌}
use native.Mathlib.Omega.{arith}
use lib.ListN.{length, get_or}
use lib.Ieee.{Float}
use Rattle.base.specs.Magnitude.{is_floor}
use Rattle.fill.specs.Fill.{Pattern, filled}
use Rattle.base.specs.First.{first}
use Rattle.base.specs.All.{all}
use Rattle.matrix.specs.Questions.{bad_start, bad_column, bad_index, not_finite, empty_row, ask_solve, ask3, ask4, ask5, ask6, ask7, ask_finite, ask_floor, ask_numbers, ask_pattern, ask_structure, ask_right}
use Rattle.arithmetic.specs.Arith.{Out, ok, met, Result}
use Rattle.base.specs.declared.Counts.{Counts}
use Rattle.base.specs.declared.Refusal.TheVariants.{Rows, Lengths, Starts, Column, Order, NotFinite, EmptyRow, NullPivot, LowerSlots, UpperSlots, Floor}
use Rattle.matrix.specs.Input.{Input, stored, own_order}
use Rattle.outcome.specs.Structure.{counts, fits, ask_place, ask_places}
use Rattle.outcome.specs.Solve.{listed, fault_of, shape, earlier, kept, left, concluded, solve}
use Rattle.base.specs.declared.Form.{Form}
use Rattle.base.specs.declared.Form.TheVariants.{Plain, Shared, ByRow}
use Rattle.outcome.specs.Buffers.{Buffers, sizes, matrix_tests, buffer_tests, stop, cleared, ask_shape}
use Rattle.base.specs.declared.Sizes.{Sizes}
use Rattle.base.specs.Answers.{number_of_answer, own, spot, and_then, holds, absent, Asked, Answer}
use Rattle.outcome.proofs.Asking.{number-some, Within, within-wide, within-pass, within-holds, within-absent, within-then, all_append}
use Rattle.base.specs.Limits.{rows_within}
use Rattle.base.specs.declared.Side.TheVariants.{Lower, Upper}

-- ---- the answer alone

abbrev pub faulted : Out Result → Counts → Answer
faulted (ok a) c = Ok c
faulted (met q) c = Err (fault_of q)

abbrev pub answered : Asked → Answer → Answer
answered (Err q) rest = Err q
answered (Ok _) rest = rest

-- questions before 9, questions 9 to 11, the arithmetic
abbrev pub verdict : Asked → Asked → Out Result → Counts → Answer
verdict a b o c = answered a (answered b (faulted o c))

chain-answer : (f : Form) (i : Input) (z : Sizes) (x : List Float) (s t u : Buffers) (a b c : Asked) (o : Out Result)
    → (stop Err a s (stop Err b t (stop Err c u (concluded f i z x o)))).answer ≡ verdict (and_then a b) c o (counts i)
chain-answer f i z x s t u (Err q) b c o = refl
chain-answer f i z x s t u (Ok _) (Err q) c o = refl
chain-answer f i z x s t u (Ok _) (Ok _) (Err q) o = refl
chain-answer f i z x s t u (Ok _) (Ok _) (Ok _) (ok a) = refl
chain-answer f i z x s t u (Ok _) (Ok _) (Ok _) (met q) = refl

pub solve-answer : (f : Form) (i : Input) (s : Buffers)
    → (solve f i s).answer ≡ verdict (earlier f i (sizes s)) (ask_places f (stored i) i.n (sizes s) i.n) (listed i) (counts i)
unfolding solve
solve-answer f i s = chain-answer f i (sizes s) s.x s _ _ (shape f i (sizes s)) (ask_solve i) (ask_places f (stored i) i.n (sizes s) i.n) (listed i)

-- ---- the solution

pub left-x : (f : Form) (i : Input) (z : Sizes) (a : Result) → (left f i z a).x ≡ own_order i.c i.n a.z
unfolding kept cleared
left-x Plain i z a = refl
left-x Shared i z a = refl
left-x ByRow i z a = refl

-- a solution leaves the buffers of the definition
chain_left : (f : Form) (i : Input) (z : Sizes) (x : List Float) (s t u : Buffers) (a b c : Asked) (o : Out Result)
    → number_of_answer (stop Err a s (stop Err b t (stop Err c u (concluded f i z x o)))).answer ≡ 0
    → (r : Result) × (o ≡ ok r) × ((stop Err a s (stop Err b t (stop Err c u (concluded f i z x o)))).buffers ≡ left f i z r)
chain_left f i z x s t u (Err q) b c o e = absurd (number-some q e)
chain_left f i z x s t u (Ok _) (Err q) c o e = absurd (number-some q e)
chain_left f i z x s t u (Ok _) (Ok _) (Err q) o e = absurd (number-some q e)
chain_left f i z x s t u (Ok _) (Ok _) (Ok _) (ok a) e = (a, refl, refl)
chain_left f i z x s t u (Ok _) (Ok _) (Ok _) (met q) e = absurd (number-some (fault_of q) e)

pub solve-left : (f : Form) (i : Input) (s : Buffers) → number_of_answer (solve f i s).answer ≡ 0 → (r : Result) × (listed i ≡ ok r) × ((solve f i s).buffers ≡ left f i (sizes s) r)
unfolding solve
solve-left f i s e = chain_left f i (sizes s) s.x s _ _ (shape f i (sizes s)) (ask_solve i) (ask_places f (stored i) i.n (sizes s) i.n) (listed i) e

pub solve-x : (f : Form) (i : Input) (s : Buffers) → number_of_answer (solve f i s).answer ≡ 0 → (r : Result) × (listed i ≡ ok r) × ((solve f i s).buffers.x ≡ own_order i.c i.n r.z)
solve-x f i s e = let a = solve-left f i s e in (a.0, a.1, ap (λ (b : Buffers). b.x) a.2 ∙ left-x f i (sizes s) a.0)

-- ---- the numbers that a run of questions can give

pub ask-shape-within : (n : ℕ) (tests : List Bool) → Within 1 2 (ask_shape n tests)
unfolding ask_shape
ask-shape-within n tests =
    within-then 1 2 (holds (rows_within n) Rows) (holds (all tests) Lengths)
    (within-holds 1 2 (rows_within n) Rows (omega arith) (omega arith)) (within-holds 1 2 (all tests) Lengths (omega arith) (omega arith))

pub shape-within : (f : Form) (i : Input) (z : Sizes) → Within 1 2 (shape f i z)
unfolding shape
shape-within f i z = ask-shape-within i.n (matrix_tests i ++ buffer_tests f i.n z)

pub ask5-within : (n : ℕ) (r c : List ℕ) → Within 5 5 (ask5 n r c)
unfolding ask5
ask5-within n r c =
    within-then 5 5 (absent (first (bad_index r n) n) Order) (absent (first (bad_index c n) n) (λ k. Order (k + n)))
    (within-absent 5 5 (first (bad_index r n) n) Order (λ k. omega arith) (λ k. omega arith))
    (within-absent 5 5 (first (bad_index c n) n) (λ k. Order (k + n)) (λ k. omega arith) (λ k. omega arith))

finite-within : (v : List Float) (from : ℕ) → Within 6 6 (ask_finite v from)
unfolding ask_finite
finite-within v from = within-absent 6 6 (first (not_finite v) (length v)) (λ k. NotFinite (k + from)) (λ k. omega arith) (λ k. omega arith)

pub pattern-within : (i : Input) → Within 3 5 (ask_pattern i)
unfolding ask_pattern ask3 ask4
pattern-within i =
    within-then 3 5 (ask3 i.n (length i.columns) i.starts) (and_then (ask4 i.n i.columns) (ask5 i.n i.r i.c))
    (within-absent 3 5 (first (bad_start i.starts i.n (length i.columns)) i.n) (λ k. Starts (own k)) (λ k. omega arith) (λ k. omega arith))
    (within-then 3 5 (ask4 i.n i.columns) (ask5 i.n i.r i.c)
    (within-absent 3 5 (first (bad_column i.columns i.n) (length i.columns)) Column (λ k. omega arith) (λ k. omega arith))
    (within-wide 5 5 3 5 _ (omega arith) (omega arith) (ask5-within i.n i.r i.c)))

pub rows-within : (i : Input) → Within 7 7 (ask7 i.n i.starts i.r)
unfolding ask7
rows-within i = within-absent 7 7 (first (empty_row i.starts i.r) i.n) (λ k. EmptyRow (own (get_or i.r k 0))) (λ k. omega arith) (λ k. omega arith)

pub structure-within : (i : Input) → Within 3 7 (ask_structure i)
unfolding ask_structure
structure-within i =
    within-then 3 7 (ask_pattern i) (ask7 i.n i.starts i.r) (within-wide 3 5 3 7 _ (omega arith) (omega arith) (pattern-within i)) (within-wide 7 7 3 7 _ (omega arith) (omega arith) (rows-within i))

pub solve-within : (i : Input) → Within 3 7 (ask_solve i)
unfolding ask_solve ask_numbers ask6 ask_floor
solve-within i =
    within-then 3 7 (ask_pattern i) _ (within-wide 3 5 3 7 _ (omega arith) (omega arith) (pattern-within i))
    (within-then 3 7 (ask_numbers i.values i.b i.floor) (ask7 i.n i.starts i.r)
    (within-wide 6 6 3 7 _ (omega arith) (omega arith) (within-then 6 6 (ask6 i.values i.b) (ask_floor i.floor)
    (within-then 6 6 (ask_finite i.values 0) (ask_finite i.b (length i.values)) (finite-within i.values 0) (finite-within i.b (length i.values)))
    (within-holds 6 6 (is_floor i.floor) Floor (omega arith) (omega arith))))
    (within-wide 7 7 3 7 _ (omega arith) (omega arith) (rows-within i)))

pub right-within : (n : ℕ) (r c : List ℕ) (b : List Float) → Within 5 6 (ask_right n r c b)
unfolding ask_right
right-within n r c b =
    within-then 5 6 (ask5 n r c) (ask_finite b 0) (within-wide 5 5 5 6 _ (omega arith) (omega arith) (ask5-within n r c)) (within-wide 6 6 5 6 _ (omega arith) (omega arith) (finite-within b 0))

abbrev pub Early : Asked → Type 0
Early a = Within 1 7 a

pub earlier-early : (f : Form) (i : Input) (z : Sizes) → Early (earlier f i z)
earlier-early f i z =
    within-then 1 7 (shape f i z) (ask_solve i) (within-wide 1 2 1 7 (shape f i z) (omega arith) (omega arith) (shape-within f i z))
    (within-wide 3 7 1 7 (ask_solve i) (omega arith) (omega arith) (solve-within i))

pub places-within : (f : Form) (P : Pattern) (n : ℕ) (z : Sizes) (k : ℕ) → Within 9 11 (ask_places f P n z k)
unfolding ask_places ask_place
places-within f P n z zero = within-pass 9 11
places-within f P n z (suc k) =
    within-then 9 11 (ask_places f P n z k) (ask_place f P n z k) (places-within f P n z k)
    (within-then 9 11 (holds (filled P k k) (NullPivot (spot k))) _ (within-holds 9 11 (filled P k k) (NullPivot (spot k)) (omega arith) (omega arith))
    (within-then 9 11 (holds (fits f Lower P n z k) (LowerSlots (spot k))) _ (within-holds 9 11 (fits f Lower P n z k) (LowerSlots (spot k)) (omega arith) (omega arith))
    (within-holds 9 11 (fits f Upper P n z k) (UpperSlots (spot k)) (omega arith) (omega arith))))

-- ---- the stated lengths leave question 2 to the matrix

-- questions 1 to 7 and 19 of the matrix, its orders, b and the floor
unfoldable pub of_matrix : Input → Asked
of_matrix i = and_then (ask_shape i.n (matrix_tests i)) (ask_solve i)

pub earlier-stated : (f : Form) (i : Input) (z : Sizes) → all (buffer_tests f i.n z) ≡ true → earlier f i z ≡ of_matrix i
unfolding shape of_matrix ask_shape
earlier-stated f i z e = ap (λ t. and_then (and_then (holds (rows_within i.n) Rows) (holds t Lengths)) (ask_solve i)) (all_append (matrix_tests i) (buffer_tests f i.n z) e)
