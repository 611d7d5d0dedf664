-- Another right side over factors found before gives a solve's x, or its 13.
use Rattle.std.specs.Prelude.{Ok, None, Err}
use mathlib.Core.Path.{◌≡◌, refl, sym, ap, ◌∙◌}
use mathlib.Core.Bool.{Bool, true}
use mathlib.Core.List.{List, [], ◌∷◌, ◌++◌, map}
use Prim.Native.Nat.{ℕ}
use native.Mathlib.Omega.{arith}
use lib.ListN.{length, get_or, length-replicate}
use lib.Ieee.{Float, nan}
use borrow.Author.Tests.{eq-eqb, eqb-true, not-false}
use lib.Ieee.Scale.{finite}
use Rattle.base.specs.Lists.{nought}
use Rattle.base.specs.First.{first}
use Rattle.base.specs.FirstLaws.{first-all, first-none, holds-pass, both-pass}
use Rattle.base.specs.TableLaws.{table-ext}
use Rattle.base.specs.All.{all}
use Rattle.base.specs.AllLaws.{all_join, all_true}
use Rattle.base.specs.Tests.{and_cases}
use Rattle.base.specs.Limits.{rows_within}
use Rattle.base.specs.Answers.{number_of, number_of_answer, holds, and_then, Pass, Asked, Answer}
use Rattle.base.specs.declared.Form.{Form}
use Rattle.base.specs.declared.Form.TheVariants.{Plain, Shared, ByRow}
use Rattle.base.specs.declared.Side.{Side}
use Rattle.base.specs.declared.Side.TheVariants.{Lower, Upper}
use Rattle.base.specs.declared.Refusal.TheVariants.{Rows, Lengths}
use Rattle.base.specs.declared.Sizes.{Sizes}
use Rattle.fill.specs.Fill.{Pattern, flip, lower_row, upper_row}
use Rattle.placement.specs.Placing.{first_at}
use Rattle.matrix.specs.Input.{Input, stored, right_at, own_order}
use Rattle.matrix.specs.Questions.{ask7, not_finite, ask3, ask4, ask5, ask6, ask_finite, ask_floor, ask_numbers, ask_pattern, ask_solve, ask_right}
use Rattle.arithmetic.specs.Arith.{Fault, Out, ok, met, none, Result, Row}
use Rattle.arithmetic.specs.Sticky.{ok-inj}
use Rattle.arithmetic.specs.Stopping.{solved}
use Rattle.arithmetic.proofs.StoppingLaws.{solved_again-is}
use Rattle.outcome.specs.Buffers.{Buffers, all_buffers, sizes, matrix_tests, right_tests, buffer_tests, ask_shape, scratch_cleared, Outcome, ended, stop}
use Rattle.outcome.specs.Structure.{counts}
use Rattle.outcome.specs.Solve.{system, listed, fault_of, multiplier, values_of, values_kept, pivots_kept, kept, left, concluded, shape, solve}
use Rattle.outcome.specs.Refactor.{ask_presented, refilled, refactor}
use Rattle.outcome.specs.Resolve.{factors_of, with_solution, resolved, resolve}
use Rattle.outcome.proofs.Asking.{number-some, all_append}
use Rattle.outcome.proofs.Answers.{left-x, solve-left}
use Rattle.outcome.proofs.Meaning.{listed-stops}
use Rattle.reuse.specs.Reuse.{Keeps, with_right, Factored, by-solve, by-refactor, FiniteRight, ResolvesAs, Resolving, ResolvesOn, ResolvingOn, ResolvingSame, Alike, ResolvingAlike}
use Rattle.reuse.proofs.Standing.{absent-pass}
use Rattle.reuse.proofs.Refactoring.{stop-done}
use Rattle.reuse.proofs.OtherRight.{z_of, SameFactors, solved-factors, Overflows, solved_again-over}
use Rattle.reuse.proofs.Stored.{joined_same}
use Rattle.reuse.proofs.Kept.{FactorsKept, left-kept, filled_in, refactored-ok, factors-kept, below, run-stops, stored-rows, other-is, again-is, factors-pass}

-- ---- the questions that both put

shape-all : (f : Form) (i : Input) (z : Sizes) → shape f i z ≡ Pass → (rows_within i.n ≡ true) × (all (matrix_tests i) ≡ true) × (all (buffer_tests f i.n z) ≡ true)
unfolding shape ask_shape
shape-all f i z e =
    let p = both-pass (holds (rows_within i.n) Rows) (holds (all (matrix_tests i ++ buffer_tests f i.n z)) Lengths) e in
    let q = and_cases (all (matrix_tests i)) (all (buffer_tests f i.n z)) (sym (all_join (matrix_tests i) (buffer_tests f i.n z)) ∙ holds-pass (all (matrix_tests i ++ buffer_tests f i.n z)) Lengths p.1) in
    (holds-pass (rows_within i.n) Rows p.0, q.0, q.1)

shape-by : (n : ℕ) (a b : List Bool) → rows_within n ≡ true → all a ≡ true → all b ≡ true → ask_shape n (a ++ b) ≡ Pass
unfolding ask_shape
shape-by n a b e f g = rw (e, all_join a b, f, g)

finite-pass : (n : ℕ) (b : List Float) (from : ℕ) → FiniteRight n b → ask_finite b from ≡ Pass
unfolding ask_finite not_finite
finite-pass n b from h = let e : first (not_finite b) (length b) ≡ None = first-all (not_finite b) (length b) (λ k l. rw (h.all k (omega (arith, h.long)))) in rw e

module _ (i : Input) (b : List Float) (g : FiniteRight i.n b) where
  right-tests : all (matrix_tests i) ≡ true → all (right_tests (with_right i b)) ≡ true
  right-tests e = let t = all_true (matrix_tests i) e in rw (t 2, t 3, eq-eqb (length b) i.n g.long)

  matrix-tests : all (matrix_tests i) ≡ true → all (matrix_tests (with_right i b)) ≡ true
  matrix-tests e = let t = all_true (matrix_tests i) e in rw (t 0, t 1, t 2, t 3, t 4, eq-eqb (length b) i.n g.long)

  solve-asks : ask_solve i ≡ Pass → ask_solve (with_right i b) ≡ Pass
  unfolding ask_solve ask_pattern ask_numbers ask6
  solve-asks e =
      let p = both-pass (ask_pattern i) (and_then (ask_numbers i.values i.b i.floor) (ask7 i.n i.starts i.r)) e in
      let q = both-pass (ask_numbers i.values i.b i.floor) (ask7 i.n i.starts i.r) p.1 in
      let n = both-pass (ask6 i.values i.b) (ask_floor i.floor) q.0 in
      let r = both-pass (ask_finite i.values 0) (ask_finite i.b (length i.values)) n.0 in
      rw (p.0, r.0, finite-pass i.n b (length i.values) g, n.1) q.1

  right-asks : ask_solve i ≡ Pass → ask_right i.n i.r i.c b ≡ Pass
  unfolding ask_solve ask_pattern ask_right
  right-asks e =
      let p = both-pass (ask_pattern i) (and_then (ask_numbers i.values i.b i.floor) (ask7 i.n i.starts i.r)) e in
      let q = both-pass (ask3 i.n (length i.columns) i.starts) (and_then (ask4 i.n i.columns) (ask5 i.n i.r i.c)) p.0 in
      let r = both-pass (ask4 i.n i.columns) (ask5 i.n i.r i.c) q.1 in
      rw r.1 (finite-pass i.n b 0 g)

-- ---- the answers

-- over factors found before only the right side is judged, and the answer is that of the whole elimination
resolve-is : (f : Form) → Keeps f → (i : Input) (s t : Buffers) (a : Result) → FactorsKept f i s t a → (b : List Float)
    → resolve f (with_right i b) t ≡ stop Err (ask_shape i.n (right_tests (with_right i b) ++ buffer_tests f i.n (sizes t))) t
    (stop Err (ask_right i.n i.r i.c b) (scratch_cleared t) (resolved (with_right i b) t (z_of (listed (with_right i b)))))
unfolding resolve
resolve-is f v i s t a h b = rw (factors-pass f v i s t a h, again-is f v i s t a h b)

module _ (f : Form) (v : Keeps f) (i : Input) (s t : Buffers) (a : Result) (h : FactorsKept f i s t a) (b : List Float) (g : FiniteRight i.n b) where
  resolve-end : resolve f (with_right i b) t ≡ resolved (with_right i b) t (z_of (listed (with_right i b)))
  resolve-end =
      let e = shape-all f i (sizes s) h.lengths in
      resolve-is f v i s t a h b
      ∙ rw (shape-by i.n (right_tests (with_right i b)) (buffer_tests f i.n (sizes t)) e.0 (right-tests i b g e.1) (ap (λ (z : Sizes). all (buffer_tests f i.n z)) h.long ∙ e.2), right-asks i b g h.questions)

  solve-end : solve f (with_right i b) s ≡ concluded f (with_right i b) (sizes s) s.x (listed (with_right i b))
  unfolding solve shape stored
  solve-end =
      let e = shape-all f i (sizes s) h.lengths in
      rw (shape-by i.n (matrix_tests (with_right i b)) (buffer_tests f i.n (sizes s)) e.0 (matrix-tests i b g e.1) e.2, solve-asks i b g h.questions, h.places)

ends-again : (f : Form) → Keeps f → (j : Input) (s t : Buffers) (o : Out Result) → Overflows (z_of o) → ResolvesAs t (resolved j t (z_of o)) (concluded f j (sizes s) s.x o)
ends-again f v j s t (ok a) w = record { answer = refl; buffers = λ e. ap (with_solution t) (sym (left-x f j (sizes s) a)); over = λ l. absurd (omega arith) }
ends-again f v j s t (met q) w =
    let k = w q refl in
    record { answer = refl; buffers = λ e. absurd (number-some (fault_of q) e); over = λ l. (ap (λ (q : Fault). number_of (fault_of q)) k.1, refl) }

pub resolving : Resolving
resolving f v i s t c b g =
    let j = with_right i b in
    let h = factors-kept f v i s t c in
    let w : Overflows (z_of (listed j)) = rw (← again-is f v i s t h.0 h.1 b, solved_again-is) (solved_again-over (factors_of f j t)) in
    rw (resolve-end f v i s t h.0 h.1 b g, solve-end f v i s t h.0 h.1 b g) (ends-again f v j s t (listed j) w)

-- ---- and again

map_same : (g h : ℕ → Float) (l : List ℕ) → ((j : ℕ) → g j ≡ h j) → map g l ≡ map h l
map_same g h [] e = refl
map_same g h (j ∷ l) e = rw (e j, map_same g h l e)

values-at : (f : Form) (side : Side) (P : Pattern) (n : ℕ) (R Q : List Row) → SameFactors R Q → (k : ℕ) → values_of f side P n Q k ≡ values_of f side P n R k
values-at f Upper P n R Q h k = h.u k
values-at Plain Lower P n R Q h k = h.l k
values-at Shared Lower P n R Q h k = map_same (λ j. multiplier P Q j k) (λ j. multiplier P R j k) (upper_row (flip P) n k) (λ j. ap (λ (l : List Float). get_or l (first_at k (lower_row P j)) nan) (h.l j))
values-at ByRow Lower P n R Q h k = refl

values_same : (f : Form) (side : Side) (P : Pattern) (n : ℕ) (R Q : List Row) → SameFactors R Q → values_kept f side P n Q ≡ values_kept f side P n R
unfolding values_kept
values_same f side P n R Q h = joined_same (values_of f side P n Q) (values_of f side P n R) n (λ k l. values-at f side P n R Q h k)

pivots-same : (n : ℕ) (R Q : List Row) → SameFactors R Q → pivots_kept n Q ≡ pivots_kept n R
unfolding pivots_kept
pivots-same n R Q h = table-ext (λ k. (get_or Q k none).d) (λ k. (get_or R k none).d) n (λ k l. h.d k)

module _ (f : Form) (i : Input) (b : List Float) (s : Buffers) (a c : Result) (h : SameFactors a.rows c.rows) where
  -- with the same factors, x is all that the two right sides leave apart
  solve-same : with_solution (kept f i (sizes s) a) (own_order i.c i.n c.z) ≡ kept f (with_right i b) (sizes s) c
  unfolding kept with_solution stored
  solve-same =
      rw (values_same f Lower (stored i) i.n a.rows c.rows h, values_same f Upper (stored i) i.n a.rows c.rows h, pivots-same i.n a.rows c.rows h, length-replicate (length s.work) nought, length-replicate {A = ℕ} (length s.marks) 0)

  refactor-same : with_solution (filled_in f i s a) (own_order i.c i.n c.z) ≡ filled_in f (with_right i b) s c
  unfolding refilled with_solution stored
  refactor-same =
      rw (values_same f Lower (stored i) i.n a.rows c.rows h, values_same f Upper (stored i) i.n a.rows c.rows h, pivots-same i.n a.rows c.rows h, length-replicate (length s.work) nought, length-replicate {A = ℕ} (length s.marks) 0)

whole : (t : Buffers) (x w : List Float) (m : List ℕ) → t.x ≡ x → t.work ≡ w → t.marks ≡ m → all_buffers t.lower t.upper t.d x w m ≡ t
whole t x w m e f g = rw (← e, ← f, ← g)

refactor-parts : (f : Form) (i : Input) (s t : Buffers) → refactor f i s ≡ ended Pass t → (ask_presented f (stored i) i.n s ≡ Pass) × ((a : Result) × (listed i ≡ ok a) × (t ≡ filled_in f i s a))
unfolding refactor
refactor-parts f i s t e =
    let p = stop-done number_of_answer Err (λ q. refl) Pass refl (shape f i (sizes s)) s t _ e in
    let q = stop-done number_of_answer Err (λ q. refl) Pass refl (ask_solve i) _ t _ p.1 in
    let r = stop-done number_of_answer Err (λ q. refl) Pass refl (ask_presented f (stored i) i.n s) _ t _ q.1 in
    (r.0, refactored-ok f i s t (listed i) r.1)

module _ (f : Form) (v : Keeps f) (i : Input) (s t : Buffers) (a : Result) (h : FactorsKept f i s t a) (b : List Float) (g : FiniteRight i.n b) (c : Result) (e : listed (with_right i b) ≡ ok c) where
  factors-same : SameFactors a.rows c.rows
  factors-same =
      let j = with_right i b in
      solved-factors (system i) (right_at j) (factors_of f j t) a c (below f v i s t a h) (run-stops f v i s t a h) (stored-rows f v i s t a h b)
      (ap solved (sym (other-is f v i s t a h b)) ∙ sym (listed-stops j) ∙ e)

  refactor-end : ask_presented f (stored i) i.n s ≡ Pass → refactor f (with_right i b) s ≡ ended Pass (filled_in f (with_right i b) s c)
  unfolding refactor shape stored
  refactor-end q =
      let l = shape-all f i (sizes s) h.lengths in
      rw (shape-by i.n (matrix_tests (with_right i b)) (buffer_tests f i.n (sizes s)) l.0 (matrix-tests i b g l.1) l.2, solve-asks i b g h.questions, q, e)

  factored-on : Factored f i s t → Factored f (with_right i b) s (with_solution t (own_order i.c i.n c.z))
  factored-on (by-solve n m) =
      let j = with_right i b in
      let q = solve-left f i s (ap (λ (o : Outcome Answer). number_of_answer o.answer) m) in
      let same : t ≡ kept f i (sizes s) a = ap (λ (o : Outcome Answer). o.buffers) (sym m) ∙ q.2 ∙ ap (left f i (sizes s)) (ok-inj (sym q.1 ∙ h.run)) ∙ left-kept f v i (sizes s) a in
      by-solve (counts j)
      (solve-end f v i s t a h b g ∙ ap (concluded f j (sizes s) s.x) e
      ∙ ap (ended (Ok (counts j))) (left-kept f v j (sizes s) c ∙ sym (solve-same f i b s a c factors-same) ∙ ap (λ (t : Buffers). with_solution t (own_order i.c i.n c.z)) (sym same)))
  factored-on (by-refactor m) =
      let q = refactor-parts f i s t m in
      let same : t ≡ filled_in f i s a = q.1.2 ∙ ap (filled_in f i s) (ok-inj (sym q.1.1 ∙ h.run)) in
      by-refactor
      (refactor-end q.0 ∙ ap (ended Pass) (sym (refactor-same f i b s a c factors-same) ∙ ap (λ (t : Buffers). with_solution t (own_order i.c i.n c.z)) (sym same)))

ends_on : (f : Form) (v : Keeps f) (i : Input) (s t : Buffers) (a : Result) (h : FactorsKept f i s t a) (b : List Float) (g : FiniteRight i.n b) → Factored f i s t → (o : Out Result) → listed (with_right i b) ≡ o
    → ResolvesOn f (with_right i b) s t (resolved (with_right i b) t (z_of o))
unfolding scratch_cleared
ends_on f v i s t a h b g c (ok r) e = record { done = λ z. factored-on f v i s t a h b g r e c; refused = λ l. absurd (omega arith) }
ends_on f v i s t a h b g c (met q) e = record { done = λ z. absurd (number-some (fault_of q) z); refused = λ l. whole t _ _ _ refl h.work h.marks }

pub resolving-on : ResolvingOn
resolving-on f v i s t c b g =
    let j = with_right i b in
    let k = factors-kept f v i s t c in
    rw (resolve-end f v i s t k.0 k.1 b g) (ends_on f v i s t k.0 k.1 b g c (listed j) refl)

-- ---- the same right side

own-finite : (i : Input) → all (matrix_tests i) ≡ true → ask_solve i ≡ Pass → FiniteRight i.n i.b
unfolding ask_solve ask_numbers ask6 ask_finite not_finite
own-finite i e q =
    let p = both-pass (ask_pattern i) (and_then (ask_numbers i.values i.b i.floor) (ask7 i.n i.starts i.r)) q in
    let r = both-pass (ask_numbers i.values i.b i.floor) (ask7 i.n i.starts i.r) p.1 in
    let m = both-pass (ask6 i.values i.b) (ask_floor i.floor) r.0 in
    let w = both-pass (ask_finite i.values 0) (ask_finite i.b (length i.values)) m.0 in
    let n : length i.b ≡ i.n = eqb-true (length i.b) i.n (all_true (matrix_tests i) e 5) in
    record { long = n; all = λ k l. not-false (finite (get_or i.b k nan)) (first-none (not_finite i.b) (length i.b) (absent-pass _ _ w.1) k (omega arith)) }

pub resolving-same : ResolvingSame
unfolding with_solution
resolving-same f v i s t c =
    let k = factors-kept f v i s t c in
    let h = k.1 in
    resolve-end f v i s t k.0 h i.b (own-finite i (shape-all f i (sizes s) h.lengths).1 h.questions)
    ∙ rw h.run (ap (ended Pass) (whole t _ _ _ h.x h.work h.marks))

-- ---- the two forms

-- the stated lengths leave question 2 to the right side
right-shape : (f : Form) (i : Input) (s t : Buffers) (a : Result) → FactorsKept f i s t a → (b : List Float)
    → ask_shape i.n (right_tests (with_right i b) ++ buffer_tests f i.n (sizes t)) ≡ ask_shape i.n (right_tests (with_right i b))
unfolding ask_shape
right-shape f i s t a h b =
    ap (λ t. and_then (holds (rows_within i.n) Rows) (holds t Lengths))
    (all_append (right_tests (with_right i b)) (buffer_tests f i.n (sizes t)) (ap (λ (z : Sizes). all (buffer_tests f i.n z)) h.long ∙ (shape-all f i (sizes s) h.lengths).2))

chain-alike : (j : Input) (p q : Buffers) (a b : Asked) (o : Out (List Float))
    → Alike (stop Err a p (stop Err b (scratch_cleared p) (resolved j p o))) (stop Err a q (stop Err b (scratch_cleared q) (resolved j q o)))
unfolding with_solution
chain-alike j p q (Err r) b o = record { answer = refl; x = λ e. absurd (number-some r e) }
chain-alike j p q (Ok _) (Err r) o = record { answer = refl; x = λ e. absurd (number-some r e) }
chain-alike j p q (Ok _) (Ok _) (ok z) = record { answer = refl; x = λ e. refl }
chain-alike j p q (Ok _) (Ok _) (met r) = record { answer = refl; x = λ e. absurd (number-some (fault_of r) e) }

pub resolving-alike : ResolvingAlike
resolving-alike f g v w i s p t q c d b =
    let j = with_right i b in
    let h = factors-kept f v i s p c in
    let k = factors-kept g w i t q d in
    rw (resolve-is f v i s p h.0 h.1 b, resolve-is g w i t q k.0 k.1 b, right-shape f i s p h.0 h.1 b, right-shape g i t q k.0 k.1 b)
    (chain-alike j p q (ask_shape i.n (right_tests j)) (ask_right i.n i.r i.c b) (z_of (listed j)))
