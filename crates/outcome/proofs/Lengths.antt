-- Every buffer is as long at exit as at entry: what the definition says of them can be held.
use Rattle.std.specs.Prelude.{Ok, Err}
use mathlib.Core.Path.{◌≡◌, refl, sym, ap, ◌∙◌}
use mathlib.Core.Bool.{true}
use mathlib.Core.List.{List, [], ◌∷◌, ◌++◌}
use Prim.Native.Nat.{ℕ, zero, suc, ◌+◌, ◌≤◌, ◌<◌}
use native.Mathlib.Omega.{arith}
use native.Mathlib.Numerals.{add-one}
use lib.ListN.{length, get_or, length-append, length-replicate, length-map}
use lib.Dec.{leb}
use Rattle.base.specs.declared.Side.TheVariants.{Lower, Upper}
use Rattle.outcome.specs.Structure.{side_placed, fits, ask_places, runs_kept}
use Rattle.outcome.specs.Solve.{values_kept, pivots_kept, system, listed, shape, multiplier, values_of, kept, left, concluded, solve}
use Rattle.base.specs.FirstLaws.{both-pass, holds-pass}
use Rattle.base.specs.Tests.{and_cases}
use Rattle.base.specs.Answers.{holds, Pass, Asked}
use Rattle.base.specs.All.{all}
use Rattle.base.specs.AllLaws.{all_true}
use Rattle.base.specs.Limits.{rows_within}
use Rattle.outcome.specs.Buffers.{ask_shape, Buffers, side_sizes, sizes, side_of, matrix_tests, buffer_tests, stop, scratch_cleared, side_cleared, cleared}
use Rattle.base.specs.declared.SideSizes.{SideSizes}
use Rattle.base.specs.declared.Sizes.{Sizes}
use Rattle.base.specs.ZerosLaws.{padded-length}
use Rattle.fill.specs.Fill.{Pattern, flip, upper_row}
use Rattle.base.specs.Lists.{nought, joined}
use Rattle.base.specs.TableLaws.{length-table}
use Rattle.placement.specs.Placing.{Way, after, placed, start_of}
use Rattle.arithmetic.specs.Arith.{Out, ok, met, Row, none, Result, whole_run}
use Rattle.arithmetic.specs.Meets.{judged-value}
use Rattle.base.specs.declared.Refusal.TheVariants.{Rows, Lengths}
use Rattle.matrix.specs.Input.{Input, stored, own_order}
use Rattle.base.specs.declared.Form.{Form}
use Rattle.base.specs.declared.Form.TheVariants.{Plain, Shared, ByRow}
use Rattle.base.specs.declared.Side.{Side}
use Rattle.outcome.specs.Forms.{lists_of, way_of, rows_of, placed_to, index_need, value_need}
use Rattle.matrix.specs.Questions.{ask_solve}
use Rattle.outcome.proofs.Places.{places-pass}
use Rattle.arithmetic.specs.Factors.{LongTo}
use Rattle.arithmetic.proofs.Factors.{whole_length}
use lib.Ieee.{Float}
use borrow.Author.Tests.{eqb-true, leb-true}

-- ---- zeros

side_same : (z : SideSizes) → side_sizes (side_cleared z) ≡ z
unfolding side_cleared
side_same z = rw (length-replicate {A = ℕ} z.starts 0, length-replicate {A = ℕ} z.runs 0, length-replicate {A = ℕ} z.index 0, length-replicate z.values nought)

pub cleared-same : (z : Sizes) (x : List Float) → length x ≡ z.x → sizes (cleared z x) ≡ z
unfolding cleared
cleared-same z x h = rw (side_same z.lower, side_same z.upper, length-replicate z.d nought, length-replicate z.work nought, length-replicate {A = ℕ} z.marks 0, h)

pub scratch-same : (s : Buffers) → sizes (scratch_cleared s) ≡ sizes s
unfolding scratch_cleared
scratch-same s = rw (length-replicate, length-replicate)

-- ---- used parts

pub joined_length : (g : ℕ → List Float) (T : ℕ → List ℕ) (n : ℕ) → ((k : ℕ) → k < n → length (g k) ≡ length (T k)) → length (joined g n) ≡ start_of T n
unfolding joined start_of
joined_length g T zero h = refl
joined_length g T (suc n) h = omega (arith, length-append (joined g n) (g n), joined_length g T n (λ k l. h k (omega arith)), h n (omega arith))

runs-length : (way : Way) (T R : ℕ → List ℕ) (k : ℕ) → length (placed way T R k).runs ≡ k
unfolding placed after
runs-length way T R zero = refl
runs-length way T R (suc k) = length-append (placed way T R k).runs (_ ∷ []) ∙ ap (λ (m : ℕ). m + 1) (runs-length way T R k) ∙ add-one k

side-is : (z : SideSizes) (a b c d : ℕ) → a ≡ z.starts → b ≡ z.runs → c ≡ z.index → d ≡ z.values → ◌≡◌ {A = SideSizes} (record { starts = a; runs = b; index = c; values = d }) z
side-is z a b c d e f g h = rw (e, f, g, h)

-- what questions 2, 10 and 11 settle of a side
pub record Fitting (f : Form) (side : Side) (P : Pattern) (n : ℕ) (z : SideSizes) : Type 0 where
  pub starts : z.starts ≡ n + 1
  pub runs : length (runs_kept f z.runs (placed_to f side P n n)) ≡ z.runs
  pub index : index_need f side P n n ≤ z.index
  pub values : value_need f side P n n ≤ z.values

side-kept : (f : Form) (side : Side) (P : Pattern) (n : ℕ) (z : SideSizes) (values : List Float) → Fitting f side P n z
    → length values ≤ z.values → side_sizes (side_placed f side P n z values) ≡ z
unfolding side_placed index_need value_need
side-kept f side P n z values h g =
    side-is z _ _ _ _ (length-table (value_need f side P n) (n + 1) ∙ sym h.starts) h.runs
    (padded-length 0 z.index (placed_to f side P n n).slots h.index)
    (padded-length nought z.values values g)

values-fit : (f : Form) (side : Side) (P : Pattern) (n : ℕ) (rows : List Row) (z : SideSizes) → Fitting f side P n z
    → ((k : ℕ) → k < n → length (values_of f side P n rows k) ≡ length (lists_of f side P n k)) → length (values_kept f side P n rows) ≤ z.values
unfolding values_kept value_need
values-fit f side P n rows z h g = omega (arith, joined_length (values_of f side P n rows) (lists_of f side P n) n g, h.values)

-- places 0 to k - 1 fit
pub room_at : (f : Form) (P : Pattern) (n : ℕ) (z : Sizes) (k : ℕ) (side : Side) → ask_places f P n z k ≡ Pass
    → (index_need f side P n k ≤ (side_of side z).index) × (value_need f side P n k ≤ (side_of side z).values)
unfolding fits index_need value_need placed_to placed start_of
room_at f P n z zero side e = (omega arith, omega arith)
room_at f P n z (suc k) side e =
    let a = and_cases (leb (index_need f side P n (suc k)) (side_of side z).index) (leb (value_need f side P n (suc k)) (side_of side z).values) ((places-pass f P n z (suc k) e k (omega arith)).fit side) in
    (leb-true _ _ a.0, leb-true _ _ a.1)

-- the tests of question 2, by their index
tests : (f : Form) (i : Input) (z : Sizes) → shape f i z ≡ Pass → (k : ℕ) → get_or (matrix_tests i ++ buffer_tests f i.n z) k true ≡ true
unfolding shape ask_shape
tests f i z e =
    let a = both-pass (holds (rows_within i.n) Rows) (holds (all (matrix_tests i ++ buffer_tests f i.n z)) Lengths) e in
    all_true (matrix_tests i ++ buffer_tests f i.n z) (holds-pass (all (matrix_tests i ++ buffer_tests f i.n z)) Lengths a.1)

module _ (i : Input) (z : Sizes) where
  plain-side : (side : Side) → (side_of side z).starts ≡ i.n + 1 → ask_places Plain (stored i) i.n z i.n ≡ Pass → Fitting Plain side (stored i) i.n (side_of side z)
  plain-side side e p =
      let a = room_at Plain (stored i) i.n z i.n side p in
      record { starts = e; runs = length-replicate {A = ℕ} (side_of side z).runs 0; index = a.0; values = a.1 }

  shared-side : (side : Side) → (side_of side z).starts ≡ i.n + 1 → (side_of side z).runs ≡ i.n → ask_places Shared (stored i) i.n z i.n ≡ Pass → Fitting Shared side (stored i) i.n (side_of side z)
  unfolding placed_to
  shared-side side e g p =
      let a = room_at Shared (stored i) i.n z i.n side p in
      record { starts = e; runs = runs-length (way_of Shared) (lists_of Shared side (stored i) i.n) (rows_of side (stored i)) i.n ∙ sym g; index = a.0; values = a.1 }

  pub values-long : (f : Form) (side : Side) (rows : List Row) → LongTo (system i) i.n rows → (k : ℕ) → k < i.n → length (values_of f side (stored i) i.n rows k) ≡ length (lists_of f side (stored i) i.n k)
  unfolding system
  values-long f Upper rows h k l = (h.1 k l).u
  values-long Plain Lower rows h k l = (h.1 k l).l
  values-long Shared Lower rows h k l = length-map (upper_row (flip (stored i)) i.n k) (λ j. multiplier (stored i) rows j k)
  values-long ByRow Lower rows h k l = refl

sizes-is : (z : Sizes) (a b : SideSizes) (c d : ℕ) → a ≡ z.lower → b ≡ z.upper → c ≡ z.d → d ≡ z.x → ◌≡◌ {A = Sizes} (record { lower = a; upper = b; d = c; x = d; work = z.work; marks = z.marks }) z
sizes-is z a b c d e f g h = rw (e, f, g, h)

kept_same : (f : Form) (i : Input) (z : Sizes) (a : Result) → Fitting f Lower (stored i) i.n z.lower → Fitting f Upper (stored i) i.n z.upper → z.d ≡ i.n → z.x ≡ i.n
    → LongTo (system i) i.n a.rows → sizes (kept f i z a) ≡ z
unfolding kept pivots_kept own_order
kept_same f i z a u v d x h =
    rw (length-replicate z.work nought, length-replicate {A = ℕ} z.marks 0)
    (sizes-is z _ _ _ _ (side-kept f Lower (stored i) i.n z.lower _ u (values-fit f Lower (stored i) i.n a.rows z.lower u (values-long i z f Lower a.rows h))) (side-kept f Upper (stored i) i.n z.upper _ v (values-fit f Upper (stored i) i.n a.rows z.upper v (values-long i z f Upper a.rows h)))
    (length-table (λ k. (get_or a.rows k none).d) i.n ∙ sym d) (length-table _ i.n ∙ sym x))

pub long-listed : (i : Input) (a : Result) → listed i ≡ ok a → LongTo (system i) i.n a.rows
unfolding listed system
long-listed i a e = rw (← judged-value i.floor (whole_run (system i)) a e) (whole_length (system i))

own-length : (i : Input) (z : List Float) → length (own_order i.c i.n z) ≡ i.n
unfolding own_order
own-length i z = length-table _ i.n

pub left-same : (f : Form) (i : Input) (z : Sizes) (a : Result) → shape f i z ≡ Pass → ask_places f (stored i) i.n z i.n ≡ Pass → listed i ≡ ok a → sizes (left f i z a) ≡ z
left-same Plain i z a p q e =
    let t = tests Plain i z p in
    kept_same Plain i z a (plain-side i z Lower (eqb-true _ _ (t 6)) q) (plain-side i z Upper (eqb-true _ _ (t 9)) q) (eqb-true _ _ (t 12)) (eqb-true _ _ (t 13)) (long-listed i a e)
left-same Shared i z a p q e =
    let t = tests Shared i z p in
    kept_same Shared i z a (shared-side i z Lower (eqb-true _ _ (t 6)) (eqb-true _ _ (t 9)) q) (shared-side i z Upper (eqb-true _ _ (t 10)) (eqb-true _ _ (t 13)) q) (eqb-true _ _ (t 14)) (eqb-true _ _ (t 15)) (long-listed i a e)
left-same ByRow i z a p q e =
    let t = tests ByRow i z p in
    cleared-same z (own_order i.c i.n a.z) (own-length i a.z ∙ sym (eqb-true _ _ (t 11)))

chain_same : (f : Form) (i : Input) (s : Buffers) (a b c : Asked) (o : Out Result) → ((r : Result) → a ≡ Pass → c ≡ Pass → o ≡ ok r → sizes (left f i (sizes s) r) ≡ sizes s)
    → sizes (stop Err a s (stop Err b (scratch_cleared s) (stop Err c (cleared (sizes s) s.x) (concluded f i (sizes s) s.x o)))).buffers ≡ sizes s
chain_same f i s (Err q) b c o h = refl
chain_same f i s (Ok _) (Err q) c o h = scratch-same s
chain_same f i s (Ok _) (Ok _) (Err q) o h = cleared-same (sizes s) s.x refl
chain_same f i s (Ok _) (Ok _) (Ok _) (ok a) h = h a refl refl refl
chain_same f i s (Ok _) (Ok _) (Ok _) (met q) h = cleared-same (sizes s) s.x refl

pub lengths-kept : (f : Form) (i : Input) (s : Buffers) → sizes (solve f i s).buffers ≡ sizes s
unfolding solve
lengths-kept f i s =
    chain_same f i s (shape f i (sizes s)) (ask_solve i) (ask_places f (stored i) i.n (sizes s) i.n) (listed i) (λ r p q e. left-same f i (sizes s) r p q e)

empty-is : {A : Type 0} (l : List A) → length l ≡ 0 → l ≡ []
empty-is [] e = refl
empty-is (x ∷ l) e = absurd (omega arith)

-- a buffer that a form is not lent, [] at entry, is [] at exit: here the plain form's run starts
pub runs-unlent : (f : Form) (i : Input) (s : Buffers) → s.lower.runs ≡ [] → s.upper.runs ≡ [] → ((solve f i s).buffers.lower.runs ≡ []) × ((solve f i s).buffers.upper.runs ≡ [])
runs-unlent f i s a b = (
  empty-is _ (ap (λ (z : Sizes). z.lower.runs) (lengths-kept f i s) ∙ ap length a),
  empty-is _ (ap (λ (z : Sizes). z.upper.runs) (lengths-kept f i s) ∙ ap length b),
)
