-- After a structure call or a solve that ends without a refusal, the lookup hands back T(k), and lower row k or lower column k.
use Rattle.std.specs.Prelude.{Ok, Err}
use mathlib.Core.Path.{◌≡◌, refl, sym, ap, ◌∙◌}
use mathlib.Core.Bool.{Bool, true, ◌&&◌, false≢true}
use mathlib.Core.List.{List, [], ◌∷◌, ◌++◌, append_assoc}
use Prim.Native.Nat.{ℕ, zero, suc, ◌≤◌, ◌<◌}
use native.Mathlib.Omega.{arith}
use lib.ListN.{length, get_or, replicate}
use lib.Seq.{take_at}
use lib.Dec.{leb, eqb}
use lib.Ieee.{Float}
use borrow.Author.Tests.{leb-true, le-leb, eq-eqb}
use Rattle.base.specs.Lists.{padded}
use Rattle.base.specs.ZerosLaws.{padded-length}
use Rattle.base.specs.Tests.{and_cases}
use Rattle.base.specs.All.{all}
use Rattle.base.specs.AllLaws.{all_true}
use Rattle.base.specs.Answers.{spot, holds, number_of_answer, Pass, Asked, Answer}
use Rattle.base.specs.declared.Form.{Form}
use Rattle.base.specs.declared.Form.TheVariants.{Plain, Shared, ByRow}
use Rattle.base.specs.declared.Side.{Side}
use Rattle.base.specs.declared.Side.TheVariants.{Lower, Upper}
use Rattle.base.specs.declared.Counts.{Counts}
use Rattle.base.specs.declared.Refusal.TheVariants.{Rows, Lengths}
use Rattle.fill.specs.Fill.{Pattern}
use Rattle.fill.proofs.ListLaws.{lower-is-upper}
use Rattle.base.specs.Limits.{rows_within, max_slots}
use Rattle.matrix.specs.Input.{Input, stored}
use Rattle.matrix.specs.Questions.{ask_structure, ask_solve}
use Rattle.arithmetic.specs.Arith.{Out, ok, met, Result}
use Rattle.outcome.specs.Forms.{placed_to, index_need, value_need}
use Rattle.outcome.specs.Forms as forms
use Rattle.outcome.specs.Buffers.{SideBuffers, Buffers, plain_buffers, shared_buffers, sizes, side_of, pattern_tests, matrix_tests, list_tests, scratch_tests, structure_tests, buffer_tests, ask_shape, Outcome, ended, stop}
use Rattle.base.specs.declared.SideSizes.{SideSizes}
use Rattle.base.specs.declared.Sizes.{Sizes}
use Rattle.outcome.specs.Structure.{fits, ask_places, side_placed, structured, structure}
use Rattle.outcome.specs.Solve.{listed, fault_of, values_kept, kept, concluded, shape, solve}
use Rattle.outcome.specs.Placed.{RunsAre, PlacedSide, lists-kept, starts-long, size-at, run_inside, list_at-is}
use Rattle.outcome.specs.Resolve.{runs_of}
use Rattle.base.specs.FirstLaws.{both-pass, holds-pass}
use Rattle.outcome.proofs.Asking.{number-some}
use Rattle.outcome.proofs.Places.{places-pass}
use Rattle.lookup.specs.Lookup.{run_starts, sized, both_fit, span_of, within, span_in, lookup}
use Rattle.lookup.specs.LookupLaws.{part-is}
use Rattle.lists.specs.Handed.{leaves, presented, handed, Handed, HandedPlain, HandedShared}

-- ---- a side as a success leaves it is found list by list

-- its lists stand in an index store within its limit
pub record Standing (f : Form) (side : Side) (P : Pattern) (n : ℕ) (b : SideBuffers) : Type 0 where
  pub placed : PlacedSide f side P n b.starts (runs_of f b) b.index (value_need f side P n n)
  pub few : length b.index ≤ max_slots

runs-long : (f : Form) → leaves f ≡ true → (side : Side) (P : Pattern) (n : ℕ) (b : SideBuffers) → Standing f side P n b → length (runs_of f b) ≡ run_starts f n
runs-long Plain v side P n b h = starts-long Plain side P n b.starts b.starts b.index (value_need Plain side P n n) h.placed
runs-long Shared v side P n b h = ap length h.placed.runs-are ∙ (lists-kept Shared side P n n (omega arith)).count ∙ omega arith
runs-long ByRow v side P n b h = absurd (false≢true v)

all-sized : (a b c d : Bool) → a ≡ true → b ≡ true → c ≡ true → d ≡ true → (a && (b && c && d)) ≡ true
all-sized a b c d e f g h = rw (e, f, g, h)

side-sized : (f : Form) → leaves f ≡ true → (side : Side) (P : Pattern) (n : ℕ) (b : SideBuffers) → rows_within n ≡ true → Standing f side P n b → sized f n (presented f b) ≡ true
unfolding sized
side-sized f v side P n b few h =
    all-sized _ _ _ _ few (eq-eqb _ _ (starts-long f side P n b.starts (runs_of f b) b.index (value_need f side P n n) h.placed))
    (eq-eqb _ _ (runs-long f v side P n b h)) (le-leb _ _ h.few)

module _ (f : Form) (v : leaves f ≡ true) (P : Pattern) (n : ℕ) (t : Buffers) (few : rows_within n ≡ true)
    (l : Standing f Lower P n t.lower) (u : Standing f Upper P n t.upper) where
  fit : both_fit f n (presented f t.lower) (presented f t.upper) ≡ true
  unfolding both_fit
  fit = rw (side-sized f v Lower P n t.lower few l, side-sized f v Upper P n t.upper few u)

  part : (side : Side) (b : SideBuffers) → Standing f side P n b → (k : ℕ) → k < n
      → within b.index (span_of true (spot k) n (presented f b)) ≡ forms.lists_of f side P n k
  part side b h k m =
      part-is (spot k) n b.starts (runs_of f b) b.index m
      (omega (arith, size-at f side P n b.starts (runs_of f b) b.index (value_need f side P n n) h.placed k m))
      (run_inside f side P n b.starts (runs_of f b) b.index (value_need f side P n n) h.placed k m)
      ∙ list_at-is f side P n b.starts (runs_of f b) b.index (value_need f side P n n) h.placed k m

  found : (side : Side) (k : ℕ) → k < n → handed f side n k t ≡ forms.lists_of f side P n k
  unfolding lookup span_in
  found Lower k m = rw fit (part Lower t.lower l k m)
  found Upper k m = rw fit (part Upper t.upper u k m)

-- ---- what the questions settle

-- a list of tests that hold, from some test on
past : (a b : List Bool) → ((k : ℕ) → get_or (a ++ b) k true ≡ true) → (k : ℕ) → get_or b k true ≡ true
past [] b t k = t k
past (x ∷ a) b t k = past a b (λ j. t (suc j)) k

-- question 2
index-few : (f : Form) → leaves f ≡ true → (n : ℕ) (z : Sizes) (more : List Bool) → ((k : ℕ) → get_or (list_tests f n z ++ more) k true ≡ true)
    → (side : Side) → (side_of side z).index ≤ max_slots
index-few Plain v n z more t Lower = leb-true _ _ (t 1)
index-few Plain v n z more t Upper = leb-true _ _ (t 4)
index-few Shared v n z more t Lower = leb-true _ _ (t 1)
index-few Shared v n z more t Upper = leb-true _ _ (t 5)
index-few ByRow v n z more t side = absurd (false≢true v)

-- questions 10 and 11
index-room : (f : Form) (side : Side) (P : Pattern) (n : ℕ) (z : Sizes) (m : ℕ) → 1 ≤ m → ask_places f P n z m ≡ Pass → index_need f side P n m ≤ (side_of side z).index
unfolding fits
index-room f side P n z zero l e = absurd (omega arith)
index-room f side P n z (suc m) l e =
    leb-true _ _ (and_cases _ (leb (value_need f side P n (suc m)) (side_of side z).values) ((places-pass f P n z (suc m) e m (omega arith)).fit side)).0

runs-kept : (f : Form) → leaves f ≡ true → (side : Side) (P : Pattern) (n : ℕ) (z : SideSizes) (values : List Float)
    → RunsAre f side P n (side_placed f side P n z values).starts (runs_of f (side_placed f side P n z values))
unfolding side_placed
runs-kept Plain v side P n z values = refl
runs-kept Shared v side P n z values = refl
runs-kept ByRow v side P n z values = absurd (false≢true v)

standing : (f : Form) → leaves f ≡ true → (side : Side) (P : Pattern) (n : ℕ) (z : SideSizes) (values : List Float) (b : SideBuffers)
    → index_need f side P n n ≤ z.index → z.index ≤ max_slots → b ≡ side_placed f side P n z values → Standing f side P n b
unfolding side_placed index_need padded
standing f v side P n z values b room few e =
    let long : length (padded 0 z.index (placed_to f side P n n).slots) ≡ z.index = padded-length 0 z.index (placed_to f side P n n).slots room in
    rw e (record {
      placed = record {
        starts-are = refl;
        runs-are = runs-kept f v side P n z values;
        slots-are = take_at (placed_to f side P n n).slots _ _ refl;
        index_in = omega arith;
        values-in = omega arith;
      };
      few = omega arith;
    })

-- both sides of a call that left its lists
pub record Stood (f : Form) (i : Input) (t : Buffers) : Type 0 where
  pub rows : rows_within i.n ≡ true
  pub lower : Standing f Lower (stored i) i.n t.lower
  pub upper : Standing f Upper (stored i) i.n t.upper

-- a call that passed questions 1, 2 and 9 to 11, and left each side with its lists
module _ (f : Form) (v : leaves f ≡ true) (i : Input) (z : Sizes) (t : Buffers) where
  settled : (before own more : List Bool) → own ≡ list_tests f i.n z ++ more → ask_shape i.n (before ++ own) ≡ Pass → ask_places f (stored i) i.n z i.n ≡ Pass
      → (lv uv : List Float) → t.lower ≡ side_placed f Lower (stored i) i.n z.lower lv → t.upper ≡ side_placed f Upper (stored i) i.n z.upper uv → Stood f i t
  unfolding ask_shape
  settled before own more o a b lv uv el eu =
      let p = both-pass (holds (rows_within i.n) Rows) (holds (all (before ++ own)) Lengths) a in
      let rows = holds-pass (rows_within i.n) Rows p.0 in
      let few = index-few f v i.n z more (rw o at (past before own (all_true (before ++ own) (holds-pass (all (before ++ own)) Lengths p.1)))) in
      let some = leb-true 1 i.n (and_cases (leb 1 i.n) _ rows).0 in
      let room : (side : Side) → index_need f side (stored i) i.n i.n ≤ (side_of side z).index = λ side. index-room f side (stored i) i.n z i.n some b in
      record {
        rows = rows;
        lower = standing f v Lower (stored i) i.n z.lower lv t.lower (room Lower) (few Lower) el;
        upper = standing f v Upper (stored i) i.n z.upper uv t.upper (room Upper) (few Upper) eu;
      }

  stood-handed : Stood f i t → Handed f i t
  stood-handed h = found f v (stored i) i.n t h.rows h.lower h.upper

-- ---- the calls

-- no question stopped a call that is done
pub stop-done : (a : Asked) (s t : Buffers) (rest : Outcome Answer) (c : Counts) → stop Err a s rest ≡ ended (Ok c) t → (a ≡ Pass) × (rest ≡ ended (Ok c) t)
stop-done (Ok _) s t rest c e = (refl, e)
stop-done (Err q) s t rest c e = absurd (number-some q (ap (λ (o : Outcome Answer). number_of_answer o.answer) e))

-- a structure call that is done: its questions, its lists, its scratch
pub record Structures (f : Form) (i : Input) (s t : Buffers) : Type 0 where
  pub shaped : ask_shape i.n (pattern_tests i ++ structure_tests f i.n (sizes s)) ≡ Pass
  pub asked : ask_structure i ≡ Pass
  pub stood : Stood f i t
  pub marks : t.marks ≡ replicate (sizes s).marks 0

pub structure-done : (f : Form) → leaves f ≡ true → (i : Input) (s t : Buffers) (c : Counts) → structure f i s ≡ ended (Ok c) t → Structures f i s t
unfolding structure structured
structure-done f v i s t c e =
    let p = stop-done (ask_shape i.n (pattern_tests i ++ structure_tests f i.n (sizes s))) s t _ c e in
    let q = stop-done (ask_structure i) _ t _ c p.1 in
    let r = stop-done (ask_places f (stored i) i.n (sizes s) i.n) _ t _ c q.1 in
    record {
      shaped = p.0;
      asked = q.0;
      stood =
          settled f v i (sizes s) t (pattern_tests i) (structure_tests f i.n (sizes s)) _ refl p.0 r.0 [] []
          (sym (ap (λ (o : Outcome Answer). o.buffers.lower) r.1)) (sym (ap (λ (o : Outcome Answer). o.buffers.upper) r.1));
      marks = sym (ap (λ (o : Outcome Answer). o.buffers.marks) r.1);
    }

-- "Lookup", after the structure call
pub structure-handed : (f : Form) → leaves f ≡ true → (i : Input) (s t : Buffers) (c : Counts) → structure f i s ≡ ended (Ok c) t → Handed f i t
structure-handed f v i s t c e = stood-handed f v i (sizes s) t (structure-done f v i s t c e).stood

-- the two sides of what a solve leaves
concluded-sides : (f : Form) → leaves f ≡ true → (i : Input) (z : Sizes) (x : List Float) (t : Buffers) (c : Counts) (o : Out Result) → concluded f i z x o ≡ ended (Ok c) t
    → (a : Result) × (t.lower ≡ side_placed f Lower (stored i) i.n z.lower (values_kept f Lower (stored i) i.n a.rows))
    × (t.upper ≡ side_placed f Upper (stored i) i.n z.upper (values_kept f Upper (stored i) i.n a.rows))
unfolding kept
concluded-sides Plain v i z x t c (ok a) e = (a, sym (ap (λ (o : Outcome Answer). o.buffers.lower) e), sym (ap (λ (o : Outcome Answer). o.buffers.upper) e))
concluded-sides Shared v i z x t c (ok a) e = (a, sym (ap (λ (o : Outcome Answer). o.buffers.lower) e), sym (ap (λ (o : Outcome Answer). o.buffers.upper) e))
concluded-sides ByRow v i z x t c (ok a) e = absurd (false≢true v)
concluded-sides f v i z x t c (met q) e = absurd (number-some (fault_of q) (ap (λ (o : Outcome Answer). number_of_answer o.answer) e))

-- after a solve
pub solve-handed : (f : Form) → leaves f ≡ true → (i : Input) (s t : Buffers) (c : Counts) → solve f i s ≡ ended (Ok c) t → Handed f i t
unfolding solve shape
solve-handed f v i s t c e =
    let p = stop-done (shape f i (sizes s)) s t _ c e in
    let q = stop-done (ask_solve i) _ t _ c p.1 in
    let r = stop-done (ask_places f (stored i) i.n (sizes s) i.n) _ t _ c q.1 in
    let k = concluded-sides f v i (sizes s) s.x t c (listed i) r.1 in
    stood-handed f v i (sizes s) t (settled f v i (sizes s) t (matrix_tests i) (buffer_tests f i.n (sizes s)) _
    (append_assoc (list_tests f i.n (sizes s)) (eqb (length s.d) i.n ∷ eqb (length s.x) i.n ∷ []) (scratch_tests i.n (sizes s))) p.0 r.0 _ _ k.1 k.2)

-- ---- the same by the slices of each call, as the contracts of `structure_plain`, `solve_plain` and `list_plain` name them, and of the shared ones

module _ (i : Input) (s : Buffers) (c : Counts) (ls li us ui : List ℕ) (lv uv d x w : List Float) (m : List ℕ) where
  plain_by : Handed Plain i (plain_buffers ls li lv us ui uv d x w m) → HandedPlain i ls li us ui
  plain_by h = record { lower = h Lower; upper = h Upper }

  pub structure-plain : ended (Ok c) (plain_buffers ls li lv us ui uv d x w m) ≡ structure Plain i s → HandedPlain i ls li us ui
  structure-plain e = plain_by (structure-handed Plain refl i s _ c (sym e))

  pub solve-plain : ended (Ok c) (plain_buffers ls li lv us ui uv d x w m) ≡ solve Plain i s → HandedPlain i ls li us ui
  solve-plain e = plain_by (solve-handed Plain refl i s _ c (sym e))

module _ (i : Input) (s : Buffers) (c : Counts) (ls lr li us ur ui : List ℕ) (lv uv d x w : List Float) (m : List ℕ) where
  shared-by : Handed Shared i (shared_buffers ls lr li lv us ur ui uv d x w m) → HandedShared i ls lr li us ur ui
  shared-by h = record { lower = λ k l. h Lower k l ∙ sym (lower-is-upper (stored i) i.n k); upper = h Upper }

  pub structure-shared : ended (Ok c) (shared_buffers ls lr li lv us ur ui uv d x w m) ≡ structure Shared i s → HandedShared i ls lr li us ur ui
  structure-shared e = shared-by (structure-handed Shared refl i s _ c (sym e))

  pub solve-shared : ended (Ok c) (shared_buffers ls lr li lv us ur ui uv d x w m) ≡ solve Shared i s → HandedShared i ls lr li us ur ui
  solve-shared e = shared-by (solve-handed Shared refl i s _ c (sym e))
