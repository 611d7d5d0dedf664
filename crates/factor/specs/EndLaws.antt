-- Before the first row, and from the last row and the back steps to the answer.
use Rattle.std.proofs.Math.Path.{◌≡◌, refl, sym, ap}
use Rattle.std.proofs.Common.{◌∙◌, subst, true≢false, arith, zero-add, length-drop, ext_get_or, get_or-take, get_or-drop, drop-drop, length-take-le}
use mathlib.Core.List.{List, [], ◌∷◌, ◌++◌, append_assoc}
use Rattle.std.specs.Prelude.{ℕ, zero, suc, ◌+◌, ◌-◌, ◌<◌, ◌≤◌, length, take, drop, set, replicate, Result, Ok, Err, MatchResult, IsErrAnd, is_ok, ⊤, Float}
use Rattle.std.proofs.Math.Decide.{dec_lt}
use Rattle.std.proofs.Math.ListN.{get_or, length-replicate, get_or-replicate}
use Rattle.std.proofs.Math.Seq.{length-sets}
use Rattle.std.proofs.lemmas.List.Edits.{sets-eq}
use Rattle.std.specs.Float.{nan, binary64}
use Rattle.std.specs.Float.Ieee.{mul, sub}
use Rattle.std.specs.Float.Ieee.Scale.{finite}
use Rattle.base.specs.Lists.{nought, blank, joined, padded, table}
use Rattle.base.specs.Tests.{by-test}
use Rattle.base.specs.TableLaws.{get_or-table, length-table, joined-ext}
use Rattle.base.specs.declared.Form.{Form}
use Rattle.base.specs.declared.Form.TheVariants.{Plain, Shared, ByRow}
use Rattle.base.specs.declared.Side.TheVariants.{Lower, Upper}
use Rattle.fill.specs.Fill.{Pattern}
use Rattle.placement.specs.Placing.{start_of}
use Rattle.matrix.specs.Input.{Input, stored}
use Rattle.arithmetic.specs.Arith as operations
use Rattle.arithmetic.specs.Arith.{zero_pivot, overflow, Out, ok, met, Row, none, Given}
use Rattle.arithmetic.specs.Stopping.{◌>>=◌, at, less, rest, back}
use Rattle.outcome.specs.Forms.{value_need}
use Rattle.outcome.specs.Placed.{PlacedSide, start-at, size-at, list_at-is}
use Rattle.outcome.specs.Solve.{system, values_kept, pivots_kept}
use Rattle.outcome.proofs.Meaning.{listed-stops}
use Rattle.lent.specs.Reading.{But}
use Rattle.marks.specs.MarkLaws.{sets_below, sets-above}
use Rattle.marks.specs.RenewLaws as found
use Rattle.numeric.specs.Stores.{store_given, numbered_back}
use Rattle.numeric.specs.Rows.{u_of, l_of, column_of}
use Rattle.numeric.specs.KeepLaws.{columns-start, columns-end}
use Rattle.numeric.specs.StoreLaws.{sets-part, stacked-none, stacked-all}
use Rattle.numeric.specs.PassLaws.{held_start, held-y, held-solved, held-stopped}
use Rattle.questions.specs.Lent.{Inverse}
use Rattle.questions.specs.ScatterLaws.{inverse-same}
use Rattle.factor.specs.Factoring.{Factors, FactoredAs, PlacedLists, Workspace, LowerPlaced, Factorable, zeroed, fresh_marks, LowerHeld, Finding, Going, back_as, BackReady}
use Rattle.factor.specs.SystemLaws.{placed-shape}
use Rattle.factor.specs.TurnLaws.{SameSizes, none_left, same-given}
use Rattle.factor.specs.ColumnLaws.{shared-side, shared-fits, column-is}
use Rattle.factor.specs.declared.Fault.{Fault}
use Rattle.factor.specs.declared.Fault.TheVariants.{Zero, Overflow}
use Rattle.base.specs.Scratch.{inverse_from, upper_cuts, cursors_from, regions_end, z_from}

-- ---- before the first row

pub cleared : (x y : List Float) → length x ≡ length y → x ≡ blank nought y → x ≡ replicate (length x) nought
unfolding blank
cleared x y l e = e ∙ rw l

-- a part that was cleared and came back
pub part-zeroed : (n from end : ℕ) (s part : List ℕ) → from + n ≤ length s → end ≡ from + n → part ≡ blank 0 (take (end - from) (drop from s))
    → take from s ++ (part ++ drop (end - from) (drop from s)) ≡ zeroed n from s
unfolding zeroed blank
part-zeroed n from end s part h e q =
    let k : end - from ≡ n = omega arith in
    let long : length (take n (drop from s)) ≡ n = length-take-le n (drop from s) (simp length-drop (omega arith)) in
    let z = replicate {A = ℕ} n 0 in
    let m : length z ≡ n = length-replicate n 0 in
    rw (q, k, long, drop-drop n from s) (sym (append_assoc (take from s) z (drop (from + n) s)) ∙ ap (λ (x : ℕ). take from s ++ z ++ drop (from + x) s) (sym m) ∙ sym (sets-eq z s from (omega arith)))

module _ (n from : ℕ) (s : List ℕ) where
  zeroed-length : length (zeroed n from s) ≡ length s
  unfolding zeroed
  zeroed-length = length-sets s from (replicate n 0)

  zeroed-in : (j : ℕ) → from + n ≤ length s → j < n → get_or (zeroed n from s) (from + j) 0 ≡ 0
  unfolding zeroed
  zeroed-in j h b =
      sym (get_or-drop from (zeroed n from s) j 0) ∙ sym (get_or-take n (drop from (zeroed n from s)) j 0 b)
      ∙ ap (λ (l : List ℕ). get_or l j 0) (sets-part s (replicate n 0) from n (length-replicate n 0) h) ∙ get_or-replicate n j 0 0 b

  zeroed-out : But from (from + n) s (zeroed n from s)
  unfolding zeroed
  zeroed-out q g = elim (dec_lt q from) [
    | yes b ↦ sets_below s from (replicate n 0) q b
    | no b ↦ sets-above s from (replicate n 0) q (omega (arith, g (omega arith), length-replicate {A = ℕ} n 0))
  ]

pub going_start : {f : Form} {i : Input} {L : PlacedLists} {w : Workspace} → Factorable f i L w → w.upper ≡ replicate (length w.upper) nought → w.work ≡ replicate (length w.work) nought
    → LowerHeld f (system i) [] 0 L.lower-starts (drop (cursors_from i.n) w.marks) w.lower → Finding f i L 0 w.marks → Going f i L 0 w
unfolding system
going_start {f} {i} {L} {w} F eu ew lower find = record {
  given = F;
  rows = [];
  held = held_start (system i) i.n w.work L.upper-starts L.upper-runs L.upper-index w.upper refl
      (λ j b. sym (list_at-is f Upper (stored i) i.n L.upper-starts L.upper-runs L.upper-index (length w.upper) F.upper-side j b))
      (ew ∙ ap (λ (m : ℕ). replicate m nought) F.scratch) eu;
  pivots = λ j b. absurd (omega arith);
  lower = lower;
  finding = find;
}

-- w as it was lent, and x once it is cleared for the rows
module _ (i : Input) (L : PlacedLists) {w : Workspace} (x : Workspace) (s : SameSizes w x) (slots : regions_end i.n ≤ length w.marks) (el : x.lower ≡ blank nought w.lower)
    (em : x.marks ≡ fresh_marks i.n w.marks) where
  -- no mark and no cut yet
  mark-at : (j : ℕ) → j < i.n → get_or x.marks j 0 ≡ 0
  mark-at j b =
      rw em (zeroed-out i.n (cursors_from i.n) (zeroed i.n 0 w.marks) j (λ q. absurd (omega arith))
      ∙ ap (λ (q : ℕ). get_or (zeroed i.n 0 w.marks) q 0) (sym (zero-add j)) ∙ zeroed-in i.n 0 w.marks j (omega arith) b)

  found-start : Finding ByRow i L 0 x.marks
  found-start = found.held_start (stored i) i.n (0 + 1) (upper_cuts i.n) x.marks L.upper-starts L.upper-runs L.upper-index (λ j b. omega (arith, mark-at j b))

  cursor-at : (j : ℕ) → j < i.n → get_or (drop (cursors_from i.n) x.marks) j 0 ≡ 0
  cursor-at j b = get_or-drop (cursors_from i.n) x.marks j 0 ∙ rw em (zeroed-in i.n (cursors_from i.n) (zeroed i.n 0 w.marks) j (omega (arith, zeroed-length i.n 0 w.marks)) b)

  inverse-kept : Inverse i w.marks → Inverse i x.marks
  inverse-kept =
      inverse-same (λ j b. rw em (zeroed-out i.n (cursors_from i.n) (zeroed i.n 0 w.marks) (inverse_from i.n + j) (λ q. absurd (omega arith)) ∙ zeroed-out i.n 0 w.marks (inverse_from i.n + j) (λ q. omega arith)))

  finding-start : (f : Form) → Finding f i L 0 x.marks
  finding-start Plain = tt
  finding-start Shared = found-start
  finding-start ByRow = found-start

  lower-start : (f : Form) → LowerPlaced f (stored i) i.n L x.lower → LowerHeld f (system i) [] 0 L.lower-starts (drop (cursors_from i.n) x.marks) x.lower
  unfolding system
  lower-start Plain S = stacked-none nought (l_of []) L.lower-starts x.lower (cleared x.lower w.lower s.lower-size el)
  lower-start Shared S =
      columns-start (system i) L.lower-starts
      (λ j b. omega (arith, size-at Shared Lower (stored i) i.n L.lower-starts _ _ (length x.lower) (shared-side (stored i) i.n L.lower-starts (length x.lower) S) j b))
      (shared-fits i L.lower-starts (length x.lower) S) [] (drop (cursors_from i.n) x.marks) x.lower cursor-at (cleared x.lower w.lower s.lower-size el)
  lower-start ByRow S = S

pub form-start : (f : Form) {i : Input} {L : PlacedLists} {w : Workspace} (x : Workspace) → Factorable f i L w → SameSizes w x → x.lower ≡ blank nought w.lower → x.upper ≡ blank nought w.upper
    → x.work ≡ blank nought w.work → x.marks ≡ fresh_marks i.n w.marks → Going f i L 0 x
form-start f {i} {L} {w} x F s el eu ew em =
    let G = same-given s (inverse-kept i L x s F.slots el em F.inverse) F in
    going_start G (cleared x.upper w.upper s.upper-size eu) (cleared x.work w.work s.work-size ew) (lower-start i L x s F.slots el em f G.lower-side) (finding-start i L x s F.slots el em f)

-- ---- a fault in the back steps is an overflow at one of the n places

bind-fault : {A B C : Type 0} (o : Out A) (g : A → Out B) (q : operations.Fault) → (o >>= g) ≡ met q → (o ≡ met q → C) → ((a : A) → g a ≡ met q → C) → C
bind-fault (ok a) g q e f h = h a e
bind-fault (met p) g q e f h = f (cc)

at-fault : (k : ℕ) (x : Float) (q : operations.Fault) → at k x ≡ met q → q ≡ overflow k
at-fault k x q e = by-test (finite x)
    (λ t. let z : ok x ≡ met q = rw t at e in absurd (let w : ◌≡◌ {A = ℕ} 0 1 = cc in omega arith))
    (λ t. let z : met (overflow k) ≡ met q = rw t at e in cc)

less-fault : (k : ℕ) (v a b : Float) (q : operations.Fault) → less (at k) v a b ≡ met q → q ≡ overflow k
less-fault k v a b q e = bind-fault (at k (mul binary64 a b)) (λ p. at k (sub binary64 v p)) q e (at-fault k (mul binary64 a b) q) (λ p. at-fault k (sub binary64 v p) q)

rest-fault : (k : ℕ) (t : Float) (js : List ℕ) (us z : List Float) (q : operations.Fault) → rest (at k) t js us z ≡ met q → q ≡ overflow k
unfolding rest
rest-fault k t [] us z q e = absurd (let w : ◌≡◌ {A = ℕ} 0 1 = cc in omega arith)
rest-fault k t (j ∷ js) [] z q e = absurd (let w : ◌≡◌ {A = ℕ} 0 1 = cc in omega arith)
rest-fault k t (j ∷ js) (u ∷ us) z q e =
    bind-fault (less (at k) t u (get_or z j nan)) (λ s. rest (at k) s js us z) q e (less-fault k t u (get_or z j nan) q) (λ s. rest-fault k s js us z q)

pub back-fault : (G : Given) (n : ℕ) (z : List Float) (q : operations.Fault) → back G n z ≡ met q → (k : ℕ) × (k < n) × (q ≡ overflow k)
unfolding back
back-fault G zero z q e = absurd (let w : ◌≡◌ {A = ℕ} 0 1 = cc in omega arith)
back-fault G (suc m) z q e =
    bind-fault (rest (at m) (G.y m) (G.upper m) (G.u m) z) (λ t. back G m (set z m t)) q e
    (λ r. (m, omega arith, rest-fault m (G.y m) (G.upper m) (G.u m) z q r))
    (λ t r. let p = back-fault G m (set z m t) q r in (p.0, omega (arith, p.1), p.2))

pub stopped-below : (G : Given) (n k : ℕ) (z : List Float) → met (overflow k) ≡ back G n z → k < n
stopped-below G n k z e =
    let p = back-fault G n z (overflow k) (sym e) in
    let z : k ≡ p.0 = cc in
    omega (arith, p.1)

pub complete-at : (z : List Float) (r : Result ⊤ ℕ) (o : Out (List Float)) → r ≡ Ok tt → numbered_back z r ≡ o → ok z ≡ o
complete-at z r o e h = rw e at h

pub stopped-at : (k : ℕ) (z : List Float) (r : Result ⊤ ℕ) (o : Out (List Float)) → r ≡ Err k → numbered_back z r ≡ o → met (overflow k) ≡ o
stopped-at k z r o e h = rw e at h

-- a place at which the back steps stop, as the fault at it
pub back-mapped : (z : List Float) {P : ℕ → Fault → Type 0} (r : Result ⊤ ℕ) (a : Result ⊤ Fault) → ((k : ℕ) (q : Fault) → P k q → q ≡ Overflow (record { 0 = k }))
    → MatchResult r (λ t. a ≡ Ok t) (λ k. IsErrAnd a (P k)) → is_ok a ≡ is_ok r → back_as z a ≡ numbered_back z r
back-mapped z (Ok t) (Ok u) g h e = refl
back-mapped z (Ok t) (Err q) g h e = absurd (true≢false (sym e))
back-mapped z (Err k) (Ok u) g h e = absurd (true≢false e)
back-mapped z (Err k) (Err q) g h e = rw (g k q h)

-- ---- the factors

upper-kept : (f : Form) (P : Pattern) (n : ℕ) (rows : List Row) → values_kept f Upper P n rows ≡ joined (u_of rows) n
unfolding values_kept
upper-kept Plain P n rows = refl
upper-kept Shared P n rows = refl
upper-kept ByRow P n rows = refl

pivots-kept : (n : ℕ) (d : List Float) (rows : List Row) → length d ≡ n → ((j : ℕ) → j < n → get_or d j nan ≡ (get_or rows j none).d) → d ≡ pivots_kept n rows
unfolding pivots_kept
pivots-kept n d rows l e =
    ext_get_or nan d (table (λ k. (get_or rows k none).d) n) (l ∙ sym (length-table (λ k. (get_or rows k none).d) n))
    (λ j b. e j (omega arith) ∙ sym (get_or-table (λ k. (get_or rows k none).d) n nan j (omega arith)))

start-zero : (f : Form) (P : Pattern) (n : ℕ) (starts runs index : List ℕ) (size : ℕ) → PlacedSide f Upper P n starts runs index size → get_or starts 0 0 ≡ 0
unfolding value_need start_of
start-zero f P n starts runs index size h = start-at f Upper P n starts runs index size h 0 (omega arith)

joined-none : {A : Type 0} (n : ℕ) → joined {A = A} (λ (k : ℕ). []) n ≡ []
unfolding joined
joined-none zero = refl
joined-none {A} (suc n) = ap (λ (l : List A). l ++ []) (joined-none n)

-- L by form
lower-kept : (f : Form) (i : Input) (L : PlacedLists) (rows : List Row) (cursors : List ℕ) (l : List Float) → LowerPlaced f (stored i) i.n L l
    → LowerHeld f (system i) rows i.n L.lower-starts cursors l → l ≡ padded nought (length l) (values_kept f Lower (stored i) i.n rows)
unfolding system values_kept value_need start_of padded
lower-kept Plain i L rows cursors l S h =
    stacked-all nought (l_of rows) i.n L.lower-starts l
    (start-at Plain Lower (stored i) i.n L.lower-starts L.lower-starts L.lower-index (length l) S 0 (omega arith))
    (λ j b. omega (arith, size-at Plain Lower (stored i) i.n L.lower-starts L.lower-starts L.lower-index (length l) S j b))
    (omega (arith, start-at Plain Lower (stored i) i.n L.lower-starts L.lower-starts L.lower-index (length l) S i.n (omega arith), S.values-in)) h
lower-kept Shared i L rows cursors l S h =
    let side = shared-side (stored i) i.n L.lower-starts (length l) S in
    stacked-all nought (column_of (system i).lower rows i.n) i.n L.lower-starts l
    (start-at Shared Lower (stored i) i.n L.lower-starts _ _ (length l) side 0 (omega arith))
    (λ j b. omega (arith, size-at Shared Lower (stored i) i.n L.lower-starts _ _ (length l) side j b))
    (omega (arith, start-at Shared Lower (stored i) i.n L.lower-starts _ _ (length l) side i.n (omega arith), S.values-in))
    (columns-end (system i) L.lower-starts (λ j b. omega (arith, size-at Shared Lower (stored i) i.n L.lower-starts _ _ (length l) side j b))
    (shared-fits i L.lower-starts (length l) S) rows cursors l h)
    ∙ ap (padded nought (length l)) (joined-ext _ _ i.n (λ j b. column-is (stored i) i.n rows j))
lower-kept ByRow i L rows cursors l S h = rw (h, joined-none i.n)

-- ---- the answer

module _ {f : Form} {i : Input} {L : PlacedLists} {w : Workspace} (G : Going f i L i.n w) where
  -- what the back steps ask
  pub back-ready : BackReady i.n L.upper-starts L.upper-runs L.upper-index (length w.upper) w.work
  back-ready = record {
    few = omega (arith, G.given.lent.lent.orders.few);
    scratch = G.given.scratch;
    shape = placed-shape f (stored i) i.n L.upper-starts L.upper-runs L.upper-index (length w.upper) G.given.upper-side;
    sums = held-y G.held;
  }

  factors : (z : List Float) → Factors f i (record { rows = G.rows; z = z }) w.lower w.upper w.d z
  unfolding value_need
  factors z =
      let S = G.given.upper-side in
      record {
        lower-values = lower-kept f i L G.rows (drop (cursors_from i.n) w.marks) w.lower G.given.lower-side G.lower;
        upper-values = stacked-all nought (u_of G.rows) i.n L.upper-starts w.upper
            (start-zero f (stored i) i.n L.upper-starts L.upper-runs L.upper-index (length w.upper) S)
            (λ j b. omega (arith, size-at f Upper (stored i) i.n L.upper-starts L.upper-runs L.upper-index (length w.upper) S j b))
            (omega (arith, start-at f Upper (stored i) i.n L.upper-starts L.upper-runs L.upper-index (length w.upper) S i.n (omega arith), S.values-in)) G.held.us
            ∙ ap (padded nought (length w.upper)) (sym (upper-kept f (stored i) i.n G.rows));
        reciprocals = pivots-kept i.n w.d G.rows G.given.reciprocals G.pivots;
        solution = refl;
      }

  pub going_end : (z : List Float) (r : Result ⊤ Fault) → back_as z r ≡ back (store_given i.n w.work L.upper-starts L.upper-runs L.upper-index w.upper) i.n (drop (z_from i.n) w.work)
      → FactoredAs f i r w.lower w.upper w.d z
  unfolding FactoredAs
  going_end z (Ok t) e = (record { rows = G.rows; z = z }, listed-stops i ∙ held-solved G.held z (Ok tt) e refl, factors z)
  going_end z (Err (Overflow k)) e = listed-stops i ∙ held-stopped G.held k.0 z (Err k.0) e refl
  going_end z (Err (Zero k)) e =
      let p = back-fault _ i.n _ (zero_pivot k.0) (sym e) in
      let q = p.2 in
      absurd (let y : ◌≡◌ {A = ℕ} 0 1 = cc in omega arith)

-- the row form's empty lower values
pub row-end : (i : Input) (a : Result ⊤ Fault) (l u d z : List Float) → length l ≡ length {A = Float} [] → FactoredAs ByRow i a l u d z → FactoredAs ByRow i a [] u d z
row-end i a l u d z e F = subst (λ (x : List Float). FactoredAs ByRow i a x u d z) (none_left [] l e refl) F
