-- The factors that a solve or a refactor leaves: the s, y and back steps over them are those of the whole elimination, and question 15 is passed.
use Rattle.std.specs.Prelude.{Ok, None, Err}
use mathlib.Core.Path.{◌≡◌, refl, sym, ap, subst, ◌∙◌}
use mathlib.Core.Bool.{Bool, true, false, not, ◌||◌}
use mathlib.Core.List.{List}
use Prim.Native.Nat.{ℕ, suc, ◌≤◌, ◌<◌}
use native.Mathlib.Omega.{arith}
use lib.ListN.{length, get_or, replicate, length-replicate}
use lib.Ieee.{Float, nan}
use lib.Ieee.Scale.{finite}
use Rattle.base.specs.Lists.{padded, pairs, nought}
use Rattle.base.specs.First.{first}
use Rattle.base.specs.FirstLaws.{first-all}
use Rattle.base.specs.TableLaws.{get_or-table}
use Rattle.base.specs.Answers.{number_of_answer, Pass, Asked, Answer}
use Rattle.base.specs.declared.Form.{Form}
use Rattle.base.specs.declared.Form.TheVariants.{Plain, Shared, ByRow}
use Rattle.base.specs.declared.Side.{Side}
use Rattle.base.specs.declared.Side.TheVariants.{Lower, Upper}
use Rattle.base.specs.declared.Counts.{Counts}
use Rattle.base.specs.declared.Sizes.{Sizes}
use Rattle.fill.specs.Fill.{Pattern, filled, lower_row}
use Rattle.placement.specs.Placing.{start_of}
use Rattle.placement.specs.FillNested.{mem-asc}
use Rattle.matrix.specs.Input.{Input, stored, entries, right_at, own_order}
use Rattle.matrix.specs.Questions.{ask_solve}
use Rattle.arithmetic.specs.Arith.{Out, ok, met, judged, none, Result}
use Rattle.arithmetic.specs.Again.{whole_again}
use Rattle.arithmetic.specs.RowEnd.{finite_all}
use Rattle.arithmetic.specs.Stopping.{solved}
use Rattle.arithmetic.proofs.StoppingLaws.{solved_again-is}
use Rattle.outcome.specs.Forms.{lists_of, value_need, index_need}
use Rattle.outcome.specs.Buffers.{SideBuffers, Buffers, buffers_of, sizes, side_of, Outcome, ended}
use Rattle.outcome.specs.Structure.{ask_places, side_placed}
use Rattle.outcome.specs.Solve.{system, listed, fault_of, values_of, values_kept, pivots_kept, kept, left, concluded, shape, solve}
use Rattle.outcome.specs.Placed.{lists-kept, value_grows}
use Rattle.outcome.specs.Refactor.{ask_presented, revalued, refilled, refactored, refactor}
use Rattle.outcome.specs.Resolve.{given_list, given_values, given_lower, right_side, bad_list, bad_at, ask_factors, factors_of}
use Rattle.outcome.proofs.Asking.{number-some}
use Rattle.outcome.proofs.Lengths.{room_at, values-long, long-listed, left-same}
use Rattle.outcome.proofs.Meaning.{listed-stops}
use Rattle.reuse.specs.Reuse.{Keeps, with_right, Factored, by-solve, by-refactor}
use Rattle.reuse.proofs.Standing.{PlaceStands, placed-laid, laid-stands, places-all, presented-at}
use Rattle.reuse.proofs.Refactoring.{stop-done}
use Rattle.reuse.proofs.OtherRight.{Tame, LowerBelow, RowsStored, other, z_of, solved-tame, solved-right}
use Rattle.reuse.proofs.Stored.{list-is, values-are, lower-plain, lower-shared, lists-rise, values-finite, well-placed}

-- ---- what a solve and a refactor leave

-- the factors of a stand in t, as the call that was lent s left it
pub record FactorsKept (f : Form) (i : Input) (s t : Buffers) (a : Result) : Type 0 where
  pub run : listed i ≡ ok a
  pub lengths : shape f i (sizes s) ≡ Pass
  pub questions : ask_solve i ≡ Pass
  pub places : ask_places f (stored i) i.n (sizes s) i.n ≡ Pass
  pub long : sizes t ≡ sizes s
  pub stands : (side : Side) (k : ℕ) → k < i.n → PlaceStands f side (stored i) i.n (buffers_of side t) k
  pub values : (side : Side) → (buffers_of side t).values ≡ padded nought (side_of side (sizes s)).values (values_kept f side (stored i) i.n a.rows)
  pub d : t.d ≡ pivots_kept i.n a.rows
  pub x : t.x ≡ own_order i.c i.n a.z
  pub work : t.work ≡ replicate (length t.work) nought
  pub marks : t.marks ≡ replicate (length t.marks) 0

pub left-kept : (f : Form) → Keeps f → (i : Input) (z : Sizes) (a : Result) → left f i z a ≡ kept f i z a
left-kept Plain v i z a = refl
left-kept Shared v i z a = refl
left-kept ByRow v i z a = absurd (v refl)

concluded-ok : (f : Form) (i : Input) (z : Sizes) (x : List Float) (c : Counts) (t : Buffers) (o : Out Result) → concluded f i z x o ≡ ended (Ok c) t → (a : Result) × (o ≡ ok a) × (t ≡ left f i z a)
concluded-ok f i z x c t (ok a) e = (a, refl, ap (λ (o : Outcome Answer). o.buffers) (sym e))
concluded-ok f i z x c t (met q) e = absurd (number-some (fault_of q) (ap (λ (o : Outcome Answer). number_of_answer o.answer) e))

pub refactored-ok : (f : Form) (i : Input) (s t : Buffers) (o : Out Result) → refactored f i s o ≡ ended Pass t → (a : Result) × (o ≡ ok a) × (t ≡ (refactored f i s (ok a)).buffers)
refactored-ok f i s t (ok a) e = (a, refl, ap (λ (o : Outcome Asked). o.buffers) (sym e))
refactored-ok f i s t (met q) e = absurd (number-some (fault_of q) (ap (λ (o : Outcome Asked). number_of_answer o.answer) e))

pub zeros-again : {A : Type 0} (v : A) (m : ℕ) → replicate m v ≡ replicate (length (replicate m v)) v
zeros-again v m = ap (λ (k : ℕ). replicate k v) (sym (length-replicate m v))

stands-revalued : (f : Form) (side : Side) (P : Pattern) (n : ℕ) (b : SideBuffers) (values : List Float) (k : ℕ) → PlaceStands f side P n b k → PlaceStands f side P n (revalued b values) k
unfolding revalued
stands-revalued Plain side P n b values k h = record { start = h.start; next = h.next; run = h.run; list = h.list }
stands-revalued Shared side P n b values k h = record { start = h.start; next = h.next; run = h.run; list = h.list }
stands-revalued ByRow side P n b values k h = record { start = h.start; next = h.next; run = h.run; list = h.list }

-- what refactor leaves, the factors of a over the lists of s
abbrev pub filled_in : Form → Input → Buffers → Result → Buffers
filled_in f i s a = refilled f (stored i) i.n s a.rows (pivots_kept i.n a.rows) (own_order i.c i.n a.z)

module _ (f : Form) (v : Keeps f) (i : Input) (s : Buffers) (a : Result) (run : listed i ≡ ok a) (p : shape f i (sizes s) ≡ Pass) (q : ask_solve i ≡ Pass)
    (r : ask_places f (stored i) i.n (sizes s) i.n ≡ Pass) where
  kept-long : sizes (kept f i (sizes s) a) ≡ sizes s
  kept-long = ap sizes (sym (left-kept f v i (sizes s) a)) ∙ left-same f i (sizes s) a p r run

  kept-stands : (side : Side) (k : ℕ) → k < i.n → PlaceStands f side (stored i) i.n (buffers_of side (kept f i (sizes s) a)) k
  unfolding kept
  kept-stands Lower = laid-stands f v Lower (stored i) i.n _ (placed-laid f v Lower (stored i) i.n _ _)
  kept-stands Upper = laid-stands f v Upper (stored i) i.n _ (placed-laid f v Upper (stored i) i.n _ _)

  kept-values : (side : Side) → (buffers_of side (kept f i (sizes s) a)).values ≡ padded nought (side_of side (sizes s)).values (values_kept f side (stored i) i.n a.rows)
  unfolding kept side_placed
  kept-values Lower = refl
  kept-values Upper = refl

  solve-kept : FactorsKept f i s (kept f i (sizes s) a) a
  unfolding kept
  solve-kept =
      record {
        run = run;
        lengths = p;
        questions = q;
        places = r;
        long = kept-long;
        stands = kept-stands;
        values = kept-values;
        d = refl;
        x = refl;
        work = zeros-again nought (length s.work);
        marks = zeros-again 0 (length s.marks);
      }

  -- refactor leaves the same but for unused index slots
  refilled-long : sizes (filled_in f i s a) ≡ sizes s
  unfolding kept side_placed refilled revalued
  refilled-long =
      rw (ap (λ (z : Sizes). z.lower.values) kept-long, ap (λ (z : Sizes). z.upper.values) kept-long, ap (λ (z : Sizes). z.d) kept-long, ap (λ (z : Sizes). z.x) kept-long, length-replicate (length s.work) nought, length-replicate {A = ℕ} (length s.marks) 0)

  module _ (h : (k : ℕ) → k < i.n → (side : Side) → PlaceStands f side (stored i) i.n (buffers_of side s) k) where
    refilled-stands : (side : Side) (k : ℕ) → k < i.n → PlaceStands f side (stored i) i.n (buffers_of side (filled_in f i s a)) k
    unfolding refilled
    refilled-stands Lower k l = stands-revalued f Lower (stored i) i.n s.lower _ k (h k l Lower)
    refilled-stands Upper k l = stands-revalued f Upper (stored i) i.n s.upper _ k (h k l Upper)

    refilled-values : (side : Side) → (buffers_of side (filled_in f i s a)).values ≡ padded nought (side_of side (sizes s)).values (values_kept f side (stored i) i.n a.rows)
    unfolding refilled revalued
    refilled-values Lower = refl
    refilled-values Upper = refl

    refactor-kept : FactorsKept f i s (filled_in f i s a) a
    unfolding refilled
    refactor-kept =
        record {
          run = run;
          lengths = p;
          questions = q;
          places = r;
          long = refilled-long;
          stands = refilled-stands;
          values = refilled-values;
          d = refl;
          x = refl;
          work = zeros-again nought (length s.work);
          marks = zeros-again 0 (length s.marks);
        }

pub factors-kept : (f : Form) → Keeps f → (i : Input) (s t : Buffers) → Factored f i s t → (a : Result) × FactorsKept f i s t a
unfolding solve refactor
factors-kept f v i s t (by-solve c e) =
    let p = stop-done number_of_answer Err (λ q. refl) (Ok c) refl (shape f i (sizes s)) s t _ e in
    let q = stop-done number_of_answer Err (λ q. refl) (Ok c) refl (ask_solve i) _ t _ p.1 in
    let r = stop-done number_of_answer Err (λ q. refl) (Ok c) refl (ask_places f (stored i) i.n (sizes s) i.n) _ t _ q.1 in
    let o = concluded-ok f i (sizes s) s.x c t (listed i) r.1 in
    (o.0, subst (λ t. FactorsKept f i s t o.0) (sym (o.2 ∙ left-kept f v i (sizes s) o.0)) (solve-kept f v i s o.0 o.1 p.0 q.0 r.0))
factors-kept f v i s t (by-refactor e) =
    let p = stop-done number_of_answer Err (λ q. refl) Pass refl (shape f i (sizes s)) s t _ e in
    let q = stop-done number_of_answer Err (λ q. refl) Pass refl (ask_solve i) _ t _ p.1 in
    let r = stop-done number_of_answer Err (λ q. refl) Pass refl (ask_presented f (stored i) i.n s) _ t _ q.1 in
    let o = refactored-ok f i s t (listed i) r.1 in
    let h = presented-at f (stored i) i.n s r.0 in
    let room = places-all f (stored i) i.n (sizes s) i.n (λ k l. (h k l).0) in
    (o.0, subst (λ t. FactorsKept f i s t o.0) (sym o.2) (refactor-kept f v i s o.0 o.1 p.0 q.0 room (λ k l. (h k l).1)))

-- ---- read place by place

module _ (f : Form) (v : Keeps f) (i : Input) (s t : Buffers) (a : Result) (h : FactorsKept f i s t a) where
  row-long : (k : ℕ) → k < i.n → length (get_or a.rows k none).l ≡ length (lower_row (stored i) k)
  unfolding system
  row-long k l = ((long-listed i a h.run).1 k l).l

  lists-are : (side : Side) (k : ℕ) → k < i.n → given_list f (buffers_of side t) k ≡ lists_of f side (stored i) i.n k
  lists-are side k l = list-is f side (stored i) i.n (buffers_of side t) k (h.stands side k l)

  values-is : (side : Side) (k : ℕ) → k < i.n → given_values (buffers_of side t) k ≡ values_of f side (stored i) i.n a.rows k
  values-is side k l =
      values-are f side (stored i) i.n _ (buffers_of side t) a.rows (values-long i (sizes s) f side a.rows (long-listed i a h.run)) (h.values side) k l (h.stands side k l)

  d-is : (k : ℕ) → k < i.n → get_or t.d k nan ≡ (get_or a.rows k none).d
  unfolding pivots_kept
  d-is k l = rw h.d (get_or-table (λ k. (get_or a.rows k none).d) i.n nan k l)

  pub below : (k : ℕ) → k < (system i).n → LowerBelow (system i) k
  unfolding system lower_row
  below k l j d = (mem-asc (filled (stored i) k) k j d).0

  pub run-stops : solved (system i) ≡ ok a
  run-stops = sym (listed-stops i) ∙ h.run

  tame : (k : ℕ) → k < i.n → Tame (get_or a.rows k none)
  unfolding system
  tame k l = solved-tame (system i) a below run-stops k l

lower-is : (f : Form) (v : Keeps f) (i : Input) (s t : Buffers) (a : Result) (h : FactorsKept f i s t a) (k : ℕ) → k < i.n → given_lower f t.lower k ≡ pairs (lower_row (stored i) k) (get_or a.rows k none).l
lower-is Plain v i s t a h k l = lower-plain (stored i) i.n t.lower a.rows k (lists-are Plain v i s t a h Lower k l) (values-is Plain v i s t a h Lower k l)
lower-is Shared v i s t a h k l =
    lower-shared (stored i) i.n t.lower a.rows k l (row-long Shared v i s t a h k l) (lists-are Shared v i s t a h Lower) (values-is Shared v i s t a h Lower)
lower-is ByRow v i s t a h k l = absurd (v refl)

-- ---- the arithmetic

module _ (f : Form) (v : Keeps f) (i : Input) (s t : Buffers) (a : Result) (h : FactorsKept f i s t a) (b : List Float) where
  pub stored-rows : RowsStored (system i) (right_at (with_right i b)) (factors_of f (with_right i b) t) a.rows
  unfolding system factors_of
  stored-rows =
      record {
        n = refl;
        rows = λ k l. record { lower = lower-is f v i s t a h k l; d = d-is f v i s t a h k l; rhs = refl };
        upper = lists-are f v i s t a h Upper;
        u = values-is f v i s t a h Upper;
      }

  pub other-is : system (with_right i b) ≡ other (system i) (right_at (with_right i b))
  unfolding system stored entries
  other-is = refl

  -- the s, y and back steps with stored L, d and u come to z of the whole elimination, or meet its fault
  pub again-is : judged nought (whole_again (factors_of f (with_right i b) t)) ≡ z_of (listed (with_right i b))
  again-is =
      solved_again-is nought (factors_of f (with_right i b) t)
      ∙ solved-right (system i) (right_at (with_right i b)) (factors_of f (with_right i b) t) a (below f v i s t a h) (run-stops f v i s t a h) stored-rows
      ∙ ap (λ S. z_of (solved S)) (sym other-is) ∙ ap z_of (sym (listed-stops (with_right i b)))

-- ---- question 15

no-three : (a b c : Bool) → a ≡ false → b ≡ true → c ≡ true → (a || not b || not c) ≡ false
no-three a b c e f g = rw (e, f, g)

no-either : (a b c : Bool) → a ≡ false → b ≡ false → c ≡ true → (a || b || not c) ≡ false
no-either a b c e f g = rw (e, f, g)

module _ (f : Form) (v : Keeps f) (i : Input) (s t : Buffers) (a : Result) (h : FactorsKept f i s t a) where
  room : (side : Side) → (index_need f side (stored i) i.n i.n ≤ (side_of side (sizes t)).index) × (value_need f side (stored i) i.n i.n ≤ (side_of side (sizes t)).values)
  room side = rw h.long (room_at f (stored i) i.n (sizes s) i.n side h.places)

  side-room : (side : Side) → (index_need f side (stored i) i.n i.n ≤ length (buffers_of side t).index) × (value_need f side (stored i) i.n i.n ≤ length (buffers_of side t).values)
  side-room Lower = room Lower
  side-room Upper = room Upper

  from_zero : (side : Side) → 0 < i.n → get_or (buffers_of side t).starts 0 0 ≡ 0
  unfolding value_need start_of
  from_zero side l = (h.stands side 0 l).start

  side-good : (side : Side) (k : ℕ) → k < i.n → bad_list f side i.n (buffers_of side t) k ≡ false
  unfolding bad_list index_need
  side-good side k l =
      no-three _ _ _
      (well-placed f side (stored i) i.n (buffers_of side t) k (from_zero side (omega arith)) (h.stands side k l)
      (omega (arith, ((lists-kept f side (stored i) i.n i.n (omega arith)).all k l).inside, (side-room side).0))
      (omega (arith, value_grows f side (stored i) i.n (suc k) i.n l, (side-room side).1)))
      (ap (right_side f side i.n k) (lists-are f v i s t a h side k l) ∙ lists-rise f v side (stored i) i.n k l)
      (ap finite_all (values-is f v i s t a h side k l) ∙ values-finite f v side (stored i) i.n a.rows k l (tame f v i s t a h) (row-long f v i s t a h))

  place-good : (k : ℕ) → k < i.n → bad_at f i.n t k ≡ false
  unfolding bad_at
  place-good k l = no-either _ _ _ (side-good Lower k l) (side-good Upper k l) (ap finite (d-is f v i s t a h k l) ∙ (tame f v i s t a h k l).d)

  pub factors-pass : ask_factors f i.n t ≡ Pass
  unfolding ask_factors
  factors-pass = let e : first (bad_at f i.n t) i.n ≡ None = first-all (bad_at f i.n t) i.n place-good in rw e
