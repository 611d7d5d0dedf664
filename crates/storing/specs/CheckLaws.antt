-- Comparing: what the code compares is question 14 at k.
use Rattle.std.specs.Prelude.{ℕ, suc, ◌+◌, ◌-◌, ◌≤◌, ◌<◌, ◌≡◌, refl, Bool, true, false, ◌&&◌, cond, ltb, eqb, Option, Some, None}
use Rattle.std.proofs.Math.Path.{sym, ap}
use Rattle.std.proofs.Common.{◌∙◌, arith, take-append-drop, take-suc, length-take-le, drop-drop}
use Rattle.std.proofs.Math.Bool.{true≢false}
use mathlib.Core.List.{List, [], ◌++◌}
use Rattle.std.proofs.Math.Numerals.{add-one}
use Rattle.std.proofs.Math.Nat.{sub_self, add-sub_cancel_left}
use Rattle.std.proofs.Math.ListN.{length, take, drop, get_or, length-drop}
use Rattle.std.proofs.Math.Seq.{take-add, drop-length, get_or_at}
use borrow.Author.Tests.{ltb-true, ltb-false, eqb-true, eq-eqb}
use Rattle.base.specs.Lists.{list_at}
use Rattle.base.specs.Tests.{by-test, and_cases}
use Rattle.placement.specs.Placing.{agree, same, run_of, after, plan_at, placed, start_of}
use Rattle.placement.specs.PlacingLaws.{Sound, Kept, room}
use Rattle.placement.specs.ListLaws.{take-drop, agree-self, same-is, same_self}
use Rattle.placement.proofs.ListLaws.{agree-is}
use Rattle.storing.specs.Ways.{way_of}
use Rattle.storing.specs.FillNested.{kept, way-sound}
use Rattle.storing.specs.Slices.{Ready, as_plan, plan_of, fits_of, extent_of, same_at, match_of}
use Rattle.lent.specs.ReadingLaws.{take_rest}
use Rattle.storing.specs.LookLaws.{Looked, fits-room}
use Rattle.storing.specs.Held.{Holding, Turn, presented, Checked, CheckEnds}
use Rattle.storing.specs.HeldLaws.{slots_same, run-same, start-same, list_held}
use Rattle.storing.specs.StepLaws.{plan-same, fits-same, next-held}
use Rattle.storing.specs.declared.Way.{Way}
use Rattle.storing.specs.declared.Plan.{Plan}
use Rattle.storing.specs.declared.Extent.{Extent}

four : (a b c d : Bool) → (a && b && c && d) ≡ true → (a ≡ true) × (b ≡ true) × (c ≡ true) × (d ≡ true)
four a b c d e =
    let x = and_cases (a && b && c) d e in
    let y = and_cases (a && b) c x.0 in
    let z = and_cases a b y.0 in
    (z.0, z.1, y.1, x.1)

no_true : (b : Bool) → (b ≡ true → ⊥) → b ≡ false
no_true true f = absurd (f refl)
no_true false f = refl

-- a list that stands in a store from start on, of which the used part has the first entries: the rest stands after the used part
rest_of : (index list : List ℕ) (start have used : ℕ) → have ≤ length list → (have < length list → start + have ≡ used)
    → take (length list) (drop start index) ≡ list → take (length list - have) (drop used index) ≡ drop have list
rest_of index list start have used h f e =
    by-test (ltb have (length list))
    (λ t.
    let q = f (ltb-true have (length list) t) in
    let m : have + (length list - have) ≡ length list = omega arith in
    rw (← q, ← drop-drop have start index, take-drop have (length list - have) (drop start index), m, e))
    (λ t. let q : have ≡ length list = omega (arith, ltb-false have (length list) t) in rw (q, sub_self) (sym (drop-length list)))

-- the four facts of the comparison
record Stands (starts runs index list : List ℕ) (k : ℕ) (s : Extent) (p : Plan) : Type 0 where
  run : get_or runs k 0 ≡ p.start
  start : get_or starts k 0 ≡ s.entries
  next : get_or starts (k + 1) 0 ≡ s.entries + length list
  rest : agree (take (length list - p.have) (drop s.used index)) (drop p.have list) ≡ true

module _ (starts runs index list : List ℕ) (k : ℕ) (s : Extent) (p : Plan) where
  stands_of : same_at starts runs index list k s p ≡ true → Stands starts runs index list k s p
  unfolding same_at
  stands_of e =
      let r = four (eqb (get_or runs k 0) p.start) (eqb (get_or starts k 0) s.entries) (eqb (get_or starts (k + 1) 0) (s.entries + length list))
      (agree (take (length list - p.have) (drop s.used index)) (drop p.have list)) e in
      record { run = eqb-true _ _ r.0; start = eqb-true _ _ r.1; next = eqb-true _ _ r.2; rest = r.3 }

  stands-so : Stands starts runs index list k s p → same_at starts runs index list k s p ≡ true
  unfolding same_at
  stands-so w = rw (eq-eqb _ _ w.run, eq-eqb _ _ w.start, eq-eqb _ _ w.next, w.rest)

  -- the test as the code makes it: q is k as an index, a, b and c are the starts that it reads, and d what comparing the slots says
  pub stands-is : (q a b c : ℕ) (d : Bool) → q ≡ k → a ≡ get_or runs q 0 → b ≡ get_or starts q 0 → c ≡ get_or starts (q + 1) 0
      → d ≡ agree (take (s.used + (length list - p.have) - s.used) (drop s.used index)) (take (length list - p.have) (drop p.have list))
      → (eqb a p.start && eqb b s.entries && eqb c (s.entries + length list) && d) ≡ same_at starts runs index list k s p
  unfolding same_at
  stands-is q a b c d e f g h i = rw (i, f, g, h, e, add-sub_cancel_left, take_rest p.have list)

module _ {way : Way} {T R : ℕ → List ℕ} {n values k : ℕ} {starts runs index row list : List ℕ} {s : Extent}
    (turn : Turn way T R n values k index starts runs index row list s) (run_room : k < length runs) (start-room : k + 1 < length starts) where
  -- stores that the comparison finds the same hold one list more
  same-held : fits_of way starts runs index values row list k s ≡ true → same_at starts runs index list k s (as_plan (plan_of way starts runs index values row list k s)) ≡ true
      → Holding way T R values (suc k) index starts runs index (extent_of way starts runs index values row list k s)
  unfolding placed after extent_of
  same-held t e =
      let p = plan_of way starts runs index values row list k s in
      let w = stands_of starts runs index list k s (as_plan p) e in
      let r = fits-room way starts runs index values row list k s t in
      let m : take (length list - p.have) (drop s.used index) ≡ drop p.have list =
      agree-is (take (length list - p.have) (drop s.used index)) (drop p.have list)
      (length-take-le (length list - p.have) (drop s.used index) (simp length-drop (omega (arith, r.0))) ∙ sym (length-drop p.have list)) w.rest in
      let u : take (s.used + (length list - p.have)) index ≡ (placed (way_of way) T R (suc k)).slots =
      take-add s.used (length list - p.have) index ∙ rw (m, slots_same turn.held, plan-same turn, turn.list-is) in
      next-held turn t starts runs index
      (sym (take-append-drop (s.used + (length list - p.have)) index) ∙ ap (λ l. l ++ drop (s.used + (length list - p.have)) index) u)
      (take-suc runs k 0 run_room ∙ rw w.run)
      (take-suc starts (suc k) 0 (omega arith) ∙ rw (← add-one k, w.next))

  -- the stores present place k as it is placed
  record Presents : Type 0 where
    start : get_or starts k 0 ≡ start_of T k
    next : get_or starts (k + 1) 0 ≡ start_of T (suc k)
    run : get_or runs k 0 ≡ run_of (placed (way_of way) T R (suc k)) k
    whole : list_at starts runs index k ≡ T k

  presents-of : presented way T R values k starts runs index ≡ true → Presents
  unfolding presented
  presents-of e =
      let f = and_cases (room (way_of way) T R (length index) values k) _ e in
      let r = four (eqb (get_or starts k 0) (start_of T k)) (eqb (get_or starts (k + 1) 0) (start_of T (suc k))) (eqb (get_or runs k 0) (run_of (placed (way_of way) T R (suc k)) k)) (same (list_at starts runs index k) (T k)) f.1 in
      record { start = eqb-true _ _ r.0; next = eqb-true _ _ r.1; run = eqb-true _ _ r.2; whole = same-is _ _ r.3 }

  held-presents : fits_of way starts runs index values row list k s ≡ true → Holding way T R values (suc k) index starts runs index (extent_of way starts runs index values row list k s)
      → presented way T R values k starts runs index ≡ true
  unfolding presented
  held-presents t h =
      let next : get_or starts (k + 1) 0 ≡ start_of T (suc k) = rw add-one (start-same h (suc k) (omega arith)) in
      rw (sym (fits-same turn) ∙ t, eq-eqb _ _ (start-same h k (omega arith)), eq-eqb _ _ next, eq-eqb _ _ (run-same h k (omega arith)), list_held h n turn.suited turn.below k (omega arith), same_self (T k))

  presents-same : Presents → same_at starts runs index list k s (as_plan (plan_of way starts runs index values row list k s)) ≡ true
  unfolding placed after start_of list_at
  presents-same w =
      let P = placed (way_of way) T R k in
      let p = plan_at (way_of way) T R P k in
      let here : Kept T P k = kept way T R n turn.suited k (omega (arith, turn.below)) in
      let sound : Sound P.slots (T k) p = way-sound way T R n turn.suited k turn.below P here in
      let run : get_or runs k 0 ≡ p.start = w.run ∙ get_or_at P.runs p.start [] 0 k here.count in
      let len : get_or starts (k + 1) 0 - get_or starts k 0 ≡ length (T k) = rw (w.next, w.start, add-sub_cancel_left) in
      let whole : take (length (T k)) (drop p.start index) ≡ T k = rw (← len, ← run) w.whole in
      let rest = rest_of index (T k) p.start p.have s.used sound.part (λ g. sound.ends g ∙ sym turn.held.used-is) whole in
      stands-so starts runs index list k s (as_plan (plan_of way starts runs index values row list k s))
      (record {
        run = rw (plan-same turn) run;
        start = w.start ∙ sym turn.held.entries-are;
        next = w.next ∙ rw (turn.held.entries-are, turn.list-is);
        rest = rw (plan-same turn, turn.list-is, rest) (agree-self (drop p.have (T k)));
      })

  no_room : fits_of way starts runs index values row list k s ≡ false → presented way T R values k starts runs index ≡ false
  unfolding presented
  no_room t = rw (sym (fits-same turn) ∙ t)

  pub checked : Checked way T R values k starts runs index (match_of way starts runs index values row list k s)
  unfolding match_of
  checked =
      by-test (fits_of way starts runs index values row list k s)
      (λ t.
      by-test (same_at starts runs index list k s (as_plan (plan_of way starts runs index values row list k s)))
      (λ u. rw (t, u) (let h = same-held t u in (held-presents t h, h)))
      (λ u. rw (t, u) (no_true (presented way T R values k starts runs index) (λ e. true≢false (sym (presents-same (presents-of e)) ∙ u)))))
      (λ t. rw t (no_room t))

module _ (way : Way) (starts runs index : List ℕ) (values : ℕ) (row list : List ℕ) (k : ℕ) (s : Extent) where
  pub check-ends : Ready way starts runs index values row list k s → (r : Option Extent) → r ≡ match_of way starts runs index values row list k s → CheckEnds way starts runs index values row list k s r
  check-ends y r e = record { answer = e; steps = λ T R n turn. rw e (checked turn y.run_room y.start-room) }

  pub match-no : fits_of way starts runs index values row list k s ≡ false → None ≡ match_of way starts runs index values row list k s
  unfolding match_of
  match-no e = rw e

  pub match-fits : (p : Plan) (next : Extent) → Looked way starts runs index values row list k s p next
      → match_of way starts runs index values row list k s ≡ cond (same_at starts runs index list k s p) (Some next) None
  unfolding match_of
  match-fits p next w = rw (w.fits, ← w.is, w.next-is)
