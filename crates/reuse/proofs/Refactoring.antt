-- Refactor over lists found before is a solve.
use Rattle.std.specs.Prelude.{Ok, Err}
use mathlib.Core.Path.{◌≡◌, refl, sym, ap, ap₂, ◌∙◌}
use mathlib.Core.List.{List}
use Prim.Native.Nat.{ℕ, ◌≤◌, ◌<◌}
use native.Mathlib.Omega.{arith}
use lib.ListN.{length}
use lib.Ieee.{Float}
use Rattle.base.specs.Lists.{nought}
use Rattle.base.specs.Answers.{number_of, number_of_answer, Pass, Asked, Answer}
use Rattle.base.specs.declared.Form.{Form}
use Rattle.base.specs.declared.Form.TheVariants.{Plain, Shared, ByRow}
use Rattle.base.specs.declared.Side.{Side}
use Rattle.base.specs.declared.Side.TheVariants.{Lower, Upper}
use Rattle.base.specs.declared.Counts.{Counts}
use lib.Dec.{eqb}
use borrow.Author.Tests.{eqb-true}
use Rattle.base.specs.Tests.{by-test}
use Rattle.base.specs.declared.Refusal.{Refusal}
use Rattle.base.specs.declared.SideSizes.{SideSizes}
use Rattle.base.specs.declared.Sizes.{Sizes}
use Rattle.fill.specs.Fill.{Pattern}
use Rattle.matrix.specs.Input.{Input, stored, own_order}
use Rattle.matrix.specs.Questions.{ask_structure, ask_solve}
use Rattle.arithmetic.specs.Arith.{Fault, zero_pivot, overflow, Out, ok, met, Result}
use Rattle.arithmetic.specs.Sticky.{ok-inj}
use Rattle.outcome.specs.Forms.{placed_to}
use Rattle.outcome.specs.Buffers.{SideBuffers, Buffers, buffers_of, sizes, side_of, ask_shape, scratch_cleared, cleared, Outcome, ended, stop}
use Rattle.outcome.specs.Structure.{counts, ask_places, ask_place, side_placed, structured, structure}
use Rattle.outcome.specs.Solve.{listed, fault_of, kept, left, concluded, shape, solve}
use Rattle.outcome.specs.Refactor.{ask_presented, revalued, refilled, emptied, refactored, refactor}
use Rattle.outcome.proofs.Asking.{number-some, turn_of, turned, Within}
use Rattle.outcome.proofs.Places.{places-pass}
use Rattle.outcome.proofs.Answers.{verdict, solve-answer, solve-x, shape-within, solve-within, of_matrix, earlier-stated}
use Rattle.agreement.specs.Demand.{Stated}
use Rattle.reuse.specs.Reuse.{Keeps, end_of, with_numbers, ListsLeft, after-structure, after-solve, SameLists, Presented, RefactorsAs, Refactoring, RefactoringOn, RefactoringAlike}
use Rattle.reuse.proofs.Standing.{Laid, placed-laid, padded-long, laid-stands, laid-revalued, place-more, places-all, presented-pass}

-- ---- a call that is done

-- no question stopped it
pub stop-done : {A : Type 0} (number : A → ℕ) (refuse : Refusal → A) (told : (q : Refusal) → number (refuse q) ≡ number_of q) (o : A) → number o ≡ 0
    → (a : Asked) (s t : Buffers) (rest : Outcome A) → stop refuse a s rest ≡ ended o t → (a ≡ Pass) × (rest ≡ ended o t)
stop-done number refuse told o z (Ok _) s t rest e = (refl, e)
stop-done number refuse told o z (Err q) s t rest e = absurd (number-some q (sym (told q) ∙ ap (λ p. number p.answer) e ∙ z))

-- ---- a side as a call left it

-- its lists, and stores in which they had room
record LeftSide (f : Form) (side : Side) (P : Pattern) (n : ℕ) (z : SideSizes) (b : SideBuffers) : Type 0 where
  laid : Laid f side P n b
  index : z.index ≤ length b.index
  values : z.values ≤ length b.values

left-side : (f : Form) → Keeps f → (side : Side) (P : Pattern) (n : ℕ) (z : SideSizes) (values : List Float) → LeftSide f side P n z (side_placed f side P n z values)
unfolding side_placed
left-side f v side P n z values =
    record { laid = placed-laid f v side P n z values; index = padded-long 0 z.index (placed_to f side P n n).slots; values = padded-long nought z.values values }

record LeftBoth (f : Form) (i : Input) (u : Buffers) : Type 0 where
  z : Sizes
  places : ask_places f (stored i) i.n z i.n ≡ Pass
  sides : (side : Side) → LeftSide f side (stored i) i.n (side_of side z) (buffers_of side u)

concluded-left : (f : Form) → Keeps f → (i : Input) (z : Sizes) (x : List Float) (u : Buffers) (c : Counts) (o : Out Result) → concluded f i z x o ≡ ended (Ok c) u
    → (side : Side) → LeftSide f side (stored i) i.n (side_of side z) (buffers_of side u)
unfolding kept
concluded-left Plain v i z x u c (ok a) e Lower = rw (← ap (λ (o : Outcome Answer). o.buffers) e) (left-side Plain v Lower _ _ _ _)
concluded-left Plain v i z x u c (ok a) e Upper = rw (← ap (λ (o : Outcome Answer). o.buffers) e) (left-side Plain v Upper _ _ _ _)
concluded-left Shared v i z x u c (ok a) e Lower = rw (← ap (λ (o : Outcome Answer). o.buffers) e) (left-side Shared v Lower _ _ _ _)
concluded-left Shared v i z x u c (ok a) e Upper = rw (← ap (λ (o : Outcome Answer). o.buffers) e) (left-side Shared v Upper _ _ _ _)
concluded-left ByRow v i z x u c (ok a) e side = absurd (v refl)
concluded-left f v i z x u c (met q) e side = absurd (number-some (fault_of q) (ap (λ (o : Outcome Answer). number_of_answer o.answer) e))

structured-left : (f : Form) → Keeps f → (i : Input) (z : Sizes) (u : Buffers) (c k : Counts) → ended {A = Answer} (Ok k) (structured f i z) ≡ ended (Ok c) u
    → (side : Side) → LeftSide f side (stored i) i.n (side_of side z) (buffers_of side u)
unfolding structured
structured-left f v i z u c k e Lower = rw (← ap (λ (o : Outcome Answer). o.buffers) e) (left-side f v Lower _ _ _ _)
structured-left f v i z u c k e Upper = rw (← ap (λ (o : Outcome Answer). o.buffers) e) (left-side f v Upper _ _ _ _)

both_left : (f : Form) → Keeps f → (i : Input) (u : Buffers) → ListsLeft f i u → LeftBoth f i u
unfolding structure solve
both_left f v i u (after-structure s c e) =
    let p = stop-done number_of_answer Err (λ q. refl) (Ok c) refl (ask_shape i.n _) s u _ e in
    let q = stop-done number_of_answer Err (λ q. refl) (Ok c) refl (ask_structure i) _ u _ p.1 in
    let r = stop-done number_of_answer Err (λ q. refl) (Ok c) refl (ask_places f (stored i) i.n (sizes s) i.n) _ u _ q.1 in
    record { z = sizes s; places = r.0; sides = structured-left f v i (sizes s) u c _ r.1 }
both_left f v i u (after-solve s c e) =
    let p = stop-done number_of_answer Err (λ q. refl) (Ok c) refl (shape f i (sizes s)) s u _ e in
    let q = stop-done number_of_answer Err (λ q. refl) (Ok c) refl (ask_solve i) _ u _ p.1 in
    let r = stop-done number_of_answer Err (λ q. refl) (Ok c) refl (ask_places f (stored i) i.n (sizes s) i.n) _ u _ q.1 in
    record { z = sizes s; places = r.0; sides = concluded-left f v i (sizes s) s.x u c (listed i) r.1 }

-- ---- the same lists again

again-laid : (f : Form) (side : Side) (P : Pattern) (n : ℕ) (u t : SideBuffers) → SameLists u t → Laid f side P n u → Laid f side P n t
again-laid f side P n u t h l = record { starts = rw h.starts l.starts; runs = rw h.runs l.runs; index = rw h.index l.index }

again-room : (f : Form) (side : Side) (P : Pattern) (n : ℕ) (z : SideSizes) (u t : SideBuffers) → SameLists u t → LeftSide f side P n z u → (z.index ≤ length t.index) × (z.values ≤ length t.values)
again-room f side P n z u t h l = (rw h.index l.index, omega (arith, h.values, l.values))

module _ (f : Form) (v : Keeps f) (i : Input) (t : Buffers) (h : Presented f i t) where
  both : LeftBoth f i h.u
  both = both_left f v i h.u h.left

  pub laid-at : (side : Side) → Laid f side (stored i) i.n (buffers_of side t)
  laid-at Lower = again-laid f Lower (stored i) i.n _ _ h.lower (both.sides Lower).laid
  laid-at Upper = again-laid f Upper (stored i) i.n _ _ h.upper (both.sides Upper).laid

  room : (side : Side) → ((side_of side both.z).index ≤ (side_of side (sizes t)).index) × ((side_of side both.z).values ≤ (side_of side (sizes t)).values)
  room Lower = again-room f Lower (stored i) i.n _ _ _ h.lower (both.sides Lower)
  room Upper = again-room f Upper (stored i) i.n _ _ _ h.upper (both.sides Upper)

  place_at : (k : ℕ) → k < i.n → ask_place f (stored i) i.n (sizes t) k ≡ Pass
  place_at k l = place-more f (stored i) i.n both.z (sizes t) k room (places-pass f (stored i) i.n both.z i.n both.places k l)

  pub room-again : ask_places f (stored i) i.n (sizes t) i.n ≡ Pass
  room-again = places-all f (stored i) i.n (sizes t) i.n place_at

  -- question 14 is passed
  pub presented-again : ask_presented f (stored i) i.n t ≡ Pass
  presented-again = presented-pass f (stored i) i.n t place_at (λ side k l. laid-stands f v side (stored i) i.n (buffers_of side t) (laid-at side) k l)

-- ---- the answers

fault-late : (q : Fault) → (12 ≤ number_of (fault_of q)) × (number_of (fault_of q) ≤ 13)
fault-late (zero_pivot k) = (omega arith, omega arith)
fault-late (overflow k) = (omega arith, omega arith)

-- of the questions before 9, 19 alone has a number from 9 on
turn-late : (q : Refusal) → 9 ≤ number_of q → (3 ≤ turn_of q) × (turn_of q ≤ 7) → number_of q ≡ 19
turn-late q l w = by-test (eqb (number_of q) 19) (λ t. eqb-true (number_of q) 19 t) (λ t. let v = rw t at w in absurd (omega (arith, l, v)))

chain-alike : (f : Form) (j : Input) (t : Buffers) (a b c d : Asked) (o : Out Result) → Within 1 2 a → Within 3 7 b → c ≡ Pass → d ≡ Pass
    → ((r : Result) → (refactored f j t (ok r)).buffers ≡ left f j (sizes t) r)
    → RefactorsAs t (stop Err a t (stop Err b (scratch_cleared t) (stop Err c (scratch_cleared t) (refactored f j t o))))
    (stop Err a t (stop Err b (scratch_cleared t) (stop Err d (cleared (sizes t) t.x) (concluded f j (sizes t) t.x o))))
unfolding Within
chain-alike f j t (Err q) b c d o u w g h e = record { answer = refl; buffers = λ l. refl; floored = λ l. refl; empties = λ l h. absurd (omega (arith, u q refl, turned q)) }
chain-alike f j t (Ok _) (Err q) c d o u w g h e = record { answer = refl; buffers = λ l. refl; floored = λ l. refl; empties = λ l h. absurd (h (turn-late q l (w q refl))) }
chain-alike f j t (Ok _) (Ok _) c d (ok a) u w g h e = rw (g, h) (record { answer = refl; buffers = λ l. e a; floored = λ l. absurd (omega arith); empties = λ l h. absurd (omega arith) })
chain-alike f j t (Ok _) (Ok _) c d (met q) u w g h e = rw (g, h) (record { answer = refl; buffers = λ l. absurd (omega (arith, fault-late q)); floored = λ l. absurd (omega (arith, fault-late q)); empties = λ l h. refl })

both-same : (l l' u u' : SideBuffers) (d x w : List Float) (m : List ℕ) → l ≡ l' → u ≡ u'
    → ◌≡◌ {A = Buffers} (record { lower = l; upper = u; d = d; x = x; work = w; marks = m }) (record { lower = l'; upper = u'; d = d; x = x; work = w; marks = m })
both-same l l' u u' d x w m e f = rw (e, f)

refilled-left : (f : Form) → Keeps f → (j : Input) (t : Buffers) → ((side : Side) → Laid f side (stored j) j.n (buffers_of side t))
    → (r : Result) → (refactored f j t (ok r)).buffers ≡ left f j (sizes t) r
unfolding refilled kept
refilled-left Plain v j t h r = both-same _ _ _ _ _ _ _ _ (laid-revalued Plain Lower (stored j) j.n t.lower _ (h Lower)) (laid-revalued Plain Upper (stored j) j.n t.upper _ (h Upper))
refilled-left Shared v j t h r = both-same _ _ _ _ _ _ _ _ (laid-revalued Shared Lower (stored j) j.n t.lower _ (h Lower)) (laid-revalued Shared Upper (stored j) j.n t.upper _ (h Upper))
refilled-left ByRow v j t h r = absurd (v refl)

pub refactoring : Refactoring
unfolding stored solve refactor
refactoring f v i w b floor t h =
    let j = with_numbers i w b floor in
    chain-alike f j t (shape f j (sizes t)) (ask_solve j) (ask_presented f (stored j) j.n t) (ask_places f (stored j) j.n (sizes t) j.n) (listed j)
    (shape-within f j (sizes t)) (solve-within j) (presented-again f v i t h) (room-again f v i t h) (refilled-left f v j t (laid-at f v i t h))

-- ---- and again

same-still : (u b : SideBuffers) (values : List Float) → SameLists u b → SameLists u (revalued b values)
unfolding revalued
same-still u b values h = record { starts = h.starts; runs = h.runs; index = h.index; values = omega (arith, h.values, padded-long nought (length b.values) values) }

refactored-still : (f : Form) (i j : Input) (t : Buffers) (o : Out Result) → Presented f i t → Presented f i (refactored f j t o).buffers
unfolding refilled emptied
refactored-still f i j t (ok a) h = record { u = h.u; left = h.left; lower = same-still h.u.lower t.lower _ h.lower; upper = same-still h.u.upper t.upper _ h.upper }
refactored-still f i j t (met q) h = record { u = h.u; left = h.left; lower = same-still h.u.lower t.lower _ h.lower; upper = same-still h.u.upper t.upper _ h.upper }

chain-still : (f : Form) (i j : Input) (t : Buffers) (a b c : Asked) (o : Out Result) → Presented f i t
    → Presented f i (stop Err a t (stop Err b (scratch_cleared t) (stop Err c (scratch_cleared t) (refactored f j t o)))).buffers
unfolding scratch_cleared
chain-still f i j t (Err q) b c o h = h
chain-still f i j t (Ok _) (Err q) c o h = record { u = h.u; left = h.left; lower = h.lower; upper = h.upper }
chain-still f i j t (Ok _) (Ok _) (Err q) o h = record { u = h.u; left = h.left; lower = h.lower; upper = h.upper }
chain-still f i j t (Ok _) (Ok _) (Ok _) o h = refactored-still f i j t o h

pub refactoring-on : RefactoringOn
unfolding refactor
refactoring-on f i v b floor t h =
    let j = with_numbers i v b floor in
    chain-still f i j t (shape f j (sizes t)) (ask_solve j) (ask_presented f (stored j) j.n t) (listed j) h

-- ---- the two forms

end-number : (a : Answer) → number_of_answer (end_of a) ≡ number_of_answer a
end-number (Ok c) = refl
end-number (Err q) = refl

-- what is answered over lists found before, by the numbers alone
refactor-answer : (f : Form) → Keeps f → (i : Input) (w b : List Float) (floor : Float) (t : Buffers) → Presented f i t → Stated f i t
    → (refactor f (with_numbers i w b floor) t).answer ≡ end_of (verdict (of_matrix (with_numbers i w b floor)) Pass (listed (with_numbers i w b floor)) (counts (with_numbers i w b floor)))
unfolding Stated stored
refactor-answer f v i w b floor t h e =
    let j = with_numbers i w b floor in
    (refactoring f v i w b floor t h).answer
    ∙ ap end_of (solve-answer f j t ∙ ap₂ (λ a c. verdict a c (listed j) (counts j)) (earlier-stated f j (sizes t) e) (room-again f v i t h))

refactor-x : (f : Form) → Keeps f → (i : Input) (w b : List Float) (floor : Float) (t : Buffers) → Presented f i t → number_of_answer (refactor f (with_numbers i w b floor) t).answer ≡ 0
    → (r : Result) × (listed (with_numbers i w b floor) ≡ ok r) × ((refactor f (with_numbers i w b floor) t).buffers.x ≡ own_order i.c i.n r.z)
refactor-x f v i w b floor t h e =
    let j = with_numbers i w b floor in
    let p = refactoring f v i w b floor t h in
    let q = solve-x f j t (sym (end-number (solve f j t).answer) ∙ ap number_of_answer (sym p.answer) ∙ e) in
    (q.0, q.1, ap (λ (t : Buffers). t.x) (p.buffers (omega (arith, e))) ∙ q.2)

pub refactoring-alike : RefactoringAlike
refactoring-alike f g v w i n b floor s t h k p q =
    let same = refactor-answer f v i n b floor s h p ∙ sym (refactor-answer g w i n b floor t k q) in
    record {
      answer = same;
      x = λ e.
          let l = refactor-x f v i n b floor s h e in
          let r = refactor-x g w i n b floor t k (ap number_of_answer (sym same) ∙ e) in
          l.2 ∙ ap (λ (a : Result). own_order i.c i.n a.z) (ok-inj (sym l.1 ∙ r.1)) ∙ sym r.2;
    }
