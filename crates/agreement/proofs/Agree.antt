-- Demand 3 proved: the three solves answer alike, and what they answer.
use Rattle.std.specs.Prelude.{Some, Ok, None, Err}
use mathlib.Core.Path.{◌≡◌, refl, sym, ap, ◌∙◌, subst, fun_ext}
use mathlib.Core.Bool.{true, true≢false}
use mathlib.Core.Logic.{◌⊎◌, inl, inr, ◌↔◌}
use Prim.Native.Nat.{ℕ, ◌≤◌, ◌<◌}
use native.Mathlib.Omega.{arith}
use native.Mathlib.Decide.{dec_lt}
use Rattle.fill.specs.Fill.{filled}
use Rattle.fill.proofs.RowRule.{diagonal-walk}
use Rattle.base.specs.First.{first}
use Rattle.base.specs.FirstLaws.{first-none, first_found}
use Rattle.arithmetic.specs.Arith.{Fault, zero_pivot, overflow, Out, ok, met, Result, whole_run}
use Rattle.arithmetic.specs.Meets.{Meets, judged-meets, judged-value}
use Rattle.base.specs.declared.Counts.{Counts}
use Rattle.base.specs.declared.Refusal.{Refusal}
use Rattle.matrix.specs.Input.{Input, stored, own_order}
use Rattle.outcome.specs.Calls.{SolvesPlain, SolvesShared, SolvesByRow}
use Rattle.outcome.specs.Solve.{system, listed, fault_of, earlier, solve, Solves}
use Rattle.outcome.specs.Structure.{counts, fits, ask_places}
use Rattle.agreement.specs.Demand.{operations, result, WalkBack, FirstNull, AllBack, Stated, Short, Roomy, Passed, by_form, FormsAgree}
use Rattle.base.specs.declared.Form.{Form}
use Rattle.base.specs.declared.Form.TheVariants.{Plain, Shared, ByRow}
use Rattle.base.specs.declared.Side.{Side}
use lib.Ieee.{Float}
use mathlib.Core.List.{List}
use borrow.Author.Tests.{not-true, not-false}
use Rattle.outcome.specs.Buffers.{plain_buffers, shared_buffers, row_buffers, Buffers, sizes, Outcome}
use Rattle.base.specs.Answers.{number_of, number_of_answer, counts_of, absent, place_of_answer, Pass, Found, Asked, Answer}
use Rattle.base.specs.Tests.{by-test}
use Rattle.outcome.proofs.Asking.{number-some, turned, Within}
use Rattle.outcome.proofs.Places.{null, null_at, wants, wanting, Fails, unfilled, lack, places-pass, places-stop, lack-stops, only_null}
use Rattle.outcome.proofs.Ends.{solve-ends}
use Rattle.outcome.proofs.Answers.{verdict, solve-answer, solve-x, Early, earlier-early, of_matrix, earlier-stated}

back→ : (i : Input) (k : ℕ) → WalkBack i k → filled (stored i) k k ≡ true
back→ i k = (diagonal-walk (stored i) k).1

→back : (i : Input) (k : ℕ) → filled (stored i) k k ≡ true → WalkBack i k
→back i k = (diagonal-walk (stored i) k).0

-- ---- 9: the first place_of_answer with no walk back

abbrev nulls : Input → Found
nulls i = first (null (stored i)) i.n

null-found : (i : Input) (k : ℕ) → nulls i ≡ Some k → FirstNull i k
null-found i k e =
    let h = first_found (null (stored i)) i.n k e in
    record {
      below = h.0;
      none = λ w. true≢false (sym (back→ i k w) ∙ not-true (filled (stored i) k k) h.1);
      before = λ j l. →back i j (not-false (filled (stored i) j j) (first-none (null (stored i)) k h.2 j l));
    }

null-none : (i : Input) → nulls i ≡ None → AllBack i
null-none i e k l = →back i k (not-false (filled (stored i) k k) (first-none (null (stored i)) i.n e k l))

-- ---- what is answered without a lack of slots

abbrev expected : Input → Answer
expected i = verdict (of_matrix i) (absent (nulls i) null_at) (listed i) (counts i)

fits-unless : (f : Form) (i : Input) (s : Buffers) → (Short f i s → ⊥) → earlier f i (sizes s) ≡ Pass
    → (k : ℕ) → k < i.n → ((j : ℕ) → j ≤ k → filled (stored i) j j ≡ true) → (side : Side) → fits f side (stored i) i.n (sizes s) k ≡ true
fits-unless f i s room p k l full side =
    by-test (fits f side (stored i) i.n (sizes s) k) (λ e. e)
    (λ e. absurd (room (record { passed = p; k = k; below = l; filled = λ j a. →back i j (full j a); side = side; lacks = wants f (stored i) i.n (sizes s) side k e })))

answer-is : (f : Form) (i : Input) (s : Buffers) → Stated f i s → (Short f i s → ⊥) → (solve f i s).answer ≡ expected i
unfolding Stated
answer-is f i s h room = solve-answer f i s ∙ go (earlier f i (sizes s)) refl
  where
    same : earlier f i (sizes s) ≡ of_matrix i
    same = earlier-stated f i (sizes s) h

    go : (a : Asked) → earlier f i (sizes s) ≡ a → verdict (earlier f i (sizes s)) (ask_places f (stored i) i.n (sizes s) i.n) (listed i) (counts i) ≡ expected i
    go (Err q) e = rw (← same, e)
    go (Ok _) e = rw (← same, e, only_null f (stored i) i.n (sizes s) i.n (fits-unless f i s room e))

-- ---- what is told

met-zero : (j k : ℕ) → ◌≡◌ {A = Out Result} (met (zero_pivot j)) (met (zero_pivot k)) → j ≡ k
met-zero j k e = cc

met-over : (j k : ℕ) → ◌≡◌ {A = Out Result} (met (overflow j)) (met (overflow k)) → j ≡ k
met-over j k e = cc

zero-over : (j k : ℕ) → ◌≡◌ {A = Out Result} (met (zero_pivot j)) (met (overflow k)) → ⊥
zero-over j k e = let z : ◌≡◌ {A = ℕ} 0 1 = cc in omega arith

ok-met : (a : Result) (q : Fault) → ◌≡◌ {A = Out Result} (ok a) (met q) → ⊥
ok-met a q e = let z : ◌≡◌ {A = ℕ} 0 1 = cc in omega arith

-- the same of an answer, with the elimination that stops at its first fault
record Heard (i : Input) (a : Answer) : Type 0 where
  null : (number_of_answer a ≡ 9) ↔ ((k : ℕ) × (k < i.n) × (WalkBack i k → ⊥))
  null-first : number_of_answer a ≡ 9 → FirstNull i (place_of_answer a)
  zero : (k : ℕ) → ((number_of_answer a ≡ 12) × (place_of_answer a ≡ k)) ↔ (AllBack i × (listed i ≡ met (zero_pivot k)))
  over : (k : ℕ) → ((number_of_answer a ≡ 13) × (place_of_answer a ≡ k)) ↔ (AllBack i × (listed i ≡ met (overflow k)))
  solution : (number_of_answer a ≡ 0) ↔ (AllBack i × ((q : Fault) → listed i ≡ met q → ⊥))

told : (i : Input) (f : Found) (l : Out Result) → nulls i ≡ f → listed i ≡ l → Heard i (verdict Pass (absent f null_at) l (counts i))
told i (Some k) l g e =
    let n = null-found i k g in
    record {
      null = (λ h. (k, n.below, n.none), λ h. refl);
      null-first = λ h. n;
      zero = λ j. (λ h. absurd (omega (arith, h.0)), λ h. absurd (n.none (h.0 k n.below)));
      over = λ j. (λ h. absurd (omega (arith, h.0)), λ h. absurd (n.none (h.0 k n.below)));
      solution = (λ h. absurd (omega arith), λ h. absurd (n.none (h.0 k n.below)));
    }
told i None (met (zero_pivot k)) g e =
    let all = null-none i g in
    record {
      null = (λ h. absurd (omega arith), λ h. absurd (h.2 (all h.0 h.1)));
      null-first = λ h. absurd (omega arith);
      zero = λ j. (λ h. (all, e ∙ ap (λ (m : ℕ). met (zero_pivot m)) h.1), λ h. (refl, met-zero k j (sym e ∙ h.1)));
      over = λ j. (λ h. absurd (omega (arith, h.0)), λ h. absurd (zero-over k j (sym e ∙ h.1)));
      solution = (λ h. absurd (omega arith), λ h. absurd (h.1 (zero_pivot k) e));
    }
told i None (met (overflow k)) g e =
    let all = null-none i g in
    record {
      null = (λ h. absurd (omega arith), λ h. absurd (h.2 (all h.0 h.1)));
      null-first = λ h. absurd (omega arith);
      zero = λ j. (λ h. absurd (omega (arith, h.0)), λ h. absurd (zero-over j k (sym h.1 ∙ e)));
      over = λ j. (λ h. (all, e ∙ ap (λ (m : ℕ). met (overflow m)) h.1), λ h. (refl, met-over k j (sym e ∙ h.1)));
      solution = (λ h. absurd (omega arith), λ h. absurd (h.1 (overflow k) e));
    }
told i None (ok a) g e =
    let all = null-none i g in
    record {
      null = (λ h. absurd (omega arith), λ h. absurd (h.2 (all h.0 h.1)));
      null-first = λ h. absurd (omega arith);
      zero = λ j. (λ h. absurd (omega (arith, h.0)), λ h. absurd (ok-met a (zero_pivot j) (sym e ∙ h.1)));
      over = λ j. (λ h. absurd (omega (arith, h.0)), λ h. absurd (ok-met a (overflow j) (sym e ∙ h.1)));
      solution = (λ h. (all, λ q m. ok-met a q (sym e ∙ m)), λ h. refl);
    }

and_both : {A B C : Type 0} → B ↔ C → (A × B) ↔ (A × C)
and_both e = (λ h. (h.0, e.0 h.1), λ h. (h.0, e.1 h.1))

join : {A B C : Type 0} → A ↔ B → B ↔ C → A ↔ C
join e h = (λ a. h.0 (e.0 a), λ c. e.1 (h.1 c))

listed-meets : (i : Input) (q : Fault) → (listed i ≡ met q) ↔ Meets i.floor (operations i) q
unfolding listed operations
listed-meets i q = judged-meets i.floor (whole_run (system i)) q

listed-result : (i : Input) (a : Result) → listed i ≡ ok a → result i ≡ a
unfolding listed result
listed-result i a e = judged-value i.floor (whole_run (system i)) a e

heard : (f : Form) (i : Input) (s : Buffers) → Stated f i s → Roomy f i s → Passed f i s → Heard i (solve f i s).answer
unfolding Stated
heard f i s h room p =
    subst (Heard i) (sym (answer-is f i s h room ∙ ap (λ (a : Asked). verdict a (absent (nulls i) null_at) (listed i) (counts i)) (sym (earlier-stated f i (sizes s) h) ∙ p)))
    (told i (nulls i) (listed i) refl refl)

-- a solution's counts are the paper's
counts-told : (a b : Asked) (o : Out Result) (c : Counts) → number_of_answer (verdict a b o c) ≡ 0 → counts_of (verdict a b o c) ≡ c
counts-told (Err q) b o c e = absurd (number-some q e)
counts-told (Ok _) (Err q) o c e = absurd (number-some q e)
counts-told (Ok _) (Ok _) (met q) c e = absurd (number-some (fault_of q) e)
counts-told (Ok _) (Ok _) (ok a) c e = refl

-- x after a solution is what the listed operations come to
bits-told : (f : Form) (i : Input) (s : Buffers) → number_of_answer (solve f i s).answer ≡ 0 → (solve f i s).buffers.x ≡ own_order i.c i.n (result i).z
bits-told f i s e = let b = solve-x f i s e in b.2 ∙ ap (λ (a : Result). own_order i.c i.n a.z) (sym (listed-result i b.0 b.1))

-- ---- short of slots

early-not : (a : Asked) (q : Refusal) → Early a → a ≡ Err q → ((number_of q ≡ 10) ⊎ (number_of q ≡ 11)) → ⊥
unfolding Within
early-not a q h e (inl n) = omega (arith, (h q e).1, turned q)
early-not a q h e (inr n) = omega (arith, (h q e).1, turned q)

fault-not : (q : Fault) → ((number_of (fault_of q) ≡ 10) ⊎ (number_of (fault_of q) ≡ 11)) → ⊥
fault-not (zero_pivot k) (inl n) = omega arith
fault-not (zero_pivot k) (inr n) = omega arith
fault-not (overflow k) (inl n) = omega arith
fault-not (overflow k) (inr n) = omega arith

abbrev Slots : Answer → Type 0
Slots a = (number_of_answer a ≡ 10) ⊎ (number_of_answer a ≡ 11)

zero-not : (c : Counts) → Slots (Ok c) → ⊥
zero-not c (inl n) = omega arith
zero-not c (inr n) = omega arith

slots-from : (a b : Asked) (o : Out Result) (c : Counts) → Early a → Slots (verdict a b o c) → (a ≡ Pass) × (q : Refusal) × (b ≡ Err q) × ((number_of q ≡ 10) ⊎ (number_of q ≡ 11))
slots-from (Err q) b o c h n = absurd (early-not (Err q) q h refl n)
slots-from (Ok _) (Err q) o c h n = (refl, q, refl, n)
slots-from (Ok _) (Ok _) (ok r) c h n = absurd (zero-not c n)
slots-from (Ok _) (Ok _) (met q) c h n = absurd (fault-not q n)

slots-to : (a b : Asked) (o : Out Result) (c : Counts) (q : Refusal) → a ≡ Pass → b ≡ Err q → ((number_of q ≡ 10) ⊎ (number_of q ≡ 11)) → Slots (verdict a b o c)
slots-to a b o c q e h n = rw (e, h) n

number-null : (q : Refusal) (k : ℕ) → q ≡ null_at k → ((number_of q ≡ 10) ⊎ (number_of q ≡ 11)) → ⊥
number-null q k e (inl n) = omega (arith, ap number_of e)
number-null q k e (inr n) = omega (arith, ap number_of e)

-- 10 and 11 are answered exactly where the form is short of slots
pub short-told : (f : Form) (i : Input) (s : Buffers) → ((number_of_answer (solve f i s).answer ≡ 10) ⊎ (number_of_answer (solve f i s).answer ≡ 11)) ↔ Short f i s
short-told f i s = (from, to)
  where
    is : Slots (solve f i s).answer → Slots (verdict (earlier f i (sizes s)) (ask_places f (stored i) i.n (sizes s) i.n) (listed i) (counts i))
    is h = subst Slots (solve-answer f i s) h

    short : earlier f i (sizes s) ≡ Pass → (q : Refusal) → ((number_of q ≡ 10) ⊎ (number_of q ≡ 11)) → (k : ℕ) → k < i.n → ask_places f (stored i) i.n (sizes s) k ≡ Pass → Fails f (stored i) i.n (sizes s) k q → Short f i s
    short p q m k l g (unfilled u v) = absurd (number-null q k v m)
    short p q m k l g (lack u side v w) =
        record {
          passed = p;
          k = k;
          below = l;
          filled = λ j a. elim (dec_lt j k) [ yes b ↦ →back i j (places-pass f (stored i) i.n (sizes s) k g j b).filled | no b ↦ (let r : j ≡ k = omega arith in rw r (→back i k u)) ];
          side = side;
          lacks = wants f (stored i) i.n (sizes s) side k v;
        }

    from : Slots (solve f i s).answer → Short f i s
    from h =
        let a = slots-from (earlier f i (sizes s)) (ask_places f (stored i) i.n (sizes s) i.n) (listed i) (counts i) (earlier-early f i (sizes s)) (is h) in
        let b = places-stop f (stored i) i.n (sizes s) i.n a.1 a.2 in
        short a.0 a.1 a.3 b.0 b.1 b.2 b.3

    to : Short f i s → Slots (solve f i s).answer
    to h =
        let a = lack-stops f (stored i) i.n (sizes s) i.n h.k h.below (λ j l. back→ i j (h.filled j l)) h.side (wanting f (stored i) i.n (sizes s) h.side h.k h.lacks) in
        subst Slots (sym (solve-answer f i s)) (slots-to _ _ (listed i) (counts i) a.0 h.passed a.1 a.2)

-- ---- demand 3

early-told : (a b : Asked) (o : Out Result) (c : Counts) (q : Refusal) → a ≡ Err q → verdict a b o c ≡ Err q
early-told a b o c q e = rw e

-- "For every matrix, orders and right side, the solves .., with buffers of the stated lengths, whatever these held before, .."
pub solves-agree : (i : Input) (s : Form → Buffers) → ((f : Form) → Stated f i (s f)) → FormsAgree i s (λ f. (solve f i (s f)).answer) (λ f. (solve f i (s f)).buffers)
unfolding Stated
solves-agree i s h =
    record {
      same_answer = same;
      same_bits = λ f g r q z. bits-told f i (s f) z ∙ sym (bits-told g i (s g) (ap number_of_answer (sym (same f g r q)) ∙ z));
      untouched = λ f. (solve-ends f i (s f)).x;
      early = λ f q e. solve-answer f i (s f) ∙ early-told _ (ask_places f (stored i) i.n (sizes (s f)) i.n) (listed i) (counts i) q e;
      asked = λ f g. earlier-stated f i (sizes (s f)) (h f) ∙ sym (earlier-stated g i (sizes (s g)) (h g));
      null = λ f r p. (heard f i (s f) (h f) r p).null;
      null-first = λ f r p. (heard f i (s f) (h f) r p).null-first;
      zero = λ f r p k. join ((heard f i (s f) (h f) r p).zero k) (and_both (listed-meets i (zero_pivot k)));
      over = λ f r p k. join ((heard f i (s f) (h f) r p).over k) (and_both (listed-meets i (overflow k)));
      solution = λ f r p. join (heard f i (s f) (h f) r p).solution (and_both (λ n q m. n q ((listed-meets i q).1 m), λ n q m. n q ((listed-meets i q).0 m)));
      bits = λ f. bits-told f i (s f);
      counted = λ f e. ap counts_of (solve-answer f i (s f)) ∙ counts-told (earlier f i (sizes (s f))) (ask_places f (stored i) i.n (sizes (s f)) i.n) (listed i) (counts i) (ap number_of_answer (sym (solve-answer f i (s f))) ∙ e);
      short = λ f. short-told f i (s f);
    }
  where
    same : (f g : Form) → Roomy f i (s f) → Roomy g i (s g) → (solve f i (s f)).answer ≡ (solve g i (s g)).answer
    same f g r q = answer-is f i (s f) (h f) r ∙ sym (answer-is g i (s g) (h g) q)

-- the same of whatever answers and buffers meet the three contracts
calls-agree : (i : Input) (s : Form → Buffers) (a : Form → Answer) (t : Form → Buffers) → ((f : Form) → Stated f i (s f)) → ((f : Form) → Solves f i (s f) (a f) (t f)) → FormsAgree i s a t
calls-agree i s a t h e = subst (λ (o : Form → Outcome Answer). FormsAgree i s (λ f. (o f).answer) (λ f. (o f).buffers)) (sym (fun_ext e)) (solves-agree i s h)

-- ---- the three calls

pub by_form-cases : (P : Form → Type 0) → P Plain → P Shared → P ByRow → (f : Form) → P f
by_form-cases P p s r Plain = p
by_form-cases P p s r Shared = s
by_form-cases P p s r ByRow = r

-- of what `solve_plain`, `solve_shared` and `solve_row` ensure, for one input and any lists of the stated lengths
pub forms-agree : {i : Input} {a₁ a₂ a₃ : Answer}
    {ls₁ li₁ us₁ ui₁ m₁ ls₁' li₁' us₁' ui₁' m₁' : List ℕ} {lv₁ uv₁ d₁ x₁ w₁ lv₁' uv₁' d₁' x₁' w₁' : List Float}
    {ls₂ lr₂ li₂ us₂ ur₂ ui₂ m₂ ls₂' lr₂' li₂' us₂' ur₂' ui₂' m₂' : List ℕ} {lv₂ uv₂ d₂ x₂ w₂ lv₂' uv₂' d₂' x₂' w₂' : List Float}
    {us₃ ur₃ ui₃ m₃ us₃' ur₃' ui₃' m₃' : List ℕ} {uv₃ d₃ x₃ w₃ uv₃' d₃' x₃' w₃' : List Float}
    → SolvesPlain i ls₁ li₁ lv₁ us₁ ui₁ uv₁ d₁ x₁ w₁ m₁ a₁ ls₁' li₁' lv₁' us₁' ui₁' uv₁' d₁' x₁' w₁' m₁'
    → SolvesShared i ls₂ lr₂ li₂ lv₂ us₂ ur₂ ui₂ uv₂ d₂ x₂ w₂ m₂ a₂ ls₂' lr₂' li₂' lv₂' us₂' ur₂' ui₂' uv₂' d₂' x₂' w₂' m₂'
    → SolvesByRow i us₃ ur₃ ui₃ uv₃ d₃ x₃ w₃ m₃ a₃ us₃' ur₃' ui₃' uv₃' d₃' x₃' w₃' m₃'
    → Stated Plain i (plain_buffers ls₁ li₁ lv₁ us₁ ui₁ uv₁ d₁ x₁ w₁ m₁)
    → Stated Shared i (shared_buffers ls₂ lr₂ li₂ lv₂ us₂ ur₂ ui₂ uv₂ d₂ x₂ w₂ m₂)
    → Stated ByRow i (row_buffers us₃ ur₃ ui₃ uv₃ d₃ x₃ w₃ m₃)
    → FormsAgree i
    (by_form (plain_buffers ls₁ li₁ lv₁ us₁ ui₁ uv₁ d₁ x₁ w₁ m₁) (shared_buffers ls₂ lr₂ li₂ lv₂ us₂ ur₂ ui₂ uv₂ d₂ x₂ w₂ m₂) (row_buffers us₃ ur₃ ui₃ uv₃ d₃ x₃ w₃ m₃))
    (by_form a₁ a₂ a₃)
    (by_form (plain_buffers ls₁' li₁' lv₁' us₁' ui₁' uv₁' d₁' x₁' w₁' m₁') (shared_buffers ls₂' lr₂' li₂' lv₂' us₂' ur₂' ui₂' uv₂' d₂' x₂' w₂' m₂') (row_buffers us₃' ur₃' ui₃' uv₃' d₃' x₃' w₃' m₃'))
forms-agree p s r lp ls lr = calls-agree _ _ _ _ (by_form-cases _ lp ls lr) (by_form-cases _ p s r)
