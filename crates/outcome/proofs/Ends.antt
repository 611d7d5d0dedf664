-- What each refusal leaves in the buffers, by its number, in every call.
use Rattle.std.specs.Prelude.{Ok, Err}
use mathlib.Core.Path.{◌≡◌, refl}
use mathlib.Core.List.{List, ◌++◌}
use Prim.Native.Nat.{ℕ, ◌≤◌}
use native.Mathlib.Omega.{arith}
use lib.Ieee.{Float}
use Rattle.base.specs.Lists.{nought}
use Rattle.base.specs.Answers.{number_of, number_of_answer, spot, Pass, Asked}
use Rattle.base.specs.First.{first}
use Rattle.base.specs.declared.Form.{Form}
use Rattle.base.specs.declared.Refusal.{Refusal}
use Rattle.base.specs.declared.Refusal.TheVariants.{OtherStructure, BadFactors}
use Rattle.matrix.specs.Input.{Input, stored}
use Rattle.matrix.specs.Questions.{ask_structure, ask_solve, ask_right}
use Rattle.arithmetic.specs.Arith.{Fault, zero_pivot, overflow, Out, ok, met, judged, Result}
use Rattle.arithmetic.specs.Again.{whole_again}
use Rattle.outcome.specs.Buffers.{Buffers, sizes, pattern_tests, structure_tests, right_tests, buffer_tests, ask_shape, scratch_cleared, cleared, Outcome, ended, stop}
use Rattle.outcome.specs.Structure.{ask_places, counts, structured, structure}
use Rattle.outcome.specs.Solve.{listed, fault_of, left, concluded, shape, solve}
use Rattle.outcome.specs.Refactor.{differs, ask_presented, emptied, refactored, refactor}
use Rattle.outcome.specs.Resolve.{bad_at, ask_factors, factors_of, resolved, resolve}
use Rattle.outcome.proofs.Asking.{turn_of, turned, Within, within-wide, within-stop, within-absent}
use Rattle.outcome.proofs.Answers.{ask-shape-within, shape-within, structure-within, solve-within, right-within, places-within}

-- of a call that was lent s, and leaves t after 9 to 13
pub record Ends {A : Type 0} (number : A → ℕ) (s t : Buffers) (o : Outcome A) : Type 0 where
  -- "1 and 2 write nothing."
  pub nothing : 1 ≤ number o.answer → number o.answer ≤ 2 → o.buffers ≡ s
  -- "After 3 to 8, 14 and 15 scratch is zero and all else untouched."
  pub scratch : 3 ≤ number o.answer → number o.answer ≤ 8 → o.buffers ≡ scratch_cleared s
  -- 19: "buffers as after 6"
  pub floor : number o.answer ≡ 19 → o.buffers ≡ scratch_cleared s
  pub checked : 14 ≤ number o.answer → number o.answer ≤ 15 → o.buffers ≡ scratch_cleared s
  -- "After 9 to 13 scratch is zero and so is every other buffer but x that this call writes."
  pub all : 9 ≤ number o.answer → number o.answer ≤ 13 → o.buffers ≡ t
  -- "x is untouched by every refusal."
  pub x : 1 ≤ number o.answer → o.buffers.x ≡ s.x

module _ {A : Type 0} (number : A → ℕ) (refuse : Refusal → A) (told : (q : Refusal) → number (refuse q) ≡ number_of q) (s t : Buffers) (same : t.x ≡ s.x) where
  done : (a : A) (u : Buffers) → number a ≡ 0 → Ends number s t (ended a u)
  done a u e =
      record { nothing = λ l h. absurd (omega arith); scratch = λ l h. absurd (omega arith); floor = λ l. absurd (omega arith); checked = λ l h. absurd (omega arith); all = λ l h. absurd (omega arith); x = λ l. absurd (omega arith) }

  stop-first : (a : Asked) (o : Outcome A) → Within 1 2 a → Ends number s t o → Ends number s t (stop refuse a s o)
  unfolding Within
  stop-first (Ok _) o w h = h
  stop-first (Err q) o w h =
      let r = w q refl in
      let e = told q in
      let v = turned q in
      record { nothing = λ l h. refl; scratch = λ l h. absurd (omega arith); floor = λ l. absurd (omega arith); checked = λ l h. absurd (omega arith); all = λ l h. absurd (omega arith); x = λ l. refl }

  stop-scratch : (a : Asked) (o : Outcome A) → Within 3 7 a → Ends number s t o → Ends number s t (stop refuse a (scratch_cleared s) o)
  unfolding Within scratch_cleared
  stop-scratch (Ok _) o w h = h
  stop-scratch (Err q) o w h =
      let r = w q refl in
      let e = told q in
      let v = turned q in
      record { nothing = λ l h. absurd (omega arith); scratch = λ l h. refl; floor = λ l. refl; checked = λ l h. absurd (omega arith); all = λ l h. absurd (omega arith); x = λ l. refl }

  stop-checked : (a : Asked) (o : Outcome A) → Within 14 15 a → Ends number s t o → Ends number s t (stop refuse a (scratch_cleared s) o)
  unfolding Within scratch_cleared
  stop-checked (Ok _) o w h = h
  stop-checked (Err q) o w h =
      let r = w q refl in
      let e = told q in
      let v = turned q in
      record { nothing = λ l h. absurd (omega arith); scratch = λ l h. absurd (omega arith); floor = λ l. absurd (omega arith); checked = λ l h. refl; all = λ l h. absurd (omega arith); x = λ l. refl }

  stop-all : (a : Asked) (o : Outcome A) → Within 9 13 a → Ends number s t o → Ends number s t (stop refuse a t o)
  unfolding Within
  stop-all (Ok _) o w h = h
  stop-all (Err q) o w h =
      let r = w q refl in
      let e = told q in
      let v = turned q in
      record { nothing = λ l h. absurd (omega arith); scratch = λ l h. absurd (omega arith); floor = λ l. absurd (omega arith); checked = λ l h. absurd (omega arith); all = λ l h. refl; x = λ l. same }

fault-range : (q : Fault) → (9 ≤ turn_of (fault_of q)) × (turn_of (fault_of q) ≤ 13)
fault-range (zero_pivot k) = (omega arith, omega arith)
fault-range (overflow k) = (omega arith, omega arith)

pub fault-within : (q : Fault) → Within 9 13 (Err (fault_of q))
fault-within q = within-stop 9 13 (fault_of q) (fault-range q).0 (fault-range q).1

module _ (f : Form) (i : Input) (s : Buffers) where
  places : Within 9 13 (ask_places f (stored i) i.n (sizes s) i.n)
  places = within-wide 9 11 9 13 _ (omega arith) (omega arith) (places-within f (stored i) i.n (sizes s) i.n)

  pub structure-ends : Ends number_of_answer s (cleared (sizes s) s.x) (structure f i s)
  unfolding structure cleared
  structure-ends =
      let u = cleared (sizes s) s.x in
      stop-first number_of_answer Err (λ q. refl) s u refl (ask_shape i.n (pattern_tests i ++ structure_tests f i.n (sizes s))) _ (ask-shape-within i.n (pattern_tests i ++ structure_tests f i.n (sizes s)))
      (stop-scratch number_of_answer Err (λ q. refl) s u refl (ask_structure i) _ (structure-within i)
      (stop-all number_of_answer Err (λ q. refl) s u refl (ask_places f (stored i) i.n (sizes s) i.n) _ places
      (done number_of_answer Err (λ q. refl) s u refl (Ok (counts i)) (structured f i (sizes s)) refl)))

  concluded-ends : (o : Out Result) → Ends number_of_answer s (cleared (sizes s) s.x) (concluded f i (sizes s) s.x o)
  unfolding cleared
  concluded-ends (ok a) = done number_of_answer Err (λ q. refl) s (cleared (sizes s) s.x) refl (Ok (counts i)) (left f i (sizes s) a) refl
  concluded-ends (met q) =
      stop-all number_of_answer Err (λ q. refl) s (cleared (sizes s) s.x) refl (Err (fault_of q)) (ended (Ok (counts i)) s) (fault-within q)
      (done number_of_answer Err (λ q. refl) s (cleared (sizes s) s.x) refl (Ok (counts i)) s refl)

  pub solve-ends : Ends number_of_answer s (cleared (sizes s) s.x) (solve f i s)
  unfolding solve cleared
  solve-ends =
      let u = cleared (sizes s) s.x in
      stop-first number_of_answer Err (λ q. refl) s u refl (shape f i (sizes s)) _ (shape-within f i (sizes s))
      (stop-scratch number_of_answer Err (λ q. refl) s u refl (ask_solve i) _ (solve-within i)
      (stop-all number_of_answer Err (λ q. refl) s u refl (ask_places f (stored i) i.n (sizes s) i.n) _ places
      (concluded-ends (listed i))))

  refactored-ends : (o : Out Result) → Ends number_of_answer s (emptied s) (refactored f i s o)
  unfolding emptied
  refactored-ends (ok a) = done number_of_answer Err (λ q. refl) s (emptied s) refl Pass _ refl
  refactored-ends (met q) =
      stop-all number_of_answer Err (λ q. refl) s (emptied s) refl (Err (fault_of q)) (ended Pass s) (fault-within q) (done number_of_answer Err (λ q. refl) s (emptied s) refl Pass s refl)

  presented : Within 14 15 (ask_presented f (stored i) i.n s)
  unfolding ask_presented
  presented = within-absent 14 15 (first (differs f (stored i) i.n s) i.n) (λ k. OtherStructure (spot k)) (λ k. omega arith) (λ k. omega arith)

  pub refactor-ends : Ends number_of_answer s (emptied s) (refactor f i s)
  unfolding refactor emptied
  refactor-ends =
      stop-first number_of_answer Err (λ q. refl) s (emptied s) refl (shape f i (sizes s)) _ (shape-within f i (sizes s))
      (stop-scratch number_of_answer Err (λ q. refl) s (emptied s) refl (ask_solve i) _ (solve-within i)
      (stop-checked number_of_answer Err (λ q. refl) s (emptied s) refl (ask_presented f (stored i) i.n s) _ presented
      (refactored-ends (listed i))))

  resolved-ends : (o : Out (List Float)) → Ends number_of_answer s (scratch_cleared s) (resolved i s o)
  unfolding scratch_cleared
  resolved-ends (ok z) = done number_of_answer Err (λ q. refl) s (scratch_cleared s) refl Pass _ refl
  resolved-ends (met q) =
      stop-all number_of_answer Err (λ q. refl) s (scratch_cleared s) refl (Err (fault_of q)) (ended Pass s) (fault-within q) (done number_of_answer Err (λ q. refl) s (scratch_cleared s) refl Pass s refl)

  pub factored : Within 14 15 (ask_factors f i.n s)
  unfolding ask_factors
  factored = within-absent 14 15 (first (bad_at f i.n s) i.n) (λ k. BadFactors (spot k)) (λ k. omega arith) (λ k. omega arith)

  pub resolve-ends : Ends number_of_answer s (scratch_cleared s) (resolve f i s)
  unfolding resolve scratch_cleared
  resolve-ends =
      stop-first number_of_answer Err (λ q. refl) s (scratch_cleared s) refl (ask_shape i.n (right_tests i ++ buffer_tests f i.n (sizes s))) _ (ask-shape-within i.n (right_tests i ++ buffer_tests f i.n (sizes s)))
      (stop-scratch number_of_answer Err (λ q. refl) s (scratch_cleared s) refl (ask_right i.n i.r i.c i.b) _ (within-wide 5 6 3 7 _ (omega arith) (omega arith) (right-within i.n i.r i.c i.b))
      (stop-checked number_of_answer Err (λ q. refl) s (scratch_cleared s) refl (ask_factors f i.n s) _ factored
      (resolved-ends (judged nought (whole_again (factors_of f i s))))))
