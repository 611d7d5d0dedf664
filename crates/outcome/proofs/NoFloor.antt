-- "Each call that factors takes a floor": structure and another right side do not factor, and never answer 19.
use Rattle.std.specs.Prelude.{Ok, Err}
use mathlib.Core.Path.{◌≡◌, refl, sym, ◌∙◌}
use mathlib.Core.List.{List, ◌++◌}
use Prim.Native.Nat.{ℕ, ◌+◌, ◌≤◌}
use native.Mathlib.Omega.{arith}
use lib.ListN.{length}
use lib.Ieee.{Float}
use Rattle.base.specs.Lists.{nought}
use Rattle.base.specs.Answers.{number_of, number_of_answer, Asked}
use Rattle.base.specs.First.{first}
use Rattle.base.specs.declared.Form.{Form}
use Rattle.base.specs.declared.Refusal.{Refusal}
use Rattle.base.specs.declared.Refusal.TheVariants.{NotFinite}
use Rattle.matrix.specs.Input.{Input, stored}
use Rattle.matrix.specs.Questions.{ask7, not_finite, ask5, ask_finite, ask_pattern, ask_structure, ask_right}
use Rattle.arithmetic.specs.Arith.{Out, ok, met, judged}
use Rattle.arithmetic.specs.Again.{whole_again}
use Rattle.outcome.specs.Buffers.{Buffers, sizes, pattern_tests, structure_tests, right_tests, buffer_tests, ask_shape, Outcome, stop}
use Rattle.outcome.specs.Structure.{ask_places, structure}
use Rattle.outcome.specs.Solve.{fault_of}
use Rattle.outcome.specs.Resolve.{ask_factors, factors_of, resolved, resolve}
use Rattle.outcome.proofs.Asking.{turn_of, Only, only-absent, only_then, Within}
use Rattle.outcome.proofs.Answers.{ask-shape-within, ask5-within, pattern-within, rows-within, places-within}
use Rattle.outcome.proofs.Ends.{factored, fault-within}

abbrev NotFloor : Refusal → Type 0
NotFloor q = number_of q ≡ 19 → ⊥

-- 19 is not among the refusals of a
abbrev Unfloored : Asked → Type 0
Unfloored a = Only NotFloor a

floor-turn : (q : Refusal) → number_of q ≡ 19 → turn_of q ≡ 6
floor-turn q e = rw e refl

module _ (lo hi : ℕ) (a : Asked) (w : Within lo hi a) where
  before : hi ≤ 5 → Unfloored a
  unfolding Within Only
  before h q e t = let b = w q e in let v = floor-turn q t in omega arith

  behind : 7 ≤ lo → Unfloored a
  unfolding Within Only
  behind l q e t = let b = w q e in let v = floor-turn q t in omega arith

right-asked : (n : ℕ) (r c : List ℕ) (b : List Float) → Unfloored (ask_right n r c b)
unfolding ask_right ask_finite
right-asked n r c b =
    only_then NotFloor (ask5 n r c) (ask_finite b 0) (before 5 5 (ask5 n r c) (ask5-within n r c) (omega arith))
    (only-absent NotFloor (first (not_finite b) (length b)) (λ k. NotFinite (k + 0)) (λ k e. omega arith))

module _ {A : Type 0} (number : A → ℕ) (refuse : Refusal → A) (told : (q : Refusal) → number (refuse q) ≡ number_of q) where
  stopped : (a : Asked) (s : Buffers) (o : Outcome A) → Unfloored a → (number o.answer ≡ 19 → ⊥) → number (stop refuse a s o).answer ≡ 19 → ⊥
  unfolding Only
  stopped (Ok _) s o h g e = g e
  stopped (Err q) s o h g e = h q refl (sym (told q) ∙ e)

module _ (f : Form) (i : Input) (s : Buffers) where
  pub structure-unfloored : number_of_answer (structure f i s).answer ≡ 19 → ⊥
  unfolding structure ask_structure
  structure-unfloored =
      let tests = pattern_tests i ++ structure_tests f i.n (sizes s) in
      let asked = ask_places f (stored i) i.n (sizes s) i.n in
      stopped number_of_answer Err (λ q. refl) (ask_shape i.n tests) _ _ (before 1 2 _ (ask-shape-within i.n tests) (omega arith))
      (stopped number_of_answer Err (λ q. refl) (ask_structure i) _ _
      (only_then NotFloor (ask_pattern i) (ask7 i.n i.starts i.r) (before 3 5 _ (pattern-within i) (omega arith)) (behind 7 7 _ (rows-within i) (omega arith)))
      (stopped number_of_answer Err (λ q. refl) asked _ _ (behind 9 11 _ (places-within f (stored i) i.n (sizes s) i.n) (omega arith)) (λ e. omega arith)))

  resolved-unfloored : (o : Out (List Float)) → number_of_answer (resolved i s o).answer ≡ 19 → ⊥
  unfolding Only
  resolved-unfloored (ok z) e = omega arith
  resolved-unfloored (met q) e = behind 9 13 (Err (fault_of q)) (fault-within q) (omega arith) (fault_of q) refl e

  pub resolve-unfloored : number_of_answer (resolve f i s).answer ≡ 19 → ⊥
  unfolding resolve
  resolve-unfloored =
      let tests = right_tests i ++ buffer_tests f i.n (sizes s) in
      stopped number_of_answer Err (λ q. refl) (ask_shape i.n tests) _ _ (before 1 2 _ (ask-shape-within i.n tests) (omega arith))
      (stopped number_of_answer Err (λ q. refl) (ask_right i.n i.r i.c i.b) _ _ (right-asked i.n i.r i.c i.b)
      (stopped number_of_answer Err (λ q. refl) (ask_factors f i.n s) _ _ (behind 14 15 _ (factored f i s) (omega arith))
      (resolved-unfloored (judged nought (whole_again (factors_of f i s))))))
