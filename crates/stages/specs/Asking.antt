-- The questions before 9 in one, from lengths and scratch alone: what they answer, what they leave, and what a call then comes to.
use Rattle.std.specs.Prelude.{◌≡◌, refl, true, false, List, ℕ, Float, Ok, Err, is_err, IsErrAnd}
use Rattle.std.proofs.Common.{sym, ap, ◌∙◌}
use Rattle.base.specs.Lists.{blank, nought}
use Rattle.base.specs.Answers.{and_then, Pass, Asked, Answer}
use Rattle.matrix.specs.Input.{Input}
use Rattle.matrix.specs.Questions.{ask_structure, ask_solve}
use Rattle.outcome.specs.Buffers.{SideBuffers, Buffers, all_buffers, sizes, scratch_cleared, Outcome, ended, stop}
use Rattle.base.specs.declared.Sizes.{Sizes}
use Rattle.outcome.specs.Structure.{structure}
use Rattle.outcome.specs.Solve.{shape, solve}
use Rattle.base.specs.FirstLaws.{stop-pass, both-pass, passed-on}
use Rattle.symbolic.specs.Pass.{found_answer}
use Rattle.base.specs.declared.Form.{Form}
use Rattle.base.specs.declared.Refusal.{Refusal}
use Rattle.stages.specs.Stages.{no_counts, structure_placed, solve_placed}
use Rattle.stages.specs.Shaped.{structure_shape, StructureDue, SolveDue}
use Rattle.stages.specs.ShapedLaws.{structure-shaped, solve-shaped}
use Rattle.stages.specs.Branches.{never, pass_of}

-- scratch is w and m, and then v and t
abbrev pub Untouched : List Float → List ℕ → List Float → List ℕ → Type 0
Untouched w m v t = (v ≡ w) × (t ≡ m)

abbrev pub Blanked : List Float → List ℕ → List Float → List ℕ → Type 0
Blanked w m v t = (v ≡ blank nought w) × (t ≡ blank 0 m)

-- 1 and 2, then the rest: the first leave scratch as it was, the rest zero where they stop
pub record Asking (first rest : Asked) (Due : Type 0) (w : List Float) (m : List ℕ) (v : List Float) (t : List ℕ) (a : Asked) : Type 0 where
  pub answer : a ≡ and_then first rest
  pub untouched : is_err first ≡ true → Untouched w m v t
  pub blanked : first ≡ Pass → is_err rest ≡ true → Blanked w m v t
  pub due : a ≡ Pass → Due

abbrev pub StructureAsking : Form → Input → Sizes → List Float → List ℕ → List Float → List ℕ → Asked → Type 0
StructureAsking f i z w m v t a = Asking (structure_shape f i z) (ask_structure i) (StructureDue f i z) w m v t a

abbrev pub SolveAsking : Form → Input → Sizes → List Float → List ℕ → List Float → List ℕ → Asked → Type 0
SolveAsking f i z w m v t a = Asking (shape f i z) (ask_solve i) (SolveDue f i z) w m v t a

-- ---- the answers, o that of 1 and 2

pub asking-stop : (first rest : Asked) (Due : Type 0) (w : List Float) (m : List ℕ) (o : Asked) → o ≡ first → is_err o ≡ true → Asking first rest Due w m w m o
asking-stop first rest Due w m (Ok _) e h = never false refl h
asking-stop first rest Due w m (Err q) e h = record {
  answer = rw (← e);
  untouched = λ k. (refl, refl);
  blanked = λ k r. absurd (stop-pass q (e ∙ k));
  due = λ k. absurd (stop-pass q k);
}

pub asking-on : (first rest : Asked) (Due : Type 0) (w : List Float) (m : List ℕ) (v : List Float) (t : List ℕ) (o a : Asked) → o ≡ first → is_err o ≡ false → a ≡ rest → (is_err a ≡ true → Blanked w m v t) → (first ≡ Pass → rest ≡ Pass → Due)
    → Asking first rest Due w m v t a
asking-on first rest Due w m v t o a e n g b d =
    let p : first ≡ Pass = sym e ∙ pass_of o n in
    record {
      answer = rw (p, g);
      untouched = λ h. never (is_err first) (ap is_err p) h;
      blanked = λ h k. b (ap is_err g ∙ k);
      due = λ h. d p (sym g ∙ h);
    }

-- the answers as the code gives them: `?` passes on a refusal by 1 and 2, and what they pass goes on
pub asking-refused : (first rest : Asked) (Due : Type 0) (w : List Float) (m : List ℕ) (o a : Asked) (q : Refusal) → o ≡ first → o ≡ Err q → IsErrAnd a (λ x. x ≡ q) → Asking first rest Due w m w m a
asking-refused first rest Due w m o a q e h g =
    let p = passed-on a q g in
    asking-stop first rest Due w m a (p ∙ sym h ∙ e) (ap is_err p)

pub asking-passed : (first rest : Asked) (Due : Type 0) (w : List Float) (m : List ℕ) (v : List Float) (t : List ℕ) (o a : Asked) → o ≡ first → o ≡ Pass → a ≡ rest → (is_err a ≡ true → Blanked w m v t) → (first ≡ Pass → rest ≡ Pass → Due)
    → Asking first rest Due w m v t a
asking-passed first rest Due w m v t o a e p = asking-on first rest Due w m v t o a e (ap is_err p)

-- a further question, asked where these are passed: they stop the call, or it is asked and clears as they do
pub asking-stopped : (first rest more : Asked) (Due After : Type 0) (w : List Float) (m : List ℕ) (v : List Float) (t : List ℕ) (a : Asked) → Asking first rest Due w m v t a → is_err a ≡ true
    → Asking first (and_then rest more) After w m v t a
asking-stopped (Err q) rest more Due After w m v t a g h = record { answer = g.answer; untouched = g.untouched; blanked = λ e k. absurd (stop-pass q e); due = λ e. never (is_err a) (ap is_err e) h }
asking-stopped (Ok _) (Err q) more Due After w m v t a g h = record { answer = g.answer; untouched = g.untouched; blanked = g.blanked; due = λ e. never (is_err a) (ap is_err e) h }
asking-stopped (Ok _) (Ok _) more Due After w m v t a g h = never (is_err a) (ap is_err g.answer) h

pub asking-more : (first rest more : Asked) (Due After : Type 0) (w : List Float) (m : List ℕ) (v₁ : List Float) (t₁ : List ℕ) (a : Asked) (v : List Float) (t : List ℕ) (o : Asked) → Asking first rest Due w m v₁ t₁ a → a ≡ Pass
    → o ≡ more → (is_err o ≡ true → Blanked w m v t) → (Due → o ≡ Pass → After) → Asking first (and_then rest more) After w m v t o
asking-more first rest more Due After w m v₁ t₁ a v t o g p e b d =
    let k = both-pass first rest (sym g.answer ∙ p) in
    asking-on first (and_then rest more) After w m v t Pass o (sym k.0) refl (rw k.1 e) b (λ x y. d (g.due p) (e ∙ (both-pass rest more y).1))

pub structure-due : (f : Form) (i : Input) (z : Sizes) → structure_shape f i z ≡ Pass → ask_structure i ≡ Pass → StructureDue f i z
structure-due f i z e p = record { shaped = structure-shaped f i z e; passed = p }

pub solve-due : (f : Form) (i : Input) (z : Sizes) → shape f i z ≡ Pass → ask_solve i ≡ Pass → SolveDue f i z
solve-due f i z e p = record { shaped = solve-shaped f i z e; passed = p }

-- ---- the call ends with their refusal, or goes on

-- whatever it answers: `give` says what it answers to questions
module _ {A : Type 0} (refuse : Refusal → A) (give : Asked → A) (gives : (q : Refusal) → give (Err q) ≡ refuse q) where
  pub stops_call : (first rest a : Asked) (r : A) (s s₀ t : Buffers) (o : Outcome A) → a ≡ and_then first rest → is_err a ≡ true → r ≡ give a
      → (is_err first ≡ true → t ≡ s) → (first ≡ Pass → is_err rest ≡ true → t ≡ s₀) → ended r t ≡ stop refuse first s (stop refuse rest s₀ o)
  stops_call (Err q) rest a r s s₀ t o e h g x y = rw (g, e, gives q, x refl)
  stops_call (Ok _) (Err q) a r s s₀ t o e h g x y = rw (g, e, gives q, y refl refl)
  stops_call (Ok _) (Ok _) a r s s₀ t o e h g x y = never (is_err a) (ap is_err e) h

pub goes_on : {A : Type 0} (refuse : Refusal → A) (first rest a : Asked) (s s₀ : Buffers) (o r : Outcome A) → a ≡ and_then first rest → a ≡ Pass → r ≡ o → r ≡ stop refuse first s (stop refuse rest s₀ o)
goes_on refuse first rest a s s₀ o r e h g = let p = both-pass first rest (sym e ∙ h) in rw (p.0, p.1) g

abbrev unanswered : Asked → Answer
unanswered a = found_answer a no_counts

module _ (l u : SideBuffers) (d x w v : List Float) (m t : List ℕ) where
  pub as-was : Untouched w m v t → all_buffers l u d x v t ≡ all_buffers l u d x w m
  as-was h = rw (h.0, h.1)

  pub blank-scratch : Blanked w m v t → all_buffers l u d x v t ≡ scratch_cleared (all_buffers l u d x w m)
  unfolding scratch_cleared blank
  blank-scratch h = rw (h.0, h.1)

module _ (f : Form) (i : Input) (l u : SideBuffers) (d x w v : List Float) (m t : List ℕ) (a : Asked) (r : Answer) where
  pub structure-stops : StructureAsking f i (sizes (all_buffers l u d x w m)) w m v t a → is_err a ≡ true → r ≡ found_answer a no_counts
      → ended r (all_buffers l u d x v t) ≡ structure f i (all_buffers l u d x w m)
  unfolding structure
  structure-stops g h e = stops_call Err unanswered (λ q. refl) _ _ a r _ _ _ _ g.answer h e (λ y. as-was l u d x w v m t (g.untouched y)) (λ y k. blank-scratch l u d x w v m t (g.blanked y k))

  -- the same, where `?` passes it on
  pub structure-refuses : StructureAsking f i (sizes (all_buffers l u d x w m)) w m v t a → (q : Refusal) → a ≡ Err q → IsErrAnd r (λ y. y ≡ q)
      → ended r (all_buffers l u d x v t) ≡ structure f i (all_buffers l u d x w m)
  structure-refuses g q h e = structure-stops g (ap is_err h) (passed-on r q e ∙ sym (ap unanswered h))

  pub solve-stops : SolveAsking f i (sizes (all_buffers l u d x w m)) w m v t a → is_err a ≡ true → r ≡ found_answer a no_counts
      → ended r (all_buffers l u d x v t) ≡ solve f i (all_buffers l u d x w m)
  unfolding solve
  solve-stops g h e = stops_call Err unanswered (λ q. refl) _ _ a r _ _ _ _ g.answer h e (λ y. as-was l u d x w v m t (g.untouched y)) (λ y k. blank-scratch l u d x w v m t (g.blanked y k))

  pub solve-refuses : SolveAsking f i (sizes (all_buffers l u d x w m)) w m v t a → (q : Refusal) → a ≡ Err q → IsErrAnd r (λ y. y ≡ q)
      → ended r (all_buffers l u d x v t) ≡ solve f i (all_buffers l u d x w m)
  solve-refuses g q h e = solve-stops g (ap is_err h) (passed-on r q e ∙ sym (ap unanswered h))

module _ (f : Form) (i : Input) (s : Buffers) (w v : List Float) (m t : List ℕ) (a : Asked) (r : Outcome Answer) where
  pub structure-goes : StructureAsking f i (sizes s) w m v t a → a ≡ Pass → r ≡ structure_placed f i s → r ≡ structure f i s
  unfolding structure structure_placed
  structure-goes g h e = goes_on Err (structure_shape f i (sizes s)) (ask_structure i) a s (scratch_cleared s) (structure_placed f i s) r g.answer h e

  pub solve-goes : SolveAsking f i (sizes s) w m v t a → a ≡ Pass → r ≡ solve_placed f i s → r ≡ solve f i s
  unfolding solve solve_placed
  solve-goes g h e = goes_on Err (shape f i (sizes s)) (ask_solve i) a s (scratch_cleared s) (solve_placed f i s) r g.answer h e
