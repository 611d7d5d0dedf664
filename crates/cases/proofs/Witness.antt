-- The premises of the agreement can be met together, for every kind of answer, and a form can be short of slots where others are not.
use Rattle.std.specs.Prelude.{Ok, Err}
use mathlib.Core.Path.{◌≡◌, refl, sym, ap, ◌∙◌}
use mathlib.Core.Logic.{inl, inr}
use mathlib.Core.List.{List, [], ◌∷◌}
use Prim.Native.Nat.{ℕ, ◌≤◌}
use lib.ListN.{get_or}
use native.Mathlib.Omega.{arith}
use Rattle.base.specs.Answers.{number_of_answer, Pass, Asked}
use Rattle.arithmetic.specs.Arith.{Out, Result}
use Rattle.matrix.specs.Input.{Input, stored}
use Rattle.outcome.specs.Buffers.{Buffers, sizes}
use Rattle.outcome.specs.Structure.{ask_places, counts}
use Rattle.outcome.specs.Solve.{earlier, listed, solve}
use Rattle.outcome.proofs.Asking.{turned, Within}
use Rattle.outcome.proofs.Answers.{verdict, solve-answer, Early, earlier-early}
use Rattle.agreement.specs.Demand.{Stated, Short, Roomy, Passed}
use Rattle.agreement.proofs.Agree.{short-told, by_form-cases}
use Rattle.cases.specs.Table.{slots, dirty, Seen, seen, outcome_of, graph, two, single, swapped, arrow, boundary}
use Rattle.cases.proofs.Boundary.{holds}
use Rattle.base.specs.declared.Counts.{Counts}
use Rattle.base.specs.declared.Form.{Form}
use Rattle.base.specs.declared.Form.TheVariants.{Plain, Shared}

-- all premises, and what the three answer: m
pub record Met (i : Input) (s : Form → Buffers) (m : ℕ) : Type 0 where
  pub stated : (f : Form) → Stated f i (s f)
  pub roomy : (f : Form) → Roomy f i (s f)
  pub passed : (f : Form) → Passed f i (s f)
  pub number : (f : Form) → number_of_answer (solve f i (s f)).answer ≡ m

passed-of : (a b : Asked) (o : Out Result) (c : Counts) (m : ℕ) → Early a → number_of_answer (verdict a b o c) ≡ m → (1 ≤ m → 9 ≤ m) → m ≤ 18 → a ≡ Pass
unfolding Within
passed-of (Ok _) b o c m w e h k = refl
passed-of (Err q) b o c m w e h k = absurd (omega (arith, w q refl, e, turned q, h (omega (arith, w q refl, e, turned q))))

-- neither 10 nor 11 is answered
roomy_of : (f : Form) (i : Input) (s : Buffers) (m : ℕ) → number_of_answer (solve f i s).answer ≡ m → (m ≡ 10 → ⊥) → (m ≡ 11 → ⊥) → Roomy f i s
roomy_of f i s m e a b h = elim ((short-told f i s).1 h) [ inl c ↦ a (sym e ∙ c) | inr c ↦ b (sym e ∙ c) ]

-- from the lengths, and from a number that is 0 or at least 9, and neither 10 nor 11
met_by : (i : Input) (s : Form → Buffers) (m : ℕ) → ((f : Form) → Stated f i (s f)) → ((f : Form) → number_of_answer (solve f i (s f)).answer ≡ m) → (1 ≤ m → 9 ≤ m) → m ≤ 18 → (m ≡ 10 → ⊥) → (m ≡ 11 → ⊥) → Met i s m
met_by i s m h e l k a b =
    record {
      stated = h;
      roomy = λ f. roomy_of f i (s f) m (e f) a b;
      passed = λ f. passed-of (earlier f i (sizes (s f))) (ask_places f (stored i) i.n (sizes (s f)) i.n) (listed i) (counts i) m (earlier-early f i (sizes (s f))) (ap number_of_answer (sym (solve-answer f i (s f))) ∙ e f) l k;
      number = e;
    }

-- the number that the table gives at an entry
abbrev number_at : ℕ → List Seen → ℕ
number_at k l = (get_or l k (record { number = 0; place = 0; counts = []; x = []; d = []; lower = []; upper = [] })).number

module _ (i : Input) (s : Form → Buffers) where
  abbrev Answers : ℕ → Form → Type 0
  Answers m f = number_of_answer (solve f i (s f)).answer ≡ m

-- a solution
pub met-solution : Met two (λ f. dirty f 2 (slots 1 1 1 1)) 0
unfolding Stated two graph boundary outcome_of seen
met-solution =
    met_by two (λ f. dirty f 2 (slots 1 1 1 1)) 0 (by_form-cases _ refl refl refl)
    (by_form-cases (Answers two (λ f. dirty f 2 (slots 1 1 1 1)) 0) (ap (number_at 0) holds) (ap (number_at 1) holds) (ap (number_at 2) holds)) (λ l. omega arith) (omega arith) (λ e. omega arith) (λ e. omega arith)

-- a zero pivot
pub met-zero : Met (single 0x8000000000000000) (λ f. dirty f 1 (slots 0 0 0 0)) 12
unfolding Stated single graph boundary outcome_of seen
met-zero =
    met_by (single 0x8000000000000000) (λ f. dirty f 1 (slots 0 0 0 0)) 12 (by_form-cases _ refl refl refl)
    (by_form-cases (Answers (single 0x8000000000000000) (λ f. dirty f 1 (slots 0 0 0 0)) 12) (ap (number_at 3) holds) (ap (number_at 4) holds) (ap (number_at 5) holds)) (λ l. omega arith) (omega arith) (λ e. omega arith) (λ e. omega arith)

-- an overflow
pub met-over : Met (single 0x0004000000000000) (λ f. dirty f 1 (slots 0 0 0 0)) 13
unfolding Stated single graph boundary outcome_of seen
met-over =
    met_by (single 0x0004000000000000) (λ f. dirty f 1 (slots 0 0 0 0)) 13 (by_form-cases _ refl refl refl)
    (by_form-cases (Answers (single 0x0004000000000000) (λ f. dirty f 1 (slots 0 0 0 0)) 13) (ap (number_at 9) holds) (ap (number_at 10) holds) (ap (number_at 11) holds)) (λ l. omega arith) (omega arith) (λ e. omega arith) (λ e. omega arith)

-- a null pivot
pub met-null : Met (swapped (0 ∷ 1 ∷ [])) (λ f. dirty f 2 (slots 1 1 1 1)) 9
unfolding Stated swapped graph boundary outcome_of seen
met-null =
    met_by (swapped (0 ∷ 1 ∷ [])) (λ f. dirty f 2 (slots 1 1 1 1)) 9 (by_form-cases _ refl refl refl)
    (by_form-cases (Answers (swapped (0 ∷ 1 ∷ [])) (λ f. dirty f 2 (slots 1 1 1 1)) 9) (ap (number_at 12) holds) (ap (number_at 13) holds) (ap (number_at 14) holds)) (λ l. omega arith) (omega arith) (λ e. omega arith) (λ e. omega arith)

-- the plain form is short of an upper index slot, the shared form with as few is not
pub short-plain : Short Plain arrow (dirty Plain 3 (slots 3 3 2 3))
unfolding arrow graph boundary outcome_of seen
short-plain = (short-told Plain arrow (dirty Plain 3 (slots 3 3 2 3))).0 (inr (ap (number_at 27) holds))

pub shared-fits : Roomy Shared arrow (dirty Shared 3 (slots 2 3 2 3))
unfolding arrow graph boundary outcome_of seen
shared-fits = roomy_of Shared arrow (dirty Shared 3 (slots 2 3 2 3)) 0 (ap (number_at 25) holds) (λ e. omega arith) (λ e. omega arith)
