-- The slots of a report, one after another, and what a call tells by it.
use Rattle.matrix.specs.Shape.{Shaped}
use Rattle.std.specs.Prelude.{Ok, Err}
use Rattle.std.specs.Result.{result_unwrap_or}
use Rattle.std.proofs.Math.Decide.{dec_lt}
use mathlib.Core.Path.{◌≡◌, refl, ap, ◌∙◌}
use mathlib.Core.List.{List, [], ◌∷◌}
use Prim.Native.Nat.{ℕ, ◌+◌, ◌≤◌, ◌<◌, min}
use native.Mathlib.Omega.{arith}
use native.Mathlib.Numerals.{add-one}
use lib.ListN.{length, get_or, set, drop, drop_of_length-le}
use lib.Seq.{sets, drop-cons}
use Rattle.base.specs.Limits.{max_rows}
use Rattle.base.specs.Answers.{number_of_answer, place_of_answer, counts_of, entries_of, sizes_of_kept, spot, Left, left, Made, Kept, Answer}
use Rattle.base.specs.declared.Counts.{Counts}
use Rattle.base.specs.declared.Form.{Form}
use Rattle.base.specs.declared.Place.{Place}
use Rattle.base.specs.declared.Side.{Side}
use Rattle.base.specs.declared.Side.TheVariants.{Lower, Upper}
use Rattle.lookup.specs.declared.Span.{Span}
use Rattle.lookup.specs.Lookup.{SideLists, span_in}
use Rattle.lookup.specs.LookupLaws.{span-in}
use borrow.Author.Tests.{eq-eqb, ne_eqb, lt-ltb, le-ltb}
use Rattle.base.specs.declared.FactorSizes.{FactorSizes}
use Rattle.matrix.specs.declared.Matrix.{Matrix}
use Rattle.outcome.specs.Buffers.{Buffers, Outcome, ended}
use Rattle.residual.specs.Answer.{number_of_checked}
use Rattle.residual.specs.Promise.{Promised}
use Rattle.residual.specs.declared.Checked.{Checked}
use Rattle.residual.specs.declared.Checked.TheVariants.{Pair}
use Rattle.matrix.specs.Input.{Input}
use Rattle.base.specs.declared.OwnNumber.{OwnNumber}
use lib.Ieee.{Float}
use Rattle.report.specs.Report.{Reported, as_left, answer_slots, made_slots, kept_slots, checked_slots, pair_after, ToldRow, number_of_shape, shape_slots, span_slots, side_numbered, place_in}

-- slot i + 1 takes value i: slot 0 has the place
pub slots-turn : (out : List ℕ) (values : List ℕ) (i : ℕ) → i < length values → sets (set out (i + 1) (get_or values i 0)) (i + 1 + 1) (drop (i + 1) values) ≡ sets out (i + 1) (drop i values)
slots-turn out values i h = rw (add-one (i + 1), drop-cons values i 0 h, add-one i)

pub slots-end : (out : List ℕ) (values : List ℕ) (i : ℕ) → length values ≤ i → out ≡ sets out (i + 1) (drop i values)
slots-end out values i h = rw (drop_of_length-le values h)

pub slots_end : (out : List ℕ) (values : List ℕ) (i : ℕ) → length values ≤ i → out ≡ sets out i (drop i values)
slots_end out values i h = rw (drop_of_length-le values h)

pub reported : {R A : Type 0} {number_in : R → ℕ} {slots_in : R → List ℕ} (o : Left R A) (a : R) (h : A) (report₀ report : List ℕ) (number : ℕ) → left a h ≡ o
    → number ≡ number_in a → report ≡ sets report₀ 0 (slots_in a) → Reported number_in slots_in o report₀ report h number
reported o a h report₀ report number e n r = rw (← e) (record { number_is = n; held-is = refl; report-is = r })

-- the same of a call over stores
pub told : {R : Type 0} {number_in : R → ℕ} {slots_in : R → List ℕ} (o : Outcome R) (a : R) (s : Buffers) (report₀ report : List ℕ) (number : ℕ) → ended a s ≡ o
    → number ≡ number_in a → report ≡ sets report₀ 0 (slots_in a) → Reported number_in slots_in (as_left o) report₀ report s number
told o a s report₀ report number e n r = reported (as_left o) a s report₀ report number (ap as_left e) n r

pub answer-put : (a : Answer) (counts : Counts) (report₀ report : List ℕ) → counts ≡ counts_of a
    → report ≡ sets report₀ 0 (place_of_answer a ∷ counts.lower ∷ counts.upper ∷ counts.products ∷ []) → report ≡ sets report₀ 0 (answer_slots a)
unfolding answer_slots
answer-put a counts report₀ report e h = h ∙ rw e

pub made-put : (a : Made) (e : ℕ) (report₀ report : List ℕ) → e ≡ entries_of a → report ≡ sets report₀ 0 (place_of_answer a ∷ e ∷ []) → report ≡ sets report₀ 0 (made_slots a)
unfolding made_slots
made-put a e report₀ report f h = h ∙ rw f

pub kept-put : (a : Kept) (sizes : FactorSizes) (report₀ report : List ℕ) → sizes ≡ sizes_of_kept a
    → report ≡ sets report₀ 0 (place_of_answer a ∷ sizes.n ∷ sizes.lower ∷ sizes.upper ∷ []) → report ≡ sets report₀ 0 (kept_slots a)
unfolding kept_slots
kept-put a sizes report₀ report e h = h ∙ rw e

pub kept_put : (a : Kept) (place : ℕ) (sizes : FactorSizes) (report₀ report : List ℕ) → place ≡ place_of_answer a → sizes ≡ sizes_of_kept a
    → report ≡ sets report₀ 0 (place ∷ sizes.n ∷ sizes.lower ∷ sizes.upper ∷ []) → report ≡ sets report₀ 0 (kept_slots a)
unfolding kept_slots
kept_put a place sizes report₀ report e f h = h ∙ rw (e, f)

-- ---- a row that was checked

pub row_told : (i : Input) (x : List Float) (k : OwnNumber) (a : Checked) (pair₀ pair : List Float) (report₀ report : List ℕ) (number : ℕ) → Promised i x k a → pair ≡ pair_after a pair₀
    → number ≡ number_of_checked a → report ≡ sets report₀ 0 (checked_slots a) → ToldRow i x k pair₀ pair report₀ report number
row_told i x k a pair₀ pair report₀ report number P e n r =
    record { told = rw (← P.is) (record { number_is = n; held-is = e; report-is = r }); kept = rw (← P.is) P.kept }

pub pair_put : (a : Checked) (r w : Float) (pair₀ mid pair : List Float) → a ≡ Pair r w → mid ≡ set pair₀ 0 r → pair ≡ set mid 1 w → pair ≡ pair_after a pair₀
pair_put a r w pair₀ mid pair e f g = rw (e, g, f)

-- ---- the shape of a file

pub shape-put : (o f : Shaped) (m : Matrix) (report₀ report : List ℕ) (number : ℕ) → o ≡ f → m ≡ result_unwrap_or o (record { rows = 0; entries = 0 }) → number ≡ number_of_answer o
    → report ≡ sets report₀ 0 (place_of_answer o ∷ m.rows ∷ m.entries ∷ []) → (number ≡ number_of_shape f) × (report ≡ sets report₀ 0 (shape_slots f))
shape-put (Ok s) f m report₀ report number e g n h = rw (← e) (n, h ∙ rw g)
shape-put (Err q) f m report₀ report number e g n h = rw (← e) (n, h ∙ rw g)

-- ---- a list

pub span-put : (s t : Span) (report₀ report : List ℕ) (number : ℕ) → s ≡ t → (number ≡ 0) × (report ≡ sets report₀ 0 (span_slots s)) → (number ≡ 0) × (report ≡ sets report₀ 0 (span_slots t))
span-put s t report₀ report number e h = rw (← e) h

pub span-told : (f : Form) (side side' : Side) (k k' : Place) (n : ℕ) (l u : SideLists) (s : Span) → side ≡ side' → k ≡ k' → s ≡ span_in f side k n l u → s ≡ span_in f side' k' n l u
span-told f side side' k k' n l u s e g h = rw (← e, ← g) h

pub span-rises : (f : Form) (side : Side) (k : Place) (n : ℕ) (l u : SideLists) (s : Span) → s ≡ span_in f side k n l u → s.from ≤ s.to
span-rises f side k n l u s h = (span-in f side k n l u s h).up

pub side-lower : (c : ℕ) → c ≡ 0 → Lower ≡ side_numbered c
side-lower c e = rw (eq-eqb c 0 e)

pub side-upper : (c : ℕ) → (c ≡ 0 → ⊥) → Upper ≡ side_numbered c
side-upper c e = rw (ne_eqb c 0 e)

pub place-told : (k m : ℕ) → m ≡ min k max_rows → spot m ≡ place_in k
place-told k m e = elim (dec_lt k max_rows) [
  | yes b ↦ (let i : m ≡ k = omega arith in rw (lt-ltb k max_rows b, i))
  | no b ↦ (let i : m ≡ max_rows = omega arith in rw (le-ltb k max_rows (omega arith), i))
]
