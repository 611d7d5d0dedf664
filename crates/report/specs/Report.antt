-- What a call through the C interface tells: its number, the slots of its report as far as they go, and its buffers. Definitions only.
use Rattle.matrix.specs.Shape.{Shaped}
use Rattle.std.specs.Prelude.{◌≡◌, cond, List, [], ◌∷◌, ℕ, ◌-◌, eqb, ltb, Float, Ok, Err}
use Rattle.std.proofs.lemmas.List.Edits.{sets}
use Rattle.matrix.specs.Input.{Input}
use Rattle.base.specs.Answers.{number_of, place_of, number_of_answer, place_of_answer, counts_of, entries_of, sizes_of_kept, spot, Left, left, Made, Kept, Asked, Answer}
use Rattle.base.specs.Limits.{max_rows}
use Rattle.base.specs.declared.Form.{Form}
use Rattle.base.specs.declared.OwnNumber.{OwnNumber}
use Rattle.base.specs.declared.Place.{Place}
use Rattle.base.specs.declared.Side.{Side}
use Rattle.base.specs.declared.Side.TheVariants.{Lower, Upper}
use Rattle.outcome.specs.Buffers.{Buffers, Outcome}
use Rattle.residual.specs.Answer.{number_of_checked, place_of_checked, checked}
use Rattle.residual.specs.Promise.{KeptBy}
use Rattle.residual.specs.declared.Checked.{Checked}
use Rattle.residual.specs.declared.Checked.TheVariants.{Pair, Refused}
use Rattle.lookup.specs.declared.Span.{Span}
use Rattle.lookup.specs.Lookup.{SideLists, span_in}

-- a call that ends as `o` does: its number, what it leaves, and the report, by the answer's number and slots
pub record Reported {R A : Type 0} (number_in : R → ℕ) (slots_in : R → List ℕ) (o : Left R A) (report₀ report : List ℕ) (held : A) (number : ℕ) : Type 0 where
  pub number_is : number ≡ number_in o.answer
  pub held-is : held ≡ o.held
  pub report-is : report ≡ sets report₀ 0 (slots_in o.answer)

-- what a call over stores leaves: its buffers
abbrev pub as_left : {R : Type 0} → Outcome R → Left R Buffers
as_left o = left o.answer o.buffers

-- place and counts of an answer
unfoldable pub answer_slots : Answer → List ℕ
answer_slots a = place_of_answer a ∷ (counts_of a).lower ∷ (counts_of a).upper ∷ (counts_of a).products ∷ []

-- a call with counts: the fill sheet, reading factors
abbrev pub ToldRead : {A : Type 0} → Left Answer A → List ℕ → List ℕ → A → ℕ → Type 0
ToldRead o = Reported number_of_answer answer_slots o

-- a structure call or a solve
abbrev pub Told : Outcome Answer → List ℕ → List ℕ → Buffers → ℕ → Type 0
Told o = ToldRead (as_left o)

-- the place alone
abbrev pub end_slots : Asked → List ℕ
end_slots a = place_of_answer a ∷ []

-- a call without counts: reading or writing a file, refactor, another right side
abbrev pub ToldEnd : {A : Type 0} → Left Asked A → List ℕ → List ℕ → A → ℕ → Type 0
ToldEnd o = Reported number_of_answer end_slots o

-- place and entries
unfoldable pub made_slots : Made → List ℕ
made_slots a = place_of_answer a ∷ entries_of a ∷ []

-- a call that makes a matrix
abbrev pub ToldMade : {A : Type 0} → Left Made A → List ℕ → List ℕ → A → ℕ → Type 0
ToldMade o = Reported number_of_answer made_slots o

-- the sizes of a factor file: place, n, lower and upper
unfoldable pub kept_slots : Kept → List ℕ
kept_slots a = place_of_answer a ∷ (sizes_of_kept a).n ∷ (sizes_of_kept a).lower ∷ (sizes_of_kept a).upper ∷ []

-- the place alone
abbrev pub checked_slots : Checked → List ℕ
checked_slots a = place_of_checked a ∷ []

-- residual and width, as far as the slots go; a refusal leaves them as they were
abbrev pub pair_after : Checked → List Float → List Float
pair_after (Pair r w) p = sets p 0 (r ∷ w ∷ [])
pair_after (Refused q k) p = p

-- the residual and the width of own row k, and both statements on them
pub record ToldRow (i : Input) (x : List Float) (k : OwnNumber) (pair₀ pair : List Float) (report₀ report : List ℕ) (number : ℕ) : Type 0 where
  pub told : Reported number_of_checked checked_slots (left (checked i x k) (pair_after (checked i x k) pair₀)) report₀ report pair number
  pub kept : KeptBy i x k (checked i x k)

-- the shape of a file
abbrev pub number_of_shape : Shaped → ℕ
number_of_shape (Ok m) = 0
number_of_shape (Err q) = number_of q

abbrev pub shape_slots : Shaped → List ℕ
shape_slots (Ok m) = 0 ∷ m.rows ∷ m.entries ∷ []
shape_slots (Err q) = place_of q ∷ 0 ∷ 0 ∷ []

-- a list: its offset in the store and its length
unfoldable pub span_slots : Span → List ℕ
span_slots s = s.from ∷ (s.to - s.from) ∷ []

-- 0 is the lower side, every other number the upper one
abbrev pub side_numbered : ℕ → Side
side_numbered c = cond (eqb c 0) Lower Upper

-- a place of a call, in 32 bits: none from the greatest n on is below n
abbrev pub place_in : ℕ → Place
place_in k = spot (cond (ltb k max_rows) k max_rows)

-- the list of a side at a place, both by their numbers
abbrev pub list_slots : Form → ℕ → ℕ → ℕ → SideLists → SideLists → List ℕ
list_slots f side place n l u = span_slots (span_in f (side_numbered side) (place_in place) n l u)
