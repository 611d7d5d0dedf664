-- What refactor and another right side owe the solve, over what earlier calls left. Definitions only.
use Rattle.std.specs.Prelude.{◌≡◌, List, [], ℕ, ◌≤◌, ◌<◌, length, get_or, Float, true, ◌≢◌, Ok, Err}
use Rattle.std.specs.Float.{nan}
use Rattle.std.specs.Float.Ieee.Scale.{finite}
use Rattle.base.specs.Answers.{number_of_answer, Pass, Asked, Answer}
use Rattle.base.specs.declared.Form.{Form}
use Rattle.base.specs.declared.Form.TheVariants.{ByRow}
use Rattle.base.specs.declared.Counts.{Counts}
use Rattle.matrix.specs.Input.{Input, input_of, with_floor}
use Rattle.outcome.specs.Buffers.{SideBuffers, Buffers, scratch_cleared, Outcome, ended}
use Rattle.outcome.specs.Structure.{structure}
use Rattle.outcome.specs.Solve.{solve}
use Rattle.outcome.specs.Refactor.{emptied, refactor}
use Rattle.outcome.specs.Resolve.{with_solution, resolve}
use Rattle.agreement.specs.Demand.{Stated}

-- ---- words

-- refactor and another right side have the plain and the shared form: the row form keeps no lists
abbrev pub Keeps : Form → Type 0
Keeps f = f ≢ ByRow

-- an answer without its counts
abbrev pub end_of : Answer → Asked
end_of (Ok c) = Pass
end_of (Err q) = Err q

-- the same matrix and orders, other values, another right side, another floor
abbrev pub with_numbers : Input → List Float → List Float → Float → Input
with_numbers i v b floor = with_floor floor (input_of i.n i.starts i.columns v i.r i.c b)

-- the same values and floor too
abbrev pub with_right : Input → List Float → Input
with_right i b = with_numbers i i.values b i.floor

-- what another right side is lent of it: the orders and b, no matrix
abbrev pub right_of : Input → List Float → Input
right_of i b = input_of i.n [] [] [] i.r i.c b

-- ---- refactor over lists found before

-- a structure call or a solve of the input was done, and left u
pub data ListsLeft (f : Form) (i : Input) (u : Buffers) : Type 0 where
  after-structure : (s : Buffers) (c : Counts) → structure f i s ≡ ended (Ok c) u → ListsLeft f i u
  after-solve : (s : Buffers) (c : Counts) → solve f i s ≡ ended (Ok c) u → ListsLeft f i u

-- a side with the lists of another and a value store no shorter, whatever it holds
pub record SameLists (u t : SideBuffers) : Type 0 where
  pub starts : t.starts ≡ u.starts
  pub runs : t.runs ≡ u.runs
  pub index : t.index ≡ u.index
  pub values : length u.values ≤ length t.values

-- t has the lists that a call left; its value stores, d, x and scratch are free
pub record Presented (f : Form) (i : Input) (t : Buffers) : Type 0 where
  pub u : Buffers
  pub left : ListsLeft f i u
  pub lower : SameLists u.lower t.lower
  pub upper : SameLists u.upper t.upper

-- a refactor over t, as a solve over t ends
pub record RefactorsAs (t : Buffers) (o : Outcome Asked) (p : Outcome Answer) : Type 0 where
  -- done where the solve is, or its refusal
  pub answer : o.answer ≡ end_of p.answer
  -- done, or refused before 9: what the solve leaves, factors and x among it
  pub buffers : number_of_answer o.answer ≤ 8 → o.buffers ≡ p.buffers
  -- 19: what the solve leaves
  pub floored : number_of_answer o.answer ≡ 19 → o.buffers ≡ p.buffers
  -- 12 or 13: the lists stay, x is untouched, all else is zero
  pub empties : 9 ≤ number_of_answer o.answer → (number_of_answer o.answer ≡ 19 → ⊥) → o.buffers ≡ emptied t

-- "refactor: new values over a structure found before"
abbrev pub Refactoring : Type 0
Refactoring =
    (f : Form) → Keeps f → (i : Input) (v b : List Float) (floor : Float) (t : Buffers) → Presented f i t → RefactorsAs t (refactor f (with_numbers i v b floor) t) (solve f (with_numbers i v b floor) t)

-- and again: refactor leaves the lists as they were presented, however it ends
abbrev pub RefactoringOn : Type 0
RefactoringOn = (f : Form) (i : Input) (v b : List Float) (floor : Float) (t : Buffers) → Presented f i t → Presented f i (refactor f (with_numbers i v b floor) t).buffers

-- ---- another right side over factors found before

-- a solve or a refactor of the input over s was done, and left t
pub data Factored (f : Form) (i : Input) (s t : Buffers) : Type 0 where
  by-solve : (c : Counts) → solve f i s ≡ ended (Ok c) t → Factored f i s t
  by-refactor : refactor f i s ≡ ended Pass t → Factored f i s t

-- a right side that passes the questions: n finite numbers
pub record FiniteRight (n : ℕ) (b : List Float) : Type 0 where
  pub long : length b ≡ n
  pub all : (k : ℕ) → k < n → finite (get_or b k nan) ≡ true

-- another right side over t, as a solve ends
pub record ResolvesAs (t : Buffers) (o : Outcome Asked) (p : Outcome Answer) : Type 0 where
  -- done where the solve is, or its refusal at the same place
  pub answer : o.answer ≡ end_of p.answer
  -- the solve's x; scratch is zero, and all else stays
  pub buffers : number_of_answer o.answer ≡ 0 → o.buffers ≡ with_solution t p.buffers.x
  -- no refusal but 13; then x stays too
  pub over : 1 ≤ number_of_answer o.answer → (number_of_answer o.answer ≡ 13) × (o.buffers ≡ scratch_cleared t)

-- "another right side: factors found before, a new b"
abbrev pub Resolving : Type 0
Resolving =
    (f : Form) → Keeps f → (i : Input) (s t : Buffers) → Factored f i s t → (b : List Float) → FiniteRight i.n b
    → ResolvesAs t (resolve f (with_right i b) t) (solve f (with_right i b) s)

-- and again: what it leaves are the factors of the new right side, or, refused, the old ones as they were
pub record ResolvesOn (f : Form) (j : Input) (s t : Buffers) (o : Outcome Asked) : Type 0 where
  pub done : number_of_answer o.answer ≡ 0 → Factored f j s o.buffers
  pub refused : 1 ≤ number_of_answer o.answer → o.buffers ≡ t

abbrev pub ResolvingOn : Type 0
ResolvingOn =
    (f : Form) → Keeps f → (i : Input) (s t : Buffers) → Factored f i s t → (b : List Float) → FiniteRight i.n b
    → ResolvesOn f (with_right i b) s t (resolve f (with_right i b) t)

-- with the same b all buffers, x among them, are as they were
abbrev pub ResolvingSame : Type 0
ResolvingSame = (f : Form) → Keeps f → (i : Input) (s t : Buffers) → Factored f i s t → resolve f i t ≡ ended Pass t

-- ---- the two forms

pub record Alike (o p : Outcome Asked) : Type 0 where
  pub answer : o.answer ≡ p.answer
  pub x : number_of_answer o.answer ≡ 0 → o.buffers.x ≡ p.buffers.x

-- over lists that calls of either form left for the same input, stores of any lengths that took them
abbrev pub RefactoringAlike : Type 0
RefactoringAlike =
    (f g : Form) → Keeps f → Keeps g → (i : Input) (v b : List Float) (floor : Float) (s t : Buffers) → Presented f i s → Presented g i t → Stated f i s → Stated g i t
    → Alike (refactor f (with_numbers i v b floor) s) (refactor g (with_numbers i v b floor) t)

-- over factors of either form, p and q, for the same input, and any right side
abbrev pub ResolvingAlike : Type 0
ResolvingAlike =
    (f g : Form) → Keeps f → Keeps g → (i : Input) (s p t q : Buffers) → Factored f i s p → Factored g i t q → (b : List Float)
    → Alike (resolve f (with_right i b) p) (resolve g (with_right i b) q)
