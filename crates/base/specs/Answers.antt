-- The paper's number, place, counts and entries of how a call ends; questions one after another; what a call leaves. Definitions only.
use Rattle.std.specs.Prelude.{ℕ, Bool, true, false, Some, None, Ok, Err}
use Rattle.std.specs.declared.option.Option.{Option}
use Rattle.std.specs.declared.result.Result.{Result}
use Rattle.base.specs.declared.OwnNumber.{OwnNumber}
use Rattle.base.specs.declared.Place.{Place}
use Rattle.base.specs.declared.Counts.{Counts}
use Rattle.base.specs.declared.FactorSizes.{FactorSizes}
use Rattle.base.specs.declared.Refusal.{Refusal}
use Rattle.base.specs.declared.Refusal.TheVariants.{Rows, Lengths, Starts, Column, Order, NotFinite, EmptyRow, NullPivot, LowerSlots, UpperSlots, ZeroPivot, Overflow, OtherStructure, BadFactors, FileLength, Block, FileShape, Floor, FactorShape, Products}

-- the first index at which a test holds, or none
abbrev pub Found : Type 0
Found = Option ℕ

-- what a question, or a run of questions, answers, and how a call without counts ends
abbrev pub Asked : Type 0
Asked = Result (Unit {0}) Refusal

-- how a structure call or a solve ends
abbrev pub Answer : Type 0
Answer = Result Counts Refusal

-- how a call that makes a matrix ends: with so many entries, or not
abbrev pub Made : Type 0
Made = Result ℕ Refusal

-- what a factor file is found to hold: factors of these sizes, or none
abbrev pub Kept : Type 0
Kept = Result FactorSizes Refusal

-- "Questions, in order": the number of each
abbrev pub number_of : Refusal → ℕ
number_of Rows = 1
number_of Lengths = 2
number_of (Starts i) = 3
number_of (Column p) = 4
number_of (Order p) = 5
number_of (NotFinite p) = 6
number_of (EmptyRow i) = 7
number_of (NullPivot k) = 9
number_of (LowerSlots k) = 10
number_of (UpperSlots k) = 11
number_of (ZeroPivot k) = 12
number_of (Overflow k) = 13
number_of (OtherStructure k) = 14
number_of (BadFactors k) = 15
number_of FileLength = 16
number_of (Block p) = 17
number_of FileShape = 18
number_of Floor = 19
number_of FactorShape = 20
number_of Products = 21

-- "and a place (0 where none is named)"
abbrev pub place_of : Refusal → ℕ
place_of Rows = 0
place_of Lengths = 0
place_of (Starts i) = i.0
place_of (Column p) = p
place_of (Order p) = p
place_of (NotFinite p) = p
place_of (EmptyRow i) = i.0
place_of (NullPivot k) = k.0
place_of (LowerSlots k) = k.0
place_of (UpperSlots k) = k.0
place_of (ZeroPivot k) = k.0
place_of (Overflow k) = k.0
place_of (OtherStructure k) = k.0
place_of (BadFactors k) = k.0
place_of FileLength = 0
place_of (Block p) = p
place_of FileShape = 0
place_of Floor = 0
place_of FactorShape = 0
place_of Products = 0

-- 0 for done
abbrev pub number_of_answer : {A : Type 0} → Result A Refusal → ℕ
number_of_answer (Ok a) = 0
number_of_answer (Err q) = number_of q

abbrev pub place_of_answer : {A : Type 0} → Result A Refusal → ℕ
place_of_answer (Ok a) = 0
place_of_answer (Err q) = place_of q

-- "its counts are then 0"
abbrev pub counts_of : Answer → Counts
counts_of (Ok c) = c
counts_of (Err q) = record { lower = 0; upper = 0; products = 0 }

-- "and the entry count is returned": 0 after a refusal
abbrev pub entries_of : Made → ℕ
entries_of (Ok e) = e
entries_of (Err q) = 0

-- n, lower and upper of factors: 0 after a refusal
abbrev pub sizes_of_kept : Kept → FactorSizes
sizes_of_kept (Ok s) = s
sizes_of_kept (Err q) = record { n = 0; lower = 0; upper = 0 }

-- an own number, and an elimination place
abbrev pub own : ℕ → OwnNumber
own i = record { 0 = i }

abbrev pub spot : ℕ → Place
spot k = record { 0 = k }

-- ---- questions one after another

-- a question that is passed
abbrev pub Pass : Asked
Pass = Ok tt

-- a test that must hold
abbrev pub holds : Bool → Refusal → Asked
holds true q = Pass
holds false q = Err q

-- a fault that must not be found, refused by where it is
abbrev pub absent : Found → (ℕ → Refusal) → Asked
absent (Some k) f = Err (f k)
absent None f = Pass

-- "A 'no' ends the call": the first question, and then the second
abbrev pub and_then : Asked → Asked → Asked
and_then (Err q) next = Err q
and_then (Ok u) next = next

-- ---- what a call leaves

-- how a call ends, and what its buffers hold then
pub record Left (R A : Type 0) : Type 0 where
  pub answer : R
  pub held : A

abbrev pub left : {R A : Type 0} → R → A → Left R A
left a h = record { answer = a; held = h }

-- "refusals write nothing": the new contents, or the old
abbrev pub or_untouched : {R A : Type 0} → (Refusal → R) → Asked → R → A → A → Left R A
or_untouched refused (Ok u) done new old = left done new
or_untouched refused (Err q) done new old = left (refused q) old
