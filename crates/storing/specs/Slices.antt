-- What the contracts say: the definitions of the placing over what the lent slices hold. Definitions only.
use Rattle.std.specs.Prelude.{ℕ, ◌+◌, ◌-◌, ◌≤◌, ◌<◌, ◌≡◌, Bool, ◌&&◌, cond, length, take, drop, get_or, set, ltb, leb, eqb, Option, Some, None}
use mathlib.Core.List.{List, Memᴰ}
use Rattle.std.proofs.Math.Seq.{paste}
use Rattle.base.specs.Lists.{list_at}
use Rattle.lent.specs.Reading.{ListIn, Below}
use Rattle.placement.specs.Placing.{tails, agree, State}
use Rattle.placement.specs.Placing as placement
use Rattle.placement.specs.ListLaws.{Ascends}
use Rattle.storing.specs.Ways.{way_of}
use Rattle.storing.specs.declared.Way.{Way}
use Rattle.storing.specs.declared.Way.TheVariants.{OneAfterAnother, Sharing}
use Rattle.storing.specs.declared.Plan.{Plan}
use Rattle.storing.specs.declared.Extent.{Extent}
use Rattle.base.specs.Index.{index_bound}

-- place i's list ascends, and has at most count entries above k
pub record Tailed (starts runs slots : List ℕ) (k count i : ℕ) : Type 0 where
  pub readable : ListIn starts runs (length slots) i
  pub ascends : Ascends 0 (list_at starts runs slots i)
  pub most : tails (list_at starts runs slots) k i ≤ count

abbrev pub AllTailed : List ℕ → List ℕ → List ℕ → ℕ → ℕ → List ℕ → Type 0
AllTailed starts runs slots k count row = (i : ℕ) → Memᴰ i row → Tailed starts runs slots k count i

-- the list of the row's place j has count entries above k
unfoldable pub full_at : List ℕ → List ℕ → List ℕ → ℕ → ℕ → List ℕ → ℕ → Bool
full_at starts runs slots k count row j = eqb (tails (list_at starts runs slots) k (get_or row j 0)) count

-- a tail by its numbers
pub record IsTail (t : placement.Tail) (at most : ℕ) : Type 0 where
  pub at-is : at ≡ t.at
  pub most-is : most ≡ t.most

-- a plan as the code hands it on
abbrev pub as_plan : placement.Plan → Plan
as_plan p = record { start = p.start; have = p.have }

-- what the code asks of its row: nothing in the plain way, which reads no list
abbrev pub Reads : Way → List ℕ → List ℕ → List ℕ → ℕ → List ℕ → List ℕ → Type 0
Reads OneAfterAnother starts runs slots k row list = Unit {0}
Reads Sharing starts runs slots k row list = AllTailed starts runs slots k (length list) row

-- place i's list can be read, and has that many entries or more
pub record TailIn (starts runs slots : List ℕ) (i most : ℕ) : Type 0 where
  pub readable : ListIn starts runs (length slots) i
  pub fits : most ≤ length (list_at starts runs slots i)

-- what the code asks before it plans
pub record Planning (way : Way) (starts runs slots : List ℕ) (last k : ℕ) (row list : List ℕ) : Type 0 where
  pub readable : Reads way starts runs slots k row list
  pub last-in : last ≤ length slots

-- what the slices hold, as a state of the placing
abbrev pub held : List ℕ → List ℕ → ℕ → State
held slots runs last = record { slots = slots; runs = runs; last = last }

-- the plan for place k over what the slices hold
unfoldable pub plan_over : Way → List ℕ → List ℕ → List ℕ → ℕ → ℕ → List ℕ → List ℕ → placement.Plan
plan_over way starts runs slots last k row list = way_of way (list_at starts runs slots) (held slots runs last) k row list

-- a plan, with its start within the used slots and what stands already within the list
pub record Planned (slots list : List ℕ) (p : placement.Plan) (r : Plan) : Type 0 where
  pub is : r ≡ as_plan p
  pub start-in : r.start ≤ length slots
  pub have-in : r.have ≤ length list

-- what the code asks of the slices before it places or compares the list of place k
pub record Ready (way : Way) (starts runs index : List ℕ) (values : ℕ) (row list : List ℕ) (k : ℕ) (s : Extent) : Type 0 where
  pub readable : Reads way starts runs (take s.used index) k row list
  pub used-in : s.used ≤ length index
  pub last-in : s.last ≤ s.used
  pub entries-in : s.entries ≤ values
  pub run_room : k < length runs
  pub start-room : k + 1 < length starts
  pub index-limit : length index < 4294967296
  pub value-limit : values < 4294967296
  pub small : Below index_bound list

module _ (way : Way) (starts runs index : List ℕ) (values : ℕ) (row list : List ℕ) (k : ℕ) (s : Extent) where
  -- the plan over the used slots
  unfoldable pub plan_of : placement.Plan
  plan_of = plan_over way starts runs (take s.used index) s.last k row list

  -- questions 10 and 11: does the list fit the index and the value store?
  unfoldable pub fits_of : Bool
  fits_of = leb (s.used + (length list - plan_of.have)) (length index) && leb (s.entries + length list) values

  -- how much is placed once the list is
  unfoldable pub extent_of : Extent
  extent_of =
      record {
        used = s.used + (length list - plan_of.have);
        last = cond (ltb plan_of.have (length list)) plan_of.start s.last;
        entries = s.entries + length list;
      }

  -- where the list would go and how much is placed then, if it fits
  unfoldable pub look_of : Option (Plan × Extent)
  look_of = cond fits_of (Some (as_plan plan_of, extent_of)) None

-- ---- writing

-- what the code asks before it writes: the list has room, and its entries fit their slots
pub record Writable (starts index list : List ℕ) (k : ℕ) (s : Extent) (have : ℕ) : Type 0 where
  pub have-in : have ≤ length list
  pub index-room : s.used + (length list - have) ≤ length index
  pub start-room : k + 1 < length starts
  pub entries-limit : s.entries + length list < 4294967296
  pub small : Below index_bound list

-- the slots after the used ones hold what the list lacks, list start k + 1 the entries so far; all else is as it was
pub record WrittenBy (starts index list : List ℕ) (k : ℕ) (s : Extent) (have : ℕ) (starts' index' : List ℕ) : Type 0 where
  pub index_is : index' ≡ paste index s.used (drop have list) (length list - have)
  pub starts-are : starts' ≡ set starts (k + 1) (s.entries + length list)

-- the answer of placing place k's list, and the index store and the list starts at exit
pub record Writes (way : Way) (starts runs index : List ℕ) (values : ℕ) (row list : List ℕ) (k : ℕ) (s : Extent) (r : Option Extent) (starts' index' : List ℕ) : Type 0 where
  pub answer : r ≡ cond (fits_of way starts runs index values row list k s) (Some (extent_of way starts runs index values row list k s)) None
  pub index_is : index' ≡ cond (fits_of way starts runs index values row list k s)
      (paste index s.used (drop (plan_of way starts runs index values row list k s).have list) (length list - (plan_of way starts runs index values row list k s).have))
      index
  pub starts-are : starts' ≡ cond (fits_of way starts runs index values row list k s) (set starts (k + 1) (s.entries + length list)) starts

-- ---- comparing

-- what the code asks before it compares
pub record Standing (starts runs index list : List ℕ) (k : ℕ) (s : Extent) (p : Plan) : Type 0 where
  pub have-in : p.have ≤ length list
  pub index-room : s.used + (length list - p.have) ≤ length index
  pub run_room : k < length runs
  pub start-room : k + 1 < length starts
  pub entries-limit : s.entries + length list < 4294967296

-- run start k, list starts k and k + 1 and what would be appended stand in the stores already
unfoldable pub same_at : List ℕ → List ℕ → List ℕ → List ℕ → ℕ → Extent → Plan → Bool
same_at starts runs index list k s p =
    eqb (get_or runs k 0) p.start && eqb (get_or starts k 0) s.entries && eqb (get_or starts (k + 1) 0) (s.entries + length list)
    && agree (take (length list - p.have) (drop s.used index)) (drop p.have list)

-- the answer of comparing
unfoldable pub match_of : Way → List ℕ → List ℕ → List ℕ → ℕ → List ℕ → List ℕ → ℕ → Extent → Option Extent
match_of way starts runs index values row list k s =
    cond (fits_of way starts runs index values row list k s)
    (cond (same_at starts runs index list k s (as_plan (plan_of way starts runs index values row list k s))) (Some (extent_of way starts runs index values row list k s)) None)
    None
