-- The stores of a side while its lists are placed or compared, and what the calls for one list promise. Definitions only.
use Rattle.std.specs.Prelude.{ℕ, suc, ◌+◌, ◌≤◌, ◌<◌, ◌≡◌, Bool, true, false, ◌&&◌, cond, List, ◌++◌, length, take, drop, get_or, set, eqb, Option, Some, None}
use Rattle.base.specs.Lists.{list_at, table}
use Rattle.placement.specs.Placing.{same, placed, run_of, start_of}
use Rattle.placement.specs.PlacingLaws.{room}
use Rattle.storing.specs.Ways.{way_of, Suited}
use Rattle.storing.specs.Slices.{plan_of, fits_of, Writes, match_of}
use Rattle.storing.specs.declared.Way.{Way}
use Rattle.storing.specs.declared.Way.TheVariants.{OneAfterAnother, Sharing}
use Rattle.storing.specs.declared.Extent.{Extent}

-- The stores hold the lists of places 0 to k - 1 as they are placed. index₀ is the index store as it was: its slots after the used ones
-- are as there. In the plain form runs is starts.
pub record Holding (way : Way) (T R : ℕ → List ℕ) (values k : ℕ) (index₀ starts runs index : List ℕ) (s : Extent) : Type 0 where
  pub used-is : s.used ≡ length (placed (way_of way) T R k).slots
  pub last-is : s.last ≡ (placed (way_of way) T R k).last
  pub entries-are : s.entries ≡ start_of T k
  pub used-in : s.used ≤ length index₀
  pub entries-in : s.entries ≤ values
  pub slots-are : index ≡ (placed (way_of way) T R k).slots ++ drop s.used index₀
  pub runs-are : take k runs ≡ (placed (way_of way) T R k).runs
  pub starts-are : take (suc k) starts ≡ table (start_of T) (suc k)

-- the row that is lent is the place's; the plain way reads none
abbrev pub RowIs : Way → List ℕ → List ℕ → Type 0
RowIs OneAfterAnother own row = Unit {0}
RowIs Sharing own row = row ≡ own

-- the turn of place k of n: the lists suit the way, those before stand in the stores, and the row and the list that are lent are k's
pub record Turn (way : Way) (T R : ℕ → List ℕ) (n values k : ℕ) (index₀ starts runs index row list : List ℕ) (s : Extent) : Type 0 where
  pub suited : Suited way T R n
  pub below : k < n
  pub row_is : RowIs way (R k) row
  pub list-is : list ≡ T k
  pub held : Holding way T R values k index₀ starts runs index s

-- after the turn k's list stands in the stores too, or there is no room for it: questions 10 and 11
abbrev pub Stepped : Way → (T R : ℕ → List ℕ) → ℕ → ℕ → List ℕ → List ℕ → List ℕ → List ℕ → Option Extent → Type 0
Stepped way T R values k index₀ starts runs index (Some t) =
    (room (way_of way) T R (length index₀) values k ≡ true) × Holding way T R values (suc k) index₀ starts runs index t
Stepped way T R values k index₀ starts runs index None = room (way_of way) T R (length index₀) values k ≡ false

-- what `place_list` promises
pub record PlaceEnds (way : Way) (starts runs index : List ℕ) (values : ℕ) (row list : List ℕ) (k : ℕ) (s : Extent) (r : Option Extent) (starts' runs' index' : List ℕ) : Type 0 where
  pub writes : Writes way starts runs index values row list k s r starts' index'
  pub runs-are : runs' ≡ cond (fits_of way starts runs index values row list k s) (set runs k (plan_of way starts runs index values row list k s).start) runs
  pub steps : (T R : ℕ → List ℕ) (n : ℕ) (index₀ : List ℕ) → Turn way T R n values k index₀ starts runs index row list s
      → Stepped way T R values k index₀ starts' runs' index' r

-- what `append_list` promises
pub record PlainEnds (starts index : List ℕ) (values : ℕ) (list : List ℕ) (k : ℕ) (s : Extent) (r : Option Extent) (starts' index' : List ℕ) : Type 0 where
  pub writes : Writes OneAfterAnother starts starts index values list list k s r starts' index'
  pub steps : (T R : ℕ → List ℕ) (n : ℕ) (index₀ : List ℕ) → Turn OneAfterAnother T R n values k index₀ starts starts index list list s
      → Stepped OneAfterAnother T R values k index₀ starts' starts' index' r

-- question 14 at place k of a side: "do presented list starts, run starts and lists equal what the structure call, with stores of these
-- lengths, places?", where "List starts k and k + 1 both belong to place k"
unfoldable pub presented : Way → (T R : ℕ → List ℕ) → ℕ → ℕ → List ℕ → List ℕ → List ℕ → Bool
presented way T R values k starts runs index =
    room (way_of way) T R (length index) values k
    && (eqb (get_or starts k 0) (start_of T k) && eqb (get_or starts (k + 1) 0) (start_of T (suc k))
    && eqb (get_or runs k 0) (run_of (placed (way_of way) T R (suc k)) k) && same (list_at starts runs index k) (T k))

-- the stores present k's list as it is placed, or they do not
abbrev pub Checked : Way → (T R : ℕ → List ℕ) → ℕ → ℕ → List ℕ → List ℕ → List ℕ → Option Extent → Type 0
Checked way T R values k starts runs index (Some t) =
    (presented way T R values k starts runs index ≡ true) × Holding way T R values (suc k) index starts runs index t
Checked way T R values k starts runs index None = presented way T R values k starts runs index ≡ false

-- what `check_list` promises
pub record CheckEnds (way : Way) (starts runs index : List ℕ) (values : ℕ) (row list : List ℕ) (k : ℕ) (s : Extent) (r : Option Extent) : Type 0 where
  pub answer : r ≡ match_of way starts runs index values row list k s
  pub steps : (T R : ℕ → List ℕ) (n : ℕ) → Turn way T R n values k index starts runs index row list s
      → Checked way T R values k starts runs index r
