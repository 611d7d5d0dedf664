-- "No slot that a run reads is ever overwritten": from before place k to before any later place, in each form and on each side that it keeps.
use mathlib.Core.Path.{◌≡◌, sym, ◌∙◌}
use mathlib.Core.Bool.{Bool, true, false, false≢true}
use mathlib.Core.List.{List, ◌++◌}
use Prim.Native.Nat.{ℕ, ◌+◌, ◌-◌, ◌<◌, ◌≤◌}
use native.Mathlib.Omega.{arith}
use lib.ListN.{length, get_or, length-take, get_or-append}
use Rattle.base.specs.Lists.{list_at}
use Rattle.base.specs.declared.Form.{Form}
use Rattle.base.specs.declared.Form.TheVariants.{Plain, Shared, ByRow}
use Rattle.base.specs.declared.Side.{Side}
use Rattle.base.specs.declared.Side.TheVariants.{Lower, Upper}
use Rattle.fill.specs.Fill.{Pattern, flip}
use Rattle.matrix.specs.Input.{Input, stored}
use Rattle.outcome.specs.Forms.{lists_of, rows_of}
use Rattle.placement.specs.Placing.{placed}
use Rattle.placement.specs.PlacingLaws.{placed-grows, used_grows}
use Rattle.storing.specs.Ways.{way_of, Suited}
use Rattle.storing.specs.FillNested.{fill-nested, run-stays}
use Rattle.storing.specs.Held.{Holding}
use Rattle.storing.specs.HeldLaws.{run-same, start-same, list-readable, list_held}
use Rattle.storing.specs.declared.Way.{Way}
use Rattle.storing.specs.declared.Extent.{Extent}
use Rattle.symbolic.specs.Pass.{placing_of, At, TurnEnds}
use Rattle.symbolic.specs.declared.Progress.{Progress}
use Rattle.std.specs.Prelude.{Ok}

-- a side's list starts, run starts and index store
pub record Stood : Type 0 where
  pub starts : List ℕ
  pub runs : List ℕ
  pub index : List ℕ

-- the lists of places 0 to k - 1 stand in `used` slots before, and as they stood after
pub record Unwritten (k used : ℕ) (before after : Stood) : Type 0 where
  -- every used slot holds what it held
  pub slots : (q : ℕ) → q < used → get_or after.index q 0 ≡ get_or before.index q 0
  -- so does every slot that a run reads: from its start on, as many as its list has entries
  pub read : (j : ℕ) → j < k → (q : ℕ) → get_or before.runs j 0 ≤ q → q < get_or before.runs j 0 + (get_or before.starts (j + 1) 0 - get_or before.starts j 0)
      → get_or after.index q 0 ≡ get_or before.index q 0
  -- and the run starts and the list starts are as they were
  pub runs : (j : ℕ) → j < k → get_or after.runs j 0 ≡ get_or before.runs j 0
  pub starts : (j : ℕ) → j ≤ k → get_or after.starts j 0 ≡ get_or before.starts j 0
  -- so every list reads as it did
  pub lists : (j : ℕ) → j < k → list_at after.starts after.runs after.index j ≡ list_at before.starts before.runs before.index j

-- ---- one side, for any lists that suit the way

part_stays : (index index' slots slots' more rest rest' : List ℕ) (q : ℕ) → index ≡ slots ++ rest → index' ≡ slots' ++ rest' → slots' ≡ slots ++ more → q < length slots → length slots ≤ length slots'
    → get_or index' q 0 ≡ get_or index q 0
part_stays index index' slots slots' more rest rest' q a b c l h =
    rw (a, b, get_or-append slots rest 0 q l, get_or-append slots' rest' 0 q (omega arith), c, get_or-append slots more 0 q l)

module _ (way : Way) (T R : ℕ → List ℕ) (n values k m : ℕ) (suited : Suited way T R n) (up : k ≤ m) (most : m ≤ n)
    (index₀ starts runs index starts' runs' index' : List ℕ) (e e' : Extent)
    (h : Holding way T R values k index₀ starts runs index e) (h' : Holding way T R values m index₀ starts' runs' index' e') where
  slot-stays : (q : ℕ) → q < e.used → get_or index' q 0 ≡ get_or index q 0
  slot-stays q l =
      let grown = placed-grows (way_of way) T R k (m - k) in
      let d : k + (m - k) ≡ m = omega arith in
      part_stays index index' (placed (way_of way) T R k).slots (placed (way_of way) T R m).slots grown.0 _ _ q h.slots-are h'.slots-are (rw d at grown.1) (omega (arith, h.used-is))
      (used_grows (way_of way) T R k m up)

  side-unwritten : Unwritten k e.used (record { starts = starts; runs = runs; index = index }) (record { starts = starts'; runs = runs'; index = index' })
  side-unwritten =
      record {
        slots = slot-stays;
        read = λ j l q a b. slot-stays q (omega (arith, (list-readable h n suited (omega arith) j l).inside, length-take e.used index));
        runs = λ j l. run-same h' j (omega arith) ∙ run-stays way T R n suited j m (omega arith) most ∙ sym (run-stays way T R n suited j k l (omega arith)) ∙ sym (run-same h j l);
        starts = λ j l. start-same h' j (omega arith) ∙ sym (start-same h j l);
        lists = λ j l. list_held h' n suited most j (omega arith) ∙ sym (list_held h n suited (omega arith) j l);
      }

-- ---- the pass

-- the sides that a form keeps
abbrev pub keeps : Form → Side → Bool
keeps f Upper = true
keeps Plain Lower = true
keeps Shared Lower = true
keeps ByRow Lower = false

-- their stores; in the plain form the list starts are the run starts, as its calls pass them
abbrev pub side_of : Form → Side → (ls lr li us ur ui : List ℕ) → Stood
side_of f Upper ls lr li us ur ui = record { starts = us; runs = ur; index = ui }
side_of Plain Lower ls lr li us ur ui = record { starts = ls; runs = ls; index = li }
side_of Shared Lower ls lr li us ur ui = record { starts = ls; runs = lr; index = li }
side_of ByRow Lower ls lr li us ur ui = record { starts = ls; runs = lr; index = li }

-- of what stands below and above, a side's
abbrev pub of_side : {A : Type 0} → Side → A → A → A
of_side Lower l u = l
of_side Upper l u = u

-- what a side's lists and way ask of each other
suited : (f : Form) (side : Side) → keeps f side ≡ true → (P : Pattern) (n : ℕ) → Suited (placing_of f) (lists_of f side P n) (rows_of side P) n
suited Plain side v P n = tt
suited Shared Upper v P n = fill-nested P n
suited Shared Lower v P n = fill-nested (flip P) n
suited ByRow Upper v P n = fill-nested P n
suited ByRow Lower v P n = absurd (false≢true v)

-- before place k the stores of a side hold its lists
held : (f : Form) (side : Side) → keeps f side ≡ true → (i : Input) (low : List ℕ) (lv : ℕ) (up : List ℕ) (uv k : ℕ) (ls lr li us ur ui s : List ℕ) (g : Progress)
    → At f i low lv up uv k ls lr li us ur ui s g
    → Holding (placing_of f) (lists_of f side (stored i) i.n) (rows_of side (stored i)) (of_side side lv uv) k (of_side side low up)
    (side_of f side ls lr li us ur ui).starts (side_of f side ls lr li us ur ui).runs (side_of f side ls lr li us ur ui).index (of_side side g.lower g.upper)
held f Upper v i low lv up uv k ls lr li us ur ui s g h = h.upper.held
held Plain Lower v i low lv up uv k ls lr li us ur ui s g h = h.lower.0
held Shared Lower v i low lv up uv k ls lr li us ur ui s g h = h.lower.0.held
held ByRow Lower v i low lv up uv k ls lr li us ur ui s g h = absurd (false≢true v)

module _ (f : Form) (side : Side) (v : keeps f side ≡ true) (i : Input) (low : List ℕ) (lv : ℕ) (up : List ℕ) (uv k : ℕ) (ls lr li us ur ui s : List ℕ) (g : Progress)
    (h : At f i low lv up uv k ls lr li us ur ui s g) (ls' lr' li' us' ur' ui' s' : List ℕ) (g' : Progress) where
  -- what stands before place k stands so before any later place
  pub unwritten : (m : ℕ) → k ≤ m → At f i low lv up uv m ls' lr' li' us' ur' ui' s' g'
      → Unwritten k (of_side side g.lower g.upper).used (side_of f side ls lr li us ur ui) (side_of f side ls' lr' li' us' ur' ui')
  unwritten m l h' =
      side-unwritten (placing_of f) (lists_of f side (stored i) i.n) (rows_of side (stored i)) i.n (of_side side lv uv) k m (suited f side v (stored i) i.n) l h'.most
      (of_side side low up) _ _ _ _ _ _ _ _
      (held f side v i low lv up uv k ls lr li us ur ui s g h) (held f side v i low lv up uv m ls' lr' li' us' ur' ui' s' g' h')

  -- and place k leaves it so: `analyze_place_plain`, `analyze_place_by_row` and `analyze_place_shared` promise TurnEnds
  pub turn-unwritten : TurnEnds f i low lv up uv k ls' lr' li' us' ur' ui' s' (Ok g')
      → Unwritten k (of_side side g.lower g.upper).used (side_of f side ls lr li us ur ui) (side_of f side ls' lr' li' us' ur' ui')
  turn-unwritten h' = unwritten (k + 1) (omega arith) h'
