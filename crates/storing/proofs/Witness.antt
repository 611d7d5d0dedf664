-- What the functions require does not contradict itself: stores that meet it, in both ways.
use Prim.Native.Nat.{ℕ}
use mathlib.Core.Path.{◌≡◌}
use mathlib.Core.List.Memᴰ
use mathlib.Core.List.{List, [], ◌∷◌}
use native.Mathlib.Omega.{arith}
use lib.ListN.{take}
use Rattle.base.specs.Lists.{list_at}
use Rattle.base.specs.Index.{index_bound}
use Rattle.lent.specs.Reading.{Below}
use Rattle.placement.specs.Placing.{count_above, tails}
use Rattle.storing.specs.Slices.{Tailed, Ready}
use Rattle.storing.specs.declared.Way.TheVariants.{OneAfterAnother, Sharing}
use Rattle.storing.specs.declared.Extent.{Extent}

-- T(0) = 1 2 is placed, T(1) = 2 is to be
index : List ℕ
index = 1 ∷ 2 ∷ 0 ∷ []

runs : List ℕ
runs = 0 ∷ 0 ∷ 0 ∷ []

starts : List ℕ
starts = 0 ∷ 2 ∷ 0 ∷ 0 ∷ []

extent : Extent
extent = record { used = 2; last = 0; entries = 2 }

tailed : Tailed starts runs (take 2 index) 1 1 0
unfolding list_at tails count_above starts runs index
tailed =
    record {
      readable = record { has-run = omega arith; has-start = omega arith; rise = omega arith; inside = omega arith };
      ascends = (omega arith, (omega arith, tt));
      most = omega arith;
    }

small : Below index_bound (2 ∷ [])
small j h = let e : j ≡ 0 = omega arith in rw e (omega arith)

ready-sharing : Ready Sharing starts runs index 4 (0 ∷ []) (2 ∷ []) 1 extent
unfolding starts runs index extent
ready-sharing =
    record {
      readable = λ i d. rw (Memᴰ.eq_of_singleton d) tailed;
      used-in = omega arith;
      last-in = omega arith;
      entries-in = omega arith;
      run_room = omega arith;
      start-room = omega arith;
      index-limit = omega arith;
      value-limit = omega arith;
      small = small;
    }

ready-plain : Ready OneAfterAnother starts starts index 4 (2 ∷ []) (2 ∷ []) 1 extent
unfolding index starts extent
ready-plain =
    record {
      readable = tt;
      used-in = omega arith;
      last-in = omega arith;
      entries-in = omega arith;
      run_room = omega arith;
      start-room = omega arith;
      index-limit = omega arith;
      value-limit = omega arith;
      small = small;
    }
