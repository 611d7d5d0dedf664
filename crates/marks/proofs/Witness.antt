-- Place 1 of the full pattern of two places: a value that meets what the functions require.
use mathlib.Core.Path.{◌≡◌, refl}
use mathlib.Core.List.{List, [], ◌∷◌}
use mathlib.Core.Bool.{true}
use Prim.Native.Nat.{ℕ, zero, suc}
use native.Mathlib.Omega.{arith}
use lib.ListN.{get_or}
use Rattle.base.specs.Lists.{list_at, asc}
use Rattle.fill.specs.Fill.{Pattern, reach, filled, upper, upper_row, lower_row}
use Rattle.lent.specs.Reading.{ListIn}
use Rattle.marks.specs.Marks.{Room, Base, Fresh, chosen, members, Parts, Walk}
use Rattle.marks.specs.Rows.{CutAt, uncut, PlaceReady, Countable}
use Rattle.marks.specs.FillLaws.{held-parts}
use Rattle.marks.specs.ListLaws.{held-countable}

abbrev full : Pattern
full i j = true

-- marks, inverse order, block stamps, cuts of both sides, list, nodes
abbrev scratch : List ℕ
scratch = 0 ∷ 0 ∷ 0 ∷ 1 ∷ 0 ∷ 0 ∷ 1 ∷ 0 ∷ 0 ∷ 0 ∷ 0 ∷ 0 ∷ 0 ∷ 0 ∷ 0 ∷ 0 ∷ []

abbrev index : List ℕ
index = 1 ∷ []

abbrev runs : List ℕ
runs = 0 ∷ 1 ∷ []

abbrev starts : List ℕ
starts = 0 ∷ 1 ∷ 1 ∷ []

room : Room 2 scratch
room = record { small = omega arith; long = omega arith }

base : Base 2 6
base = record { low = omega arith; high = omega arith }

fresh : Fresh 2 3 scratch
fresh zero l = omega arith
fresh (suc zero) l = omega arith
fresh (suc (suc j)) l = absurd (omega arith)

first-list : list_at starts runs index 0 ≡ upper_row full 2 0
unfolding list_at upper_row asc upper filled reach
first-list = refl

first_read : ListIn starts runs 1 0
first_read = record { has-run = omega arith; has-start = omega arith; rise = omega arith; inside = omega arith }

first-cut : CutAt full 2 1 0 (get_or scratch 6 0)
unfolding upper_row asc upper filled reach
first-cut = uncut refl

held : PlaceReady full 2 1 3 6 scratch starts runs index
held = record {
  fresh = fresh;
  store = record {
    list = λ i l. let e : i ≡ 0 = omega arith in rw e first-list;
    read = λ i l. let e : i ≡ 0 = omega arith in rw e first_read;
  };
  cut = λ i l. let e : i ≡ 0 = omega arith in rw e first-cut;
}

parts : Parts 2 1 scratch 6 runs index
parts = held-parts full 2 1 starts runs index held.store 6 scratch held.cut (omega arith)

countable : Countable (lower_row full 1) starts
countable = held-countable full 2 1 starts runs index held.store (omega arith) (lower_row full 1) refl

-- the same place with member 0 marked and written to the list region: what renewing the cuts walks along
abbrev listed : List ℕ
listed = 3 ∷ 0 ∷ 0 ∷ 1 ∷ 3 ∷ 0 ∷ 1 ∷ 0 ∷ 0 ∷ 0 ∷ 0 ∷ 0 ∷ 0 ∷ 0 ∷ 0 ∷ 0 ∷ []

walked : Walk 2 1 1 listed
unfolding members chosen asc
walked = record { stamp = 3; list = refl }
