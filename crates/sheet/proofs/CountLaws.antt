-- Counting along lists: a list, then the lists of all columns.
use Prim.Native.Nat.{ℕ, suc, ◌+◌, ◌<◌, ◌≤◌}
use mathlib.Core.Path.{◌≡◌, refl, sym, ap, ◌∙◌}
use mathlib.Core.Bool.{true, false}
use mathlib.Core.List.{List, [], ◌∷◌}
use native.Mathlib.Numerals.{add-one}
use native.Mathlib.Omega.{arith}
use lib.ListN.{length, get_or, set, drop, length-set, length-drop, drop_of_length-le}
use lib.Dec.{eqb}
use lib.Seq.{get_or-drop, get_or-set_same, get_or-set_other}
use borrow.Author.Tests.{eqb-true, eqb-false, eq-eqb, ne_eqb}
use Rattle.base.specs.Lists.{bit, count, has, list_at}
use Rattle.base.specs.Tests.{by-test}
use Rattle.base.specs.AscLaws.{has-drop, bit_le, count-suc, count-zero, count-le}
use Rattle.sheet.specs.Printing.{Printable}
use Rattle.sheet.specs.Lent.{SheetLent}
use Rattle.sheet.specs.Counting.{Counting, Counted, Countable, RowsCounted}

has-apart : (l : List ℕ) (j : ℕ) → ((q : ℕ) → q < length l → get_or l q 0 ≡ j → ⊥) → has l j ≡ false
unfolding has
has-apart [] j f = refl
has-apart (x ∷ l) j f = rw (ne_eqb x j (λ e. f 0 (omega arith) e), has-apart l j (λ q h e. f (suc q) (omega arith) e))

-- ---- one list

module _ (list counts₀ : List ℕ) where
  -- from index p on the list is still to be counted
  pub record Tally (p : ℕ) (counts : List ℕ) : Type 0 where
    pub size : length counts ≡ length counts₀
    pub left : (i : ℕ) → i < length counts₀ → get_or counts i 0 + bit (has (drop p list) i) ≡ get_or counts₀ i 0 + bit (has list i)

  pub tally-start : Tally 0 counts₀
  tally-start = record { size = refl; left = λ i h. refl }

  module _ (C : Counting list counts₀) (p : ℕ) (h : p < length list) where
    -- a number of the list does not come again
    comes-once : has (drop (p + 1) list) (get_or list p 0) ≡ false
    comes-once =
        has-apart (drop (p + 1) list) (get_or list p 0)
        (λ q l e. C.distinct.apart p (p + 1 + q) (omega arith) (omega (arith, l, length-drop (p + 1) list)) (sym (sym (get_or-drop (p + 1) list q 0) ∙ e)))

    comes-now : has (drop p list) (get_or list p 0) ≡ true
    comes-now = has-drop list (get_or list p 0) p h ∙ rw (eq-eqb (get_or list p 0) (get_or list p 0) refl)

    module _ (counts : List ℕ) (T : Tally p counts) where
      now : get_or counts (get_or list p 0) 0 + 1 ≡ get_or counts₀ (get_or list p 0) 0 + bit (has list (get_or list p 0))
      now = rw comes-now at (T.left (get_or list p 0) (C.below p h))

      tally-small : get_or counts (get_or list p 0) 0 < 4294967295
      tally-small = omega (arith, now, bit_le (has list (get_or list p 0)), C.few p h)

      tally-there : get_or list p 0 < length counts
      tally-there = omega (arith, C.below p h, T.size)

      -- the number itself, and every other
      turn-same : get_or (set counts (get_or list p 0) (get_or counts (get_or list p 0) 0 + 1)) (get_or list p 0) 0 + bit (has (drop (p + 1) list) (get_or list p 0)) ≡ get_or counts₀ (get_or list p 0) 0 + bit (has list (get_or list p 0))
      turn-same = rw (get_or-set_same counts (get_or list p 0) (get_or counts (get_or list p 0) 0 + 1) 0 tally-there, comes-once) (omega (arith, now))

      turn-other : (i : ℕ) → i < length counts₀ → eqb (get_or list p 0) i ≡ false
          → get_or (set counts (get_or list p 0) (get_or counts (get_or list p 0) 0 + 1)) i 0 + bit (has (drop (p + 1) list) i) ≡ get_or counts₀ i 0 + bit (has list i)
      turn-other i l t =
          let e : has (drop p list) i ≡ has (drop (p + 1) list) i = has-drop list i p h ∙ rw t in
          rw (get_or-set_other counts (get_or list p 0) i (get_or counts (get_or list p 0) 0 + 1) 0 (λ q. eqb-false (get_or list p 0) i t (sym q)), ← e) (T.left i l)

      tally-turn : Tally (p + 1) (set counts (get_or list p 0) (get_or counts (get_or list p 0) 0 + 1))
      tally-turn = record {
        size = length-set counts (get_or list p 0) (get_or counts (get_or list p 0) 0 + 1) ∙ T.size;
        left = λ i l. by-test (eqb (get_or list p 0) i) (λ t. rw (← eqb-true (get_or list p 0) i t) turn-same) (turn-other i l);
      }

      -- the number as the code reads it
      module _ (x : ℕ) (e : x ≡ get_or list p 0) where
        pub read-there : x < length counts
        read-there = rw e tally-there

        pub read_small : get_or counts x 0 < 4294967295
        read_small = rw e tally-small

        pub read-turn : Tally (p + 1) (set counts x (get_or counts x 0 + 1))
        read-turn = rw e tally-turn

  pub tally-end : (p : ℕ) (counts : List ℕ) → length list ≤ p → Tally p counts → Counted list counts₀ counts
  unfolding has
  tally-end p counts h T = record { size = T.size; more = λ i l. omega (arith, rw (drop_of_length-le list h) at (T.left i l)) }

-- ---- all columns

module _ (n : ℕ) (starts runs index counts₀ : List ℕ) where
  pub record Rows (j : ℕ) (counts : List ℕ) : Type 0 where
    pub size : length counts ≡ length counts₀
    pub rows : (i : ℕ) → i < n → get_or counts i 0 ≡ count (λ m. has (list_at starts runs index m) i) j

  module _ (C : Countable n starts runs index counts₀) where
    pub rows_start : Rows 0 counts₀
    rows_start = record { size = refl; rows = λ i h. C.zero i h ∙ sym (count-zero (λ m. has (list_at starts runs index m) i)) }

    module _ (j : ℕ) (h : j < n) (counts : List ℕ) (R : Rows j counts) where
      pub column-counting : (list : List ℕ) → list ≡ list_at starts runs index j → Counting list counts
      column-counting list e = rw e (record {
        below = λ p l. omega (arith, C.below j h p l, C.room, R.size);
        distinct = C.distinct j h;
        few = λ p l. omega (arith, R.rows (get_or (list_at starts runs index j) p 0) (C.below j h p l), count-le (λ m. has (list_at starts runs index m) (get_or (list_at starts runs index j) p 0)) j, C.few);
      })

      pub rows-turn : (list counts' : List ℕ) → list ≡ list_at starts runs index j → Counted list counts counts' → Rows (j + 1) counts'
      rows-turn list counts' e D = record {
        size = D.size ∙ R.size;
        rows = λ i l.
            D.more i (omega (arith, C.room, R.size)) ∙ ap (λ (m : ℕ). m + bit (has list i)) (R.rows i l)
            ∙ rw (e, add-one j) (sym (count-suc (λ m. has (list_at starts runs index m) i) j));
      }

    pub rows_end : (j : ℕ) (counts : List ℕ) → j ≡ n → Rows j counts → RowsCounted n starts runs index counts₀ counts
    rows_end j counts e R = record { size = R.size; rows = λ i l. R.rows i l ∙ ap (count (λ m. has (list_at starts runs index m) i)) e }

-- what is counted can be printed with the other numbers
pub rows-printable : (n : ℕ) (r ls lr li us ur counts lower : List ℕ) → SheetLent n r ls lr li us ur counts → RowsCounted n ls lr li counts lower → Printable n r lower us ur
rows-printable n r ls lr li us ur counts lower L C = record {
  places = L.places;
  rows = omega (arith, C.size, L.countable.room);
  rows-below = λ k h. rw (C.rows k h) (count-le (λ j. has (list_at ls lr li j) k) n);
}
