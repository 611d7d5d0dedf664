-- What the questions settle when they are passed, and M' by the inverse order.
use Rattle.std.specs.Prelude.{◌≡◌, false, ◌&&◌, ◌||◌, List, ℕ, zero, suc, ◌+◌, ◌-◌, ◌≤◌, ◌<◌, length, get_or, ltb, eqb, Float, None}
use Rattle.std.proofs.Common.{sym, ◌∙◌, arith, leb-false, ltb-false, eq-eqb, eqb-true}
use Rattle.std.proofs.Math.Bool.{not}
use Rattle.std.proofs.lemmas.List.{length-map}
use Rattle.std.specs.Float.{nan}
use Rattle.std.specs.Float.Ieee.Scale.{finite}
use Rattle.std.proofs.lemmas.Bool.{not-false}
use Rattle.base.specs.Tests.{or-false}
use Rattle.base.specs.TableLaws.{get_or-map-lt}
use Rattle.base.specs.First.{first}
use Rattle.base.specs.FirstLaws.{first-none, absent-pass, both-pass}
use Rattle.lent.specs.Reading.{ListIn, Below}
use Rattle.lent.specs.ReadingLaws.{list-below}
use Rattle.base.specs.Answers.{own, absent, and_then, Pass, Asked}
use Rattle.base.specs.declared.Refusal.TheVariants.{Starts, Column, Order, NotFinite, EmptyRow}
use Rattle.matrix.specs.Input.{Input, input_of, ic}
use Rattle.matrix.specs.Questions.{bad_start, bad_column, bad_index, not_finite, no_entry, empty_row, IsOrder, ask3, ask4, ask5, ask6, ask_floor, ask_numbers, ask7, ask_finite, ask_pattern, ask_structure, ask_solve, ask_right}
use Rattle.matrix.proofs.OrderLaws.{place-hits}
use Rattle.questions.specs.Settled.{Finite, columns_at, places_at, Readable, Structured, Settled}
use Rattle.questions.specs.Lent.{Lent, PlacesLent}

-- ---- 3

module _ (s : List ℕ) (n e : ℕ) (good : first (bad_start s n e) n ≡ None) where
  fine : (i : ℕ) → i < n → (ltb (get_or s (i + 1) 0) (get_or s i 0) ≡ false) × ((eqb (i + 1) n && not (eqb (get_or s (i + 1) 0) e)) ≡ false)
  unfolding bad_start
  fine i l =
      let a = or-false (ltb (get_or s (i + 1) 0) (get_or s i 0) || (eqb i 0 && not (eqb (get_or s i 0) 0))) _ (first-none (bad_start s n e) n good i l) in
      ((or-false (ltb (get_or s (i + 1) 0) (get_or s i 0)) _ a.0).0, a.1)

  up : (i : ℕ) → i < n → get_or s i 0 ≤ get_or s (i + 1) 0
  up i l = ltb-false (get_or s (i + 1) 0) (get_or s i 0) (fine i l).0

  last_end : (i : ℕ) → i < n → i + 1 ≡ n → get_or s (i + 1) 0 ≡ e
  last_end i l h = eqb-true _ _ (not-false (eqb (get_or s (i + 1) 0) e) (rw (eq-eqb (i + 1) n h) at (fine i l).1))

  end-from : (d i : ℕ) → i + 1 + d ≡ n → get_or s (i + 1) 0 ≤ e
  end-from zero i h = omega (arith, last_end i (omega arith) (omega arith))
  end-from (suc d) i h = omega (arith, end-from d (i + 1) (omega arith), up (i + 1) (omega arith))

  rows_in : length s ≡ n + 1 → (i : ℕ) → i < n → ListIn s s e i
  rows_in h i l = record { has-run = omega arith; has-start = omega arith; rise = up i l; inside = omega (arith, up i l, end-from (n - (i + 1)) i (omega arith)) }

-- ---- what each question settles

pub settled3 : (n e : ℕ) (s : List ℕ) → ask3 n e s ≡ Pass → length s ≡ n + 1 → (i : ℕ) → i < n → ListIn s s e i
unfolding ask3
settled3 n e s p = rows_in s n e (absent-pass (first (bad_start s n e) n) (λ k. Starts (own k)) p)

pub settled4 : (n : ℕ) (j : List ℕ) → ask4 n j ≡ Pass → Below n j
unfolding ask4 bad_column
settled4 n j h p l = leb-false n (get_or j p 0) (first-none (bad_column j n) (length j) (absent-pass (first (bad_column j n) (length j)) Column h) p l)

pub settled5 : (n : ℕ) (r c : List ℕ) → ask5 n r c ≡ Pass → (IsOrder r n) × (IsOrder c n)
unfolding ask5 IsOrder
settled5 n r c h =
    let a = both-pass (absent (first (bad_index r n) n) Order) (absent (first (bad_index c n) n) (λ k. Order (k + n))) h in
    (absent-pass (first (bad_index r n) n) Order a.0, absent-pass (first (bad_index c n) n) (λ k. Order (k + n)) a.1)

pub settled_finite : (v : List Float) (from : ℕ) → ask_finite v from ≡ Pass → Finite v
unfolding ask_finite not_finite Finite
settled_finite v from h p l = not-false (finite (get_or v p nan)) (first-none (not_finite v) (length v) (absent-pass (first (not_finite v) (length v)) (λ k. NotFinite (k + from)) h) p l)

settled7 : (n : ℕ) (s r : List ℕ) → ask7 n s r ≡ Pass → (k : ℕ) → k < n → get_or s (get_or r k 0) 0 < get_or s (get_or r k 0 + 1) 0
unfolding ask7 empty_row no_entry
settled7 n s r h k l = leb-false _ _ (first-none (empty_row s r) n (absent-pass (first (empty_row s r) n) (λ k. EmptyRow (own (get_or r k 0))) h) k l)

-- ---- what the questions of a call settle

pub readable : (i : Input) → ask_pattern i ≡ Pass → Readable i
unfolding ask_pattern
readable i h =
    let a = both-pass (ask3 i.n (length i.columns) i.starts) (and_then (ask4 i.n i.columns) (ask5 i.n i.r i.c)) h in
    let b = both-pass (ask4 i.n i.columns) (ask5 i.n i.r i.c) a.1 in
    let o = settled5 i.n i.r i.c b.1 in
    record { rows = settled3 i.n (length i.columns) i.starts a.0; columns = settled4 i.n i.columns b.0; row-order = o.0; column-order = o.1 }

structured-of : (i : Input) → ask_pattern i ≡ Pass → ask7 i.n i.starts i.r ≡ Pass → Structured i
structured-of i p h = record { readable = readable i p; entered = settled7 i.n i.starts i.r h }

pub structured : (i : Input) → ask_structure i ≡ Pass → Structured i
unfolding ask_structure
structured i h = let a = both-pass (ask_pattern i) (ask7 i.n i.starts i.r) h in structured-of i a.0 a.1

pub settled : (i : Input) → ask_solve i ≡ Pass → Settled i
unfolding ask_solve ask_numbers ask6
settled i h =
    let a = both-pass (ask_pattern i) (and_then (ask_numbers i.values i.b i.floor) (ask7 i.n i.starts i.r)) h in
    let b = both-pass (ask_numbers i.values i.b i.floor) (ask7 i.n i.starts i.r) a.1 in
    let m = both-pass (ask6 i.values i.b) (ask_floor i.floor) b.0 in
    let d = both-pass (ask_finite i.values 0) (ask_finite i.b (length i.values)) m.0 in
    record { structured = structured-of i a.0 b.1; values = settled_finite i.values 0 d.0; right = settled_finite i.b (length i.values) d.1 }

-- another right side
pub settled_right : (n : ℕ) (r c : List ℕ) (b : List Float) → ask_right n r c b ≡ Pass → (IsOrder r n) × (IsOrder c n) × Finite b
unfolding ask_right
settled_right n r c b h =
    let a = both-pass (ask5 n r c) (ask_finite b 0) h in
    let o = settled5 n r c a.0 in
    (o.0, o.1, settled_finite b 0 a.1)

-- ---- rows of M'

module _ (i : Input) (g : Readable i) where
  -- a row's columns are below n
  pub columns-under : (k : ℕ) → Below i.n (columns_at i k)
  columns-under k = list-below i.n i.starts i.starts i.columns (get_or i.r k 0) g.columns

  place_at : (k t : ℕ) → t < length (columns_at i k) → get_or (places_at i k) t 0 ≡ ic i.c i.n (get_or (columns_at i k) t 0)
  place_at k t b = sym (get_or-map-lt (ic i.c i.n) (columns_at i k) t 0 0 b)

  -- and their places
  pub places-under : (k : ℕ) → Below i.n (places_at i k)
  places-under k t b =
      let d : t < length (columns_at i k) = rw length-map at b in
      rw (place_at k t d) (place-hits i.c i.n g.column-order (get_or (columns_at i k) t 0) (columns-under k t d)).0

-- ---- from the questions to the code that reads rows

-- 3, 4 and 5 are passed: o is what they answered
pub places-lent : (n : ℕ) (s j r c : List ℕ) (v b : List Float) (room : ℕ) (o : Asked) → Lent n s j r c room
    → o ≡ ask_pattern (input_of n s j v r c b) → o ≡ Pass → PlacesLent n s r
places-lent n s j r c v b room o h e p =
    record { few = h.orders.few; starts = h.starts; size = h.orders.row-order; order = (readable (input_of n s j v r c b) (sym e ∙ p)).row-order }
