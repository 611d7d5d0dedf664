-- Questions 3 to 7 and 19, each by itself: a test of every index, of which `first` takes the first that holds; 19 is one test. Definitions only.
use Rattle.std.specs.Prelude.{◌≡◌, Bool, not, ◌&&◌, ◌||◌, List, ℕ, ◌+◌, length, get_or, leb, ltb, eqb, Float, None}
use Rattle.std.specs.Float.{nan}
use Rattle.std.specs.Float.Ieee.Scale.{finite}
use Rattle.base.specs.Magnitude.{is_floor}
use Rattle.base.specs.First.{first, is_at}
use Rattle.base.specs.Answers.{own, holds, absent, and_then, Asked}
use Rattle.base.specs.declared.Refusal.TheVariants.{Starts, Column, Order, NotFinite, EmptyRow, Floor}
use Rattle.matrix.specs.Input.{Input, is_of}

-- 3: the starts fall after row i, or it is row 0 and they do not begin at 0, or it is the last row and they do not end at e
unfoldable pub bad_start : List ℕ → ℕ → ℕ → ℕ → Bool
bad_start s n e i =
    ltb (get_or s (i + 1) 0) (get_or s i 0)
    || (eqb i 0 && not (eqb (get_or s i 0) 0))
    || (eqb (i + 1) n && not (eqb (get_or s (i + 1) 0) e))

-- 4: the column of entry p is out of range
unfoldable pub bad_column : List ℕ → ℕ → ℕ → Bool
bad_column c n p = leb n (get_or c p 0)

-- 5: the order's index k is out of range, or what it has there stands before it too
unfoldable pub bad_index : List ℕ → ℕ → ℕ → Bool
bad_index o n k = leb n (get_or o k 0) || is_at (first (is_of o (get_or o k 0)) k)

-- 6: number p is not finite
unfoldable pub not_finite : List Float → ℕ → Bool
not_finite v p = not (finite (get_or v p nan))

-- 7: the row at place k has no entry
unfoldable pub no_entry : List ℕ → ℕ → Bool
no_entry s i = leb (get_or s (i + 1) 0) (get_or s i 0)

unfoldable pub empty_row : List ℕ → List ℕ → ℕ → Bool
empty_row s r k = no_entry s (get_or r k 0)

-- o is an order of 0 to n - 1: no index of it is at fault
unfoldable pub IsOrder : List ℕ → ℕ → Type 0
IsOrder o n = first (bad_index o n) n ≡ None

-- ---- the questions

-- "first row at fault, own number"
unfoldable pub ask3 : ℕ → ℕ → List ℕ → Asked
ask3 n e s = absent (first (bad_start s n e) n) (λ k. Starts (own k))

-- "first such entry"
unfoldable pub ask4 : ℕ → List ℕ → Asked
ask4 n j = absent (first (bad_column j n) (length j)) Column

-- "Are r and then c orders of 0 to n − 1? .. in c, plus n"
unfoldable pub ask5 : ℕ → List ℕ → List ℕ → Asked
ask5 n r c = and_then (absent (first (bad_index r n) n) Order) (absent (first (bad_index c n) n) (λ k. Order (k + n)))

-- "Are values .. finite? 6, first index": the numbers of one slice, from an index on
unfoldable pub ask_finite : List Float → ℕ → Asked
ask_finite v from = absent (first (not_finite v) (length v)) (λ k. NotFinite (k + from))

-- "Are values, then b, finite? .. in b, plus e"
unfoldable pub ask6 : List Float → List Float → Asked
ask6 v b = and_then (ask_finite v 0) (ask_finite b (length v))

-- "By k, has each row an entry? 7, own row"
unfoldable pub ask7 : ℕ → List ℕ → List ℕ → Asked
ask7 n s r = absent (first (empty_row s r) n) (λ k. EmptyRow (own (get_or r k 0)))

-- 3, 4, 5
unfoldable pub ask_pattern : Input → Asked
ask_pattern i = and_then (ask3 i.n (length i.columns) i.starts) (and_then (ask4 i.n i.columns) (ask5 i.n i.r i.c))

-- structure: 3, 4, 5, 7
unfoldable pub ask_structure : Input → Asked
ask_structure i = and_then (ask_pattern i) (ask7 i.n i.starts i.r)

-- "19, the floor is negative, infinite or not a number; −0 counts as 0"
unfoldable pub ask_floor : Float → Asked
ask_floor f = holds (is_floor f) Floor

-- 6, and 19 "put right after question 6"
unfoldable pub ask_numbers : List Float → List Float → Float → Asked
ask_numbers v b floor = and_then (ask6 v b) (ask_floor floor)

-- solve and refactor: 3 to 6, 19, 7
unfoldable pub ask_solve : Input → Asked
ask_solve i = and_then (ask_pattern i) (and_then (ask_numbers i.values i.b i.floor) (ask7 i.n i.starts i.r))

-- another right side: 5, and 6 of b only
unfoldable pub ask_right : ℕ → List ℕ → List ℕ → List Float → Asked
ask_right n r c b = and_then (ask5 n r c) (ask_finite b 0)
