-- Where the list of each place stands in an index store: document 01, "Fill". Definitions only.
-- A side of the fill is T, the list of each place, and R, the row of each place: for the upper side T(k) and lower row k.
use Rattle.std.specs.Prelude.{ℕ, zero, suc, ◌+◌, ◌-◌, min, Bool, true, false, ◌&&◌, cond, List, [], ◌∷◌, ◌++◌, length, drop, get_or, ltb, eqb}

-- how many entries of a list are above k
unfoldable pub count_above : ℕ → List ℕ → ℕ
count_above k [] = 0
count_above k (x ∷ xs) = cond (ltb k x) (suc (count_above k xs)) (count_above k xs)

-- how many entries of each place's list are above k
unfoldable pub tails : (ℕ → List ℕ) → ℕ → ℕ → ℕ
tails T k i = count_above k (T i)

-- a place and a number of entries
pub record Tail : Type 0 where
  pub at : ℕ
  pub most : ℕ

-- the first place of a row at which f is greatest, and f there; place 0 and the number 0 where f is 0 throughout
unfoldable pub best_from : (ℕ → ℕ) → ℕ → ℕ → List ℕ → Tail
best_from f i m [] = record { at = i; most = m }
best_from f i m (j ∷ js) = cond (ltb m (f j)) (best_from f j (f j) js) (best_from f i m js)

abbrev pub best : (ℕ → ℕ) → List ℕ → Tail
best f row = best_from f 0 0 row

-- the index of the first entry that is x, or the length where there is none
unfoldable pub first_at : ℕ → List ℕ → ℕ
first_at x [] = 0
first_at x (y ∷ ys) = cond (eqb y x) 0 (suc (first_at x ys))

-- the two lists agree as far as both go
unfoldable pub agree : List ℕ → List ℕ → Bool
agree [] ys = true
agree (x ∷ xs) [] = true
agree (x ∷ xs) (y ∷ ys) = cond (eqb x y) (agree xs ys) false

-- the two lists are the same
unfoldable pub same : List ℕ → List ℕ → Bool
same [] [] = true
same [] (y ∷ ys) = false
same (x ∷ xs) [] = false
same (x ∷ xs) (y ∷ ys) = eqb x y && same xs ys

-- the used part of the index store, the run starts so far, and the last run's start
pub record State : Type 0 where
  pub slots : List ℕ
  pub runs : List ℕ
  pub last : ℕ

abbrev pub run_of : State → ℕ → ℕ
run_of s i = get_or s.runs i 0

-- where a list's run starts, and how many of its entries stand there already; the others are appended
pub record Plan : Type 0 where
  pub start : ℕ
  pub have : ℕ

-- append all
unfoldable pub append_all : List ℕ → Plan
append_all slots = record { start = length slots; have = 0 }

-- step 3 where there is no overlap
unfoldable pub fresh : List ℕ → List ℕ → Plan
fresh slots list = append_all slots

-- where the first entry of the list stands in the last run, or the end of the used part
unfoldable pub meets : State → List ℕ → ℕ
meets s list = s.last + first_at (get_or list 0 0) (drop s.last s.slots)

-- step 3. The last run is always the end of the used part, from last on: it is empty before anything is written.
unfoldable pub overlap : State → List ℕ → Plan
overlap s list =
    cond (ltb (meets s list) (length s.slots))
    (cond (agree (drop (meets s list) s.slots) list)
    (record { start = meets s list; have = min (length list) (length s.slots - meets s list) })
    (fresh s.slots list))
    (fresh s.slots list)

-- step 2, then step 3
unfoldable pub tail_or : (ℕ → List ℕ) → State → Tail → List ℕ → Plan
tail_or T s b list =
    cond (eqb b.most (length list))
    (record { start = run_of s b.at + (length (T b.at) - b.most); have = length list })
    (overlap s list)

-- how a list is placed: T's lists, the state, the place, its row and its list
abbrev pub Way : Type 0
Way = (ℕ → List ℕ) → State → ℕ → List ℕ → List ℕ → Plan

-- steps 1 to 3
unfoldable pub shared : Way
shared T s k row list = cond (eqb (length list) 0) (append_all s.slots) (tail_or T s (best (tails T k) row) list)

-- the plain form's way: one after another
unfoldable pub plain : Way
plain T s k row list = append_all s.slots

-- the last run changes exactly if something is appended
unfoldable pub after : State → List ℕ → Plan → State
after s list p =
    record {
      slots = s.slots ++ drop p.have list;
      runs = s.runs ++ (p.start ∷ []);
      last = cond (ltb p.have (length list)) p.start s.last;
    }

module _ (way : Way) (T R : ℕ → List ℕ) where
  -- the plan for place k in a state
  abbrev pub plan_at : State → ℕ → Plan
  plan_at s k = way T s k (R k) (T k)

  -- the state after the lists of places 0 to k - 1
  unfoldable pub placed : ℕ → State
  placed zero = record { slots = []; runs = []; last = 0 }
  placed (suc k) = after (placed k) (T k) (plan_at (placed k) k)

-- list starts: the entries of the lists before place k
unfoldable pub start_of : (ℕ → List ℕ) → ℕ → ℕ
start_of T zero = 0
start_of T (suc k) = start_of T k + length (T k)
