-- The words for lists and sets that every definition uses. A set of numbers is a test ℕ → Bool. Definitions only.
use Rattle.std.specs.Prelude.{Bool, true, false, ◌||◌, List, [], ◌∷◌, ◌++◌, ℕ, zero, suc, ◌+◌, ◌-◌, length, get_or, take, drop, replicate, eqb, Float, pos}
use Rattle.std.specs.Float.{fin}

-- ---- sums, counts and ascending lists

-- f 0 + .. + f (n - 1)
unfoldable pub sum : ℕ → (ℕ → ℕ) → ℕ
sum zero f = 0
sum (suc n) f = sum n f + f n

abbrev pub bit : Bool → ℕ
bit true = 1
bit false = 0

-- how many numbers below n pass the test
unfoldable pub count : (ℕ → Bool) → ℕ → ℕ
count p n = sum n (λ j. bit (p j))

abbrev pub keep : Bool → ℕ → List ℕ
keep true n = n ∷ []
keep false n = []

-- the ascending list of the numbers below n that pass the test
unfoldable pub asc : (ℕ → Bool) → ℕ → List ℕ
asc p zero = []
asc p (suc n) = asc p n ++ keep (p n) n

-- the sum of a list
unfoldable pub total : List ℕ → ℕ
total [] = 0
total (x ∷ xs) = x + total xs

-- whether j is in the list
unfoldable pub has : List ℕ → ℕ → Bool
has [] j = false
has (x ∷ xs) j = eqb x j || has xs j

-- ---- lists by their entries

-- f 0, f 1, .., f (n - 1)
unfoldable pub table : {A : Type 0} → (ℕ → A) → ℕ → List A
table f zero = []
table f (suc n) = table f n ++ (f n ∷ [])

-- f 0 and then f 1, .., f (n - 1)
unfoldable pub joined : {A : Type 0} → (ℕ → List A) → ℕ → List A
joined f zero = []
joined f (suc k) = joined f k ++ f k

-- list i of a store: as long as the list starts say, from its run start on
unfoldable pub list_at : {A : Type 0} → List ℕ → List ℕ → List A → ℕ → List A
list_at starts runs store i = take (get_or starts (i + 1) 0 - get_or starts i 0) (drop (get_or runs i 0) store)

-- list i of a store whose lists stand one after another
abbrev pub row_of : {A : Type 0} → List ℕ → List A → ℕ → List A
row_of starts store i = list_at starts starts store i

-- the pairs of two lists, as far as both go
unfoldable pub pairs : {A B : Type 0} → List A → List B → List (A × B)
pairs [] ys = []
pairs (x ∷ xs) [] = []
pairs (x ∷ xs) (y ∷ ys) = (x, y) ∷ pairs xs ys

-- ---- zeros

-- "A zero binary64 slot is +0"
abbrev pub nought : Float
nought = fin false 0 (pos 0)

-- as long as the list, and v in every slot
unfoldable pub blank : {A : Type 0} → A → List A → List A
blank v l = replicate (length l) v

-- a used part, and v in the unused slots
unfoldable pub padded : {A : Type 0} → A → ℕ → List A → List A
padded v size l = l ++ replicate (size - length l) v
