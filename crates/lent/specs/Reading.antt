-- What is lent and only read: lists by their starts, numbers by the orders. And what of a buffer stays as it was. Definitions only.
use Rattle.std.specs.Prelude.{◌≡◌, List, map, ℕ, ◌+◌, ◌-◌, ◌<◌, ◌≤◌, length, get_or, take, drop}
use Rattle.base.specs.Scratch.{inverse_from}
use Rattle.base.specs.declared.OwnNumber.{OwnNumber}
use Rattle.base.specs.declared.Place.{Place}

-- ---- lists

-- how many entries list i has
abbrev pub length_in : List ℕ → ℕ → ℕ
length_in starts i = get_or starts (i + 1) 0 - get_or starts i 0

-- list i can be read from a store with so many slots: its starts do not fall, and its run is inside
pub record ListIn (starts runs : List ℕ) (slots i : ℕ) : Type 0 where
  pub has-run : i < length runs
  pub has-start : i + 1 < length starts
  pub rise : get_or starts i 0 ≤ get_or starts (i + 1) 0
  pub inside : get_or runs i 0 + length_in starts i ≤ slots

-- each entry of the list is below n
abbrev pub Below : ℕ → List ℕ → Type 0
Below n l = (p : ℕ) → p < length l → get_or l p 0 < n

-- no number stands twice in the list
pub record Distinct (l : List ℕ) : Type 0 where
  pub apart : (p q : ℕ) → p < q → q < length l → get_or l p 0 ≡ get_or l q 0 → ⊥

-- ---- orders

-- "Row order r: place k takes own row r(k)": an own number from a place, by an order
abbrev pub own_at : List ℕ → Place → OwnNumber
own_at order k = record { 0 = get_or order k.0 0 }

-- a place from an own number, by the inverse of an order
abbrev pub place_at : List ℕ → OwnNumber → Place
place_at inverse j = record { 0 = get_or inverse j.0 0 }

-- the inverse column order, as the 32-bit scratch holds it
unfoldable pub order_of : ℕ → List ℕ → List ℕ
order_of n s = take n (drop (inverse_from n) s)

-- own columns at their places
unfoldable pub placed : List ℕ → List ℕ → List ℕ
placed inverse columns = map (λ j. get_or inverse j 0) columns

-- ---- frames

-- all slots are the same but those from a up to b and from c up to d
pub record Outside (a b c d : ℕ) (s₀ s : List ℕ) : Type 0 where
  pub size : length s ≡ length s₀
  pub slots : (q : ℕ) → (a ≤ q → b ≤ q) → (c ≤ q → d ≤ q) → get_or s q 0 ≡ get_or s₀ q 0

-- the same of one range, for any lengths
abbrev pub But : ℕ → ℕ → List ℕ → List ℕ → Type 0
But lo hi s₀ s = (q : ℕ) → (lo ≤ q → hi ≤ q) → get_or s q 0 ≡ get_or s₀ q 0
