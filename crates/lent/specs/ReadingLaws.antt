-- Laws of the parts that are read, and of frames.
use Rattle.std.specs.Prelude.{◌≡◌, refl, List, [], ◌∷◌, map, ℕ, zero, suc, ◌+◌, ◌-◌, ◌<◌, ◌≤◌, length, get_or, take, drop, set}
use Rattle.std.proofs.Common.{sym, ◌∙◌, arith, length-set, get_or-set_other, get_or-set_same, length-take-le, take_all}
use Rattle.std.proofs.Math.Decide.{ℕ_discrete}
use Rattle.std.proofs.lemmas.List.{length-map}
use Rattle.std.proofs.Math.ListN.{length-take, length-drop}
use Rattle.std.proofs.Math.Seq.{get_or-take, get_or-drop, ext_get_or}
use Rattle.base.specs.Lists.{list_at}
use Rattle.base.specs.Scratch.{blocks_from}
use Rattle.base.specs.declared.OwnNumber.{OwnNumber}
use Rattle.base.specs.declared.Place.{Place}
use Rattle.lent.specs.Reading.{length_in, ListIn, Below, place_at, order_of, placed, Outside}

-- ---- lists and orders

-- a part from its run start on, as long as the starts say, is the list
pub part-is : {A : Type 0} (starts runs : List ℕ) (store : List A) (i a l : ℕ) → a ≡ get_or runs i 0 → l ≡ length_in starts i → take (a + l - a) (drop a store) ≡ list_at starts runs store i
unfolding list_at
part-is starts runs store i a l ea el = let e : a + l - a ≡ l = omega arith in rw (e, ea, el)

pub list_length : {A : Type 0} (starts runs : List ℕ) (store : List A) (i : ℕ) → ListIn starts runs (length store) i
    → length (list_at starts runs store i) ≡ length_in starts i
unfolding list_at
list_length starts runs store i h = length-take-le _ (drop (get_or runs i 0) store) (omega (arith, length-drop (get_or runs i 0) store, h.inside))

pub list-entry : {A : Type 0} (starts runs : List ℕ) (store : List A) (i p : ℕ) (z : A) → p < length_in starts i → get_or (list_at starts runs store i) p z ≡ get_or store (get_or runs i 0 + p) z
unfolding list_at
list-entry starts runs store i p z h = get_or-take (length_in starts i) (drop (get_or runs i 0) store) p z h ∙ get_or-drop (get_or runs i 0) store p z

-- a part from a on is the rest
pub take_rest : {A : Type 0} (a : ℕ) (l : List A) → take (length l - a) (drop a l) ≡ drop a l
take_rest a l = take_all (length l - a) (drop a l) (simp length-drop (omega arith))

-- a list's numbers are below n where all of the store are
pub list-below : (n : ℕ) (starts runs store : List ℕ) (i : ℕ) → Below n store → Below n (list_at starts runs store i)
unfolding list_at
list-below n starts runs store i h p l =
    let c = rw (length-take, length-drop) at l in
    rw (list-entry starts runs store i p 0 (omega arith)) (h (get_or runs i 0 + p) (omega arith))

-- the list of the own row that the order gives
pub own_in : {starts : List ℕ} {slots j : ℕ} {i : OwnNumber} → ◌≡◌ {A = OwnNumber} i (record { 0 = j }) → ListIn starts starts slots j → ListIn starts starts slots i.0
own_in e h = rw e h

pub order-read : (n : ℕ) (s : List ℕ) (c : ℕ) → c < n → get_or s (n + c) 0 ≡ get_or (order_of n s) c 0
unfolding order_of
order-read n s c h = sym (get_or-take n (drop n s) c 0 h ∙ get_or-drop n s c 0)

pub place_read : (n : ℕ) (s : List ℕ) (c : OwnNumber) (x : ℕ) → c.0 < n → x ≡ n + c.0 → ◌≡◌ {A = Place} (record { 0 = get_or s x 0 }) (place_at (order_of n s) c)
place_read n s c x h e = rw (e, order-read n s c.0 h)

pub place_is : (k : Place) (order : List ℕ) (x y : ℕ) → k ≡ place_at order (record { 0 = x }) → x ≡ y → k.0 ≡ get_or order y 0
place_is k order x y e h = rw (e, h)

pub placed-length : (ic l : List ℕ) → length (placed ic l) ≡ length l
unfolding placed
placed-length ic l = length-map l (λ j. get_or ic j 0)

pub placed_at : (ic l : List ℕ) (q : ℕ) → q < length l → get_or (placed ic l) q 0 ≡ get_or ic (get_or l q 0) 0
unfolding placed
placed_at ic [] q h = absurd (omega arith)
placed_at ic (c ∷ l) zero h = refl
placed_at ic (c ∷ l) (suc q) h = placed_at ic l q (omega arith)

-- by an inverse that is f, whatever stands from n on
pub placed-is : (ic l : List ℕ) (n : ℕ) (f : ℕ → ℕ) → ((j : ℕ) → j < n → get_or ic j 0 ≡ f j) → Below n l → placed ic l ≡ map f l
unfolding placed
placed-is ic [] n f e b = refl
placed-is ic (c ∷ l) n f e b = rw (e c (b 0 (omega arith)), placed-is ic l n f e (λ p h. b (suc p) (omega arith)))

-- ---- frames

module _ {a b c d : ℕ} where
  pub same : (s : List ℕ) → Outside a b c d s s
  same s = record { size = refl; slots = λ x h g. refl }

  pub then : {s u v : List ℕ} → Outside a b c d s u → Outside a b c d u v → Outside a b c d s v
  then h g = record { size = g.size ∙ h.size; slots = λ x y z. g.slots x y z ∙ h.slots x y z }

  -- a store to a slot inside
  pub stored : (s : List ℕ) (x v : ℕ) → ((y : ℕ) → (a ≤ y → b ≤ y) → (c ≤ y → d ≤ y) → y ≡ x → ⊥) → Outside a b c d s (set s x v)
  stored s x v h = record { size = length-set s x v; slots = λ y p q. get_or-set_other s x y v 0 (h y p q) }

  -- the same store in both
  pub both : (s u : List ℕ) (x v : ℕ) → x < length s → Outside a b c d s u → Outside a b c d (set s x v) (set u x v)
  both s u x v h k = record {
    size = length-set u x v ∙ k.size ∙ sym (length-set s x v);
    slots = λ y p q. go y p q (ℕ_discrete y x);
  }
    where
      go : (y : ℕ) → (a ≤ y → b ≤ y) → (c ≤ y → d ≤ y) → Dec (y ≡ x) → get_or (set u x v) y 0 ≡ get_or (set s x v) y 0
      go y p q (yes e) = rw e (get_or-set_same u x v 0 (omega (arith, k.size)) ∙ sym (get_or-set_same s x v 0 h))
      go y p q (no e) = get_or-set_other u x y v 0 e ∙ k.slots y p q ∙ sym (get_or-set_other s x y v 0 e)

  pub order-outside : (n : ℕ) {s u : List ℕ} → ((x : ℕ) → n ≤ x → x < blocks_from n → (a ≤ x → b ≤ x) × (c ≤ x → d ≤ x)) → Outside a b c d s u → order_of n u ≡ order_of n s
  unfolding order_of
  order-outside n {s} {u} h k =
      let z = k.size in
      ext_get_or 0 (take n (drop n u)) (take n (drop n s)) (simp (length-take, length-drop, z))
      (λ i l.
      let a : i < n = omega (arith, simp length-take at l) in
      let g = h (n + i) (omega arith) (omega arith) in
      rw (get_or-take n (drop n u) i 0 a, get_or-take n (drop n s) i 0 a, get_or-drop n u i 0, get_or-drop n s i 0) (k.slots (n + i) g.0 g.1))
