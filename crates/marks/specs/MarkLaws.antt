-- Laws of the marks: what a list of places leaves, and the members as a list.
use Rattle.std.specs.Prelude.{◌≡◌, refl, List, [], ◌∷◌, ◌++◌, Bool, true, false, ◌&&◌, ◌||◌, ℕ, zero, suc, ◌+◌, ◌-◌, ◌<◌, ◌≤◌, ◌/◌, length, get_or, drop, set, eqb, leb}
use Rattle.std.proofs.Common.{sym, ap, ◌∙◌, arith, add-one, add-zero, length-set, drop-cons, get_or-set_other, get_or-set_same, eq-eqb, ne_eqb}
use Rattle.std.proofs.Math.Bool.{or_assoc, or-false, or-true}
use Rattle.std.proofs.Math.Decide.{ℕ_discrete}
use Rattle.std.proofs.Math.Seq.{drop-length}
use Rattle.std.proofs.lemmas.List.Edits.{sets}
use Rattle.std.proofs.lemmas.Bool.{lt-leb}
use Rattle.base.specs.Lists.{asc, has}
use Rattle.base.specs.AscLaws.{asc-no, asc-none}
use Rattle.lent.specs.Reading.{Below, order_of, placed, Outside}
use Rattle.lent.specs.ReadingLaws.{placed-length, placed_at, same, then, stored, both, order-outside}
use Rattle.marks.specs.Marks.{Room, mark_at, stamped, Blocks, Fresh, Holds, Unmarked, Order, chosen, members}
use Rattle.base.specs.Scratch.{blocks_from, upper_cuts}

-- ---- one mark

mark_at-length : (n t : ℕ) (s : List ℕ) (j : ℕ) → length (mark_at n t s j) ≡ length s
mark_at-length n t s j = length-set (set s j t) (blocks_from n + j / 64) t ∙ length-set s j t

pub room-kept : (n : ℕ) (s u : List ℕ) → length u ≡ length s → Room n s → Room n u
room-kept n s u e r = record { small = omega arith; long = omega arith }

room-mark : (n t : ℕ) (s : List ℕ) (j : ℕ) → Room n s → Room n (mark_at n t s j)
room-mark n t s j r = room-kept n s (mark_at n t s j) (mark_at-length n t s j) r

pub mark-other : (n t : ℕ) (s : List ℕ) (j i : ℕ) → i < n → (i ≡ j → ⊥) → get_or (mark_at n t s j) i 0 ≡ get_or s i 0
mark-other n t s j i h d = get_or-set_other (set s j t) (blocks_from n + j / 64) i t 0 (omega arith) ∙ get_or-set_other s j i t 0 d

mark-here : (n t : ℕ) (s : List ℕ) (j : ℕ) → j < n → Room n s → get_or (mark_at n t s j) j 0 ≡ t
mark-here n t s j h r = get_or-set_other (set s j t) (blocks_from n + j / 64) j t 0 (omega arith) ∙ get_or-set_same s j t 0 (omega arith)

pub unmarked-mark : (n t : ℕ) (s : List ℕ) (j : ℕ) → j < n → Unmarked n s (mark_at n t s j)
unmarked-mark n t s j h =
    then (stored s j t (λ y p q e. omega (arith, p (omega arith)))) (stored (set s j t) (blocks_from n + j / 64) t (λ y p q e. omega (arith, q (omega arith))))

-- a stamped block stays so
mark-block : (n t : ℕ) (s : List ℕ) (j b : ℕ) → j < n → Room n s → blocks_from n ≤ b → get_or s b 0 ≡ t → get_or (mark_at n t s j) b 0 ≡ t
mark-block n t s j b h r a e = go (ℕ_discrete b (blocks_from n + j / 64))
  where
    go : Dec (b ≡ blocks_from n + j / 64) → get_or (mark_at n t s j) b 0 ≡ t
    go (yes q) = rw q (get_or-set_same (set s j t) (blocks_from n + j / 64) t 0 (simp length-set (omega arith)))
    go (no q) = get_or-set_other (set s j t) (blocks_from n + j / 64) b t 0 q ∙ get_or-set_other s j b t 0 (omega arith) ∙ e

blocks-mark : (n t : ℕ) (s : List ℕ) (j : ℕ) → j < n → Room n s → Blocks n t s → Blocks n t (mark_at n t s j)
blocks-mark n t s j h r bs i hi e = go (ℕ_discrete i j)
  where
    go : Dec (i ≡ j) → get_or (mark_at n t s j) (blocks_from n + i / 64) 0 ≡ t
    go (yes q) = rw q (get_or-set_same (set s j t) (blocks_from n + j / 64) t 0 (simp length-set (omega arith)))
    go (no q) = mark-block n t s j (blocks_from n + i / 64) h r (omega arith) (bs i hi (sym (mark-other n t s j i (omega arith) q) ∙ e))

holds-mark : (n t : ℕ) (s : List ℕ) (j : ℕ) (p : ℕ → Bool) → j < n → Room n s → Holds n t s p → Holds n t (mark_at n t s j) (λ i. p i || eqb j i)
holds-mark n t s j p h r k = record {
  blocks = blocks-mark n t s j h r k.blocks;
  exact = λ i l. elim (ℕ_discrete i j) [
    | yes e ↦ rw (e, eq-eqb (get_or (mark_at n t s j) j 0) t (mark-here n t s j h r), eq-eqb j j refl, or-true (p j))
    | no e ↦ rw (mark-other n t s j i l e, ne_eqb j i (λ q. e (sym q)), or-false (p i)) (k.exact i l)
  ];
  last = λ i l. elim (ℕ_discrete i j) [
    | yes e ↦ rw e (omega (arith, mark-here n t s j h r))
    | no e ↦ rw (mark-other n t s j i l e) (k.last i l)
  ];
}

-- ---- a list of places

pub stamped-length : (n t : ℕ) (s l : List ℕ) → length (stamped n t s l) ≡ length s
unfolding stamped
stamped-length n t s [] = refl
stamped-length n t s (j ∷ l) = stamped-length n t (mark_at n t s j) l ∙ mark_at-length n t s j

below-tail : (n x : ℕ) (l : List ℕ) → Below n (x ∷ l) → Below n l
below-tail n x l b p h = b (suc p) (omega arith)

pub holds_same : (n t : ℕ) (s : List ℕ) (p q : ℕ → Bool) → ((j : ℕ) → j < n → p j ≡ q j) → Holds n t s p → Holds n t s q
holds_same n t s p q e h = record { blocks = h.blocks; exact = λ j l. h.exact j l ∙ e j l; last = h.last }

-- the set is united with the list
pub holds-stamped : (n t : ℕ) (s l : List ℕ) (p : ℕ → Bool) → Below n l → Room n s → Holds n t s p → Holds n t (stamped n t s l) (λ j. p j || has l j)
unfolding stamped has
holds-stamped n t s [] p b r h = holds_same n t s p (λ j. p j || false) (λ j l. sym (or-false (p j))) h
holds-stamped n t s (x ∷ l) p b r h =
    holds_same n t (stamped n t (mark_at n t s x) l) (λ j. (p j || eqb x j) || has l j) (λ j. p j || (eqb x j || has l j)) (λ j _. or_assoc (p j) (eqb x j) (has l j))
    (holds-stamped n t (mark_at n t s x) l (λ j. p j || eqb x j) (below-tail n x l b) (room-mark n t s x r) (holds-mark n t s x p (b 0 (omega arith)) r h))

-- no mark is as late as a fresh stamp
holds-none : (n t : ℕ) (s : List ℕ) → Fresh n t s → Holds n t s (λ j. false)
holds-none n t s f = record {
  blocks = λ j l e. absurd (omega (arith, f j l));
  exact = λ j l. ne_eqb (get_or s j 0) t (λ e. omega (arith, f j l));
  last = λ j l. omega (arith, f j l);
}

-- a fresh set with a list of places is that list
pub holds-list : (n t : ℕ) (s l : List ℕ) → Below n l → Room n s → Fresh n t s → Holds n t (stamped n t s l) (has l)
holds-list n t s l b r f = holds-stamped n t s l (λ j. false) b r (holds-none n t s f)

-- what every mark below n keeps, stamping a list keeps
stamped-keeps : (P : List ℕ → Type 0) (n t : ℕ) → ((u : List ℕ) (j : ℕ) → j < n → P u → P (mark_at n t u j))
    → (s l : List ℕ) → Below n l → P s → P (stamped n t s l)
unfolding stamped
stamped-keeps P n t k s [] b h = h
stamped-keeps P n t k s (j ∷ l) b h = stamped-keeps P n t k (mark_at n t s j) l (below-tail n j l b) (k s j (b 0 (omega arith)) h)

pub unmarked-stamped : (n t : ℕ) (s l : List ℕ) → Below n l → Unmarked n s (stamped n t s l)
unmarked-stamped n t s l b = stamped-keeps (Unmarked n s) n t (λ u j h k. then k (unmarked-mark n t u j h)) s l b (same s)

-- the same stamps in both
pub both-stamped : (n t : ℕ) {a b c d : ℕ} (s u l : List ℕ) → Room n s → Below n l → Outside a b c d s u → Outside a b c d (stamped n t s l) (stamped n t u l)
unfolding stamped
both-stamped n t s u [] r h k = k
both-stamped n t s u (j ∷ l) r h k =
    let g : j < n = h 0 (omega arith) in
    let f = r.long in
    both-stamped n t (mark_at n t s j) (mark_at n t u j) l (room-mark n t s j r) (below-tail n j l h)
    (both (set s j t) (set u j t) (blocks_from n + j / 64) t (simp length-set (omega arith)) (both s u j t (omega arith) k))

blocks-stamped : (n t : ℕ) (s l : List ℕ) → Below n l → Room n s → Blocks n t s → Blocks n t (stamped n t s l)
unfolding stamped
blocks-stamped n t s [] b r h = h
blocks-stamped n t s (j ∷ l) b r h = blocks-stamped n t (mark_at n t s j) l (below-tail n j l b) (room-mark n t s j r) (blocks-mark n t s j (b 0 (omega arith)) r h)

pub blocks-after : (n t : ℕ) (s u l : List ℕ) → u ≡ stamped n t s l → Below n l → Room n s → Blocks n t s → Blocks n t u
blocks-after n t s u l e b r h = rw e (blocks-stamped n t s l b r h)

pub unmarked-after : (n t : ℕ) (s₀ s u l : List ℕ) → u ≡ stamped n t s l → Below n l → Unmarked n s₀ s → Unmarked n s₀ u
unmarked-after n t s₀ s u l e b h = rw e (then h (unmarked-stamped n t s l b))

-- ---- one turn of a loop over the list

stamped-next : (n t : ℕ) (s l : List ℕ) (p : ℕ) → p < length l → stamped n t s (drop p l) ≡ stamped n t (mark_at n t s (get_or l p 0)) (drop (p + 1) l)
unfolding stamped
stamped-next n t s l p h = rw (add-one, drop-cons l p 0)

pub stamped-turn : (n t : ℕ) (s u l : List ℕ) (p j : ℕ) → p < length l → j ≡ get_or l p 0 → u ≡ mark_at n t s j
    → stamped n t u (drop (p + 1) l) ≡ stamped n t s (drop p l)
stamped-turn n t s u l p j h ej eu = sym (stamped-next n t s l p h ∙ rw (eu, ej))

pub stamped-end : (n t : ℕ) (s l : List ℕ) (p : ℕ) → length l ≡ p → stamped n t s (drop p l) ≡ s
unfolding stamped
stamped-end n t s l p h = rw (← h, drop-length)

-- ---- a row of M at its places

pub order-unmarked : (n : ℕ) {s u : List ℕ} → Unmarked n s u → order_of n u ≡ order_of n s
order-unmarked n k = order-outside n (λ x a b. ((λ h. omega arith), (λ h. omega arith))) k

pub below-placed : (n : ℕ) (s cols : List ℕ) → Order n s → Below n cols → Below n (placed (order_of n s) cols)
below-placed n s cols o b p h =
    let l = placed-length (order_of n s) cols in
    omega (arith, placed_at (order_of n s) cols p (omega arith), o (get_or cols p 0) (b p (omega arith)))

-- the place of entry q of a row, while the order stands
pub entry_read : (n q j : ℕ) (s₀ s cols : List ℕ) → q < length cols → order_of n s ≡ order_of n s₀ → j ≡ get_or (order_of n s) (get_or cols q 0) 0
    → (q < length (placed (order_of n s₀) cols)) × (j ≡ get_or (placed (order_of n s₀) cols) q 0)
entry_read n q j s₀ s cols h o e = (omega (arith, placed-length (order_of n s₀) cols), e ∙ ap (λ v. get_or v (get_or cols q 0) 0) o ∙ sym (placed_at (order_of n s₀) cols q h))

pub entry-below : (n q j : ℕ) (s cols : List ℕ) → Order n s → Below n cols → q < length (placed (order_of n s) cols) → j ≡ get_or (placed (order_of n s) cols) q 0 → j < n
entry-below n q j s cols o b h e = omega (arith, e, below-placed n s cols o b q h)

-- what is left to stamp of it
pub record Load (n t q : ℕ) (xs s₀ s : List ℕ) : Type 0 where
  pub kept : Unmarked n s₀ s
  pub left : stamped n t s (drop q xs) ≡ stamped n t s₀ xs

pub load-start : (n t : ℕ) (xs s : List ℕ) → Load n t 0 xs s s
load-start n t xs s = record { kept = same s; left = refl }

pub load-more : {n t q j : ℕ} {xs s₀ s u : List ℕ} → q < length xs → j < n → j ≡ get_or xs q 0 → u ≡ mark_at n t s j → Load n t q xs s₀ s → Load n t (q + 1) xs s₀ u
load-more {n} {t} {q} {j} {xs} {s₀} {s} {u} h b ej eu c = record {
  kept = then c.kept (rw eu (unmarked-mark n t s j b));
  left = stamped-turn n t s u xs q j h ej eu ∙ c.left;
}

pub load-end : {n t q : ℕ} {xs s₀ s : List ℕ} → length xs ≡ q → Load n t q xs s₀ s → s ≡ stamped n t s₀ xs
load-end {n} {t} {q} {xs} {s₀} {s} e c = sym (stamped-end n t s xs q e) ∙ c.left

-- ---- the members as a list

-- numbers that do not pass add nothing
asc-skip : (p : ℕ → Bool) (i d : ℕ) → ((j : ℕ) → i ≤ j → j < i + d → p j ≡ false) → asc p (i + d) ≡ asc p i
asc-skip p i zero h = rw add-zero
asc-skip p i (suc d) h =
    let e : i + suc d ≡ i + d + 1 = omega arith in
    rw e (asc-no p (i + d) (h (i + d) (omega arith) (omega arith)) ∙ asc-skip p i d (λ j a b. h j a (omega arith)))

pub not_chosen : (t : ℕ) (s : List ℕ) (from j : ℕ) → (get_or s j 0 ≡ t → ⊥) → chosen t s from j ≡ false
unfolding chosen
not_chosen t s from j d = rw (ne_eqb (get_or s j 0) t d) (go (leb from j))
  where
    go : (b : Bool) → (b && false) ≡ false
    go true = refl
    go false = refl

-- before the first place there is none
pub members-none : (t : ℕ) (s : List ℕ) (from : ℕ) → members t s from from ≡ []
unfolding members chosen
members-none t s from = asc-none _ from (λ j l. rw (lt-leb from j l))

members-skip : (t : ℕ) (s : List ℕ) (from d : ℕ) → ((j : ℕ) → from ≤ j → j < from + d → get_or s j 0 ≡ t → ⊥) → members t s from (from + d) ≡ members t s from from
unfolding members
members-skip t s from d none = asc-skip (chosen t s from) from d (λ j a b. not_chosen t s from j (none j a b))

-- nor where no place has the stamp
pub members-empty : (t : ℕ) (s : List ℕ) (from e : ℕ) → from ≤ e → ((j : ℕ) → from ≤ j → j < e → get_or s j 0 ≡ t → ⊥) → members t s from e ≡ []
members-empty t s from e l none =
    let q : from + (e - from) ≡ e = omega arith in
    rw (← q) (members-skip t s from (e - from) (λ j a b. none j a (omega arith)) ∙ members-none t s from)

-- ---- a list is written behind the block stamps

pub sets-snoc : (s : List ℕ) (at : ℕ) (l : List ℕ) (x : ℕ) → sets s at (l ++ x ∷ []) ≡ set (sets s at l) (at + length l) x
sets-snoc s at [] x = rw add-zero
sets-snoc s at (y ∷ l) x =
    let e : at + suc (length l) ≡ suc at + length l = omega arith in
    rw e (sets-snoc (set s at y) (suc at) l x)

pub sets_below : (s : List ℕ) (at : ℕ) (l : List ℕ) (q : ℕ) → q < at → get_or (sets s at l) q 0 ≡ get_or s q 0
sets_below s at [] q h = refl
sets_below s at (y ∷ l) q h = sets_below (set s at y) (suc at) l q (omega arith) ∙ get_or-set_other s at q y 0 (omega arith)

pub sets-above : (s : List ℕ) (at : ℕ) (l : List ℕ) (q : ℕ) → at + length l ≤ q → get_or (sets s at l) q 0 ≡ get_or s q 0
sets-above s at [] q h = refl
sets-above s at (y ∷ l) q h = sets-above (set s at y) (suc at) l q (omega arith) ∙ get_or-set_other s at q y 0 (omega arith)

-- the marks and block stamps are as they were
abbrev pub Marks : ℕ → List ℕ → List ℕ → Type 0
Marks n s₀ s = (q : ℕ) → q < upper_cuts n → get_or s q 0 ≡ get_or s₀ q 0

pub marks-sets : (n : ℕ) (s u : List ℕ) (at : ℕ) (l : List ℕ) → upper_cuts n ≤ at → u ≡ sets s at l → Marks n s u
marks-sets n s u at l h e q k = rw e (sets_below s at l q (omega arith))

pub blocks-same : (n t : ℕ) (s u : List ℕ) → Marks n s u → Blocks n t s → Blocks n t u
blocks-same n t s u k b j l e = k (blocks_from n + j / 64) (omega arith) ∙ b j l (sym (k j (omega arith)) ∙ e)

pub holds_kept : (n t : ℕ) (s u : List ℕ) (p : ℕ → Bool) → Marks n s u → Holds n t s p → Holds n t u p
holds_kept n t s u p k h = record {
  blocks = blocks-same n t s u k h.blocks;
  exact = λ j l. rw (k j (omega arith)) (h.exact j l);
  last = λ j l. rw (k j (omega arith)) (h.last j l);
}
