-- Laws of a merge that lists the members it visits.
use Rattle.std.specs.Prelude.{◌≡◌, refl, List, [], ◌∷◌, ◌++◌, length, get_or, set}
use Rattle.std.proofs.Common.{sym, ap, ◌∙◌, add-one, zero-add, get_or-set_other, eq-eqb, ne_eqb, le-leb}
use Prim.Native.Nat.{ℕ, zero, suc, ◌+◌, ◌-◌, ◌<◌, ◌≤◌, ◌/◌}
use native.Mathlib.Omega.{arith}
use Rattle.std.proofs.Math.Nat.{add-zero}
use Rattle.std.proofs.Math.ListN.{length-set, length-append}
use Rattle.std.proofs.lemmas.List.{set_comm}
use Rattle.std.proofs.lemmas.List.Edits.{sets}
use Rattle.base.specs.AscLaws.{asc-yes, asc-no}
use Rattle.lent.specs.Reading.{Below}
use Rattle.lent.specs.ReadingLaws.{same}
use Rattle.marks.specs.Marks.{Above, Room, mark_at, stamped, pick, marked, Blocks, Bare, chosen, members, visited, unite, Merged, Base, part_at, Parts}
use Rattle.marks.specs.MarkLaws.{mark-other, room-kept, stamped-length, blocks-after, unmarked-after, not_chosen, members-none, sets-snoc, sets_below, blocks-same}
use Rattle.marks.specs.BlockLaws.{members-same}
use Rattle.base.specs.Scratch.{blocks_from, upper_cuts, list_from}

-- ---- marks below a list

pub room-set : (n : ℕ) (s : List ℕ) (q x : ℕ) → Room n s → Room n (set s q x)
room-set n s q x r = room-kept n s (set s q x) (length-set s q x) r

set-sets : (s : List ℕ) (q x at : ℕ) (l : List ℕ) → q < at → set (sets s at l) q x ≡ sets (set s q x) at l
set-sets s q x at [] h = refl
set-sets s q x at (y ∷ l) h = set-sets (set s at y) q x (suc at) l (omega arith) ∙ ap (λ u. sets u (suc at) l) (set_comm s at q y x (omega arith))

-- marks and a list behind the block stamps can be written in either order
stamped-sets : (n t : ℕ) (s : List ℕ) (at : ℕ) (m l : List ℕ) → upper_cuts n ≤ at → Below n l → stamped n t (sets s at m) l ≡ sets (stamped n t s l) at m
unfolding stamped
stamped-sets n t s at m [] h b = refl
stamped-sets n t s at m (j ∷ l) h b =
    let k = b 0 (omega arith) in
    let e : mark_at n t (sets s at m) j ≡ sets (mark_at n t s j) at m
    = ap (λ u. set u (blocks_from n + j / 64) t) (set-sets s j t at m (omega arith)) ∙ set-sets (set s j t) (blocks_from n + j / 64) t at m (omega arith) in
    ap (λ u. stamped n t u l) e ∙ stamped-sets n t (mark_at n t s j) at m l h (λ p q. b (suc p) (omega arith))

-- places above i leave the marks up to i
stamped-low : (n t : ℕ) (s l : List ℕ) (i j : ℕ) → i < n → Above i l → j ≤ i → get_or (stamped n t s l) j 0 ≡ get_or s j 0
unfolding stamped
stamped-low n t s [] i j h a k = refl
stamped-low n t s (x ∷ l) i j h a k =
    stamped-low n t (mark_at n t s x) l i j h (λ p q. a (suc p) (omega arith)) k
    ∙ mark-other n t s x j (omega arith) (λ e. let b = a 0 (omega arith) in omega arith)

-- ---- one more place

module _ (t : ℕ) (f : ℕ → List ℕ → List ℕ) where
  visited-last : (i m : ℕ) (s : List ℕ) → visited t f i (suc m) s ≡ pick (marked t (visited t f i m s) (i + m)) (f (i + m) (visited t f i m s)) (visited t f i m s)
  unfolding visited
  visited-last i zero s = rw add-zero
  visited-last i (suc m) s = let e : i + suc m ≡ suc i + m = omega arith in rw e (visited-last (suc i) m (pick (marked t s i) (f i s) s))

  visited-hit : (s v : List ℕ) (i : ℕ) → v ≡ visited t f 0 i s → get_or v i 0 ≡ t → f i v ≡ visited t f 0 (i + 1) s
  visited-hit s v i e h = sym (rw add-one (visited-last 0 i s ∙ rw (← e, zero-add, eq-eqb (get_or v i 0) t h)))

  visited-miss : (s v : List ℕ) (i : ℕ) → v ≡ visited t f 0 i s → (get_or v i 0 ≡ t → ⊥) → v ≡ visited t f 0 (i + 1) s
  visited-miss s v i e h = sym (rw add-one (visited-last 0 i s ∙ rw (← e, zero-add, ne_eqb (get_or v i 0) t h)))

members-hit : (t : ℕ) (s : List ℕ) (i : ℕ) → get_or s i 0 ≡ t → members t s 0 (i + 1) ≡ members t s 0 i ++ i ∷ []
unfolding members chosen
members-hit t s i h = asc-yes (chosen t s 0) i (rw (le-leb 0 i (omega arith), eq-eqb (get_or s i 0) t h))

members-miss : (t : ℕ) (s : List ℕ) (i : ℕ) → (get_or s i 0 ≡ t → ⊥) → members t s 0 (i + 1) ≡ members t s 0 i
unfolding members
members-miss t s i h = asc-no (chosen t s 0) i (not_chosen t s 0 i h)

-- ---- the cuts stay

-- the cuts of both sides are as they were
abbrev pub Cuts : ℕ → List ℕ → List ℕ → Type 0
Cuts n s₀ s = (q : ℕ) → upper_cuts n ≤ q → q < list_from n → get_or s q 0 ≡ get_or s₀ q 0

cuts-set : (n : ℕ) (s : List ℕ) (c x : ℕ) → Cuts n s (set s (list_from n + c) x)
cuts-set n s c x q a b = get_or-set_other s (list_from n + c) q x 0 (omega arith)

cuts-turn : (n t : ℕ) (s₀ s u l : List ℕ) (c x : ℕ) → u ≡ stamped n t (set s (list_from n + c) x) l → Below n l → Cuts n s₀ s → Cuts n s₀ u
cuts-turn n t s₀ s u l c x e b h q lo hi =
    (unmarked-after n t (set s (list_from n + c) x) (set s (list_from n + c) x) u l e b (same (set s (list_from n + c) x))).slots q (λ _. omega arith) (λ _. lo)
    ∙ cuts-set n s c x q lo hi ∙ h q lo hi

module _ (n k cuts : ℕ) (runs index s₀ s : List ℕ) (base : Base n cuts) (small : k ≤ n) (kept : Cuts n s₀ s) where
  cut-same : (i : ℕ) → i < k → get_or s (cuts + i) 0 ≡ get_or s₀ (cuts + i) 0
  cut-same i h = let a = base.low in let b = base.high in kept (cuts + i) (omega arith) (omega arith)

  part_same : (i : ℕ) → i < k → part_at s cuts runs index i ≡ part_at s₀ cuts runs index i
  unfolding part_at
  part_same i h = rw (cut-same i h)

  pub parts-kept : (m : ℕ) → k ≤ m → Parts n m s₀ cuts runs index → Parts n k s cuts runs index
  parts-kept m l p = record {
    read = λ i h. let r = p.read i (omega arith) in record { place = r.place; has-run = r.has-run; inside = rw (cut-same i h) r.inside };
    below = λ i h. rw (part_same i h) (p.below i (omega arith));
    above = λ i h. rw (part_same i h) (p.above i (omega arith));
  }

-- ---- the merge as far as place i

-- The lists T of the members below i are united with the set; these members, c of them, stand in the list region.
pub record Going (n t : ℕ) (T : ℕ → List ℕ) (s₀ s : List ℕ) (i c : ℕ) : Type 0 where
  -- scratch without that list
  pub plain : List ℕ
  pub done : plain ≡ visited t (unite n t T) 0 i s₀
  pub size : c ≡ length (members t plain 0 i)
  pub slots : s ≡ sets plain (list_from n) (members t plain 0 i)
  pub long : length s ≡ length s₀
  pub within : c ≤ i
  pub blocks : Blocks n t s
  pub cuts : Cuts n s₀ s

-- a merge that has come with scratch s to place i and c members goes on to scratch u, place e and r members
abbrev pub GoesOn : ℕ → ℕ → ℕ → List ℕ → List ℕ → List ℕ → ℕ → ℕ → List ℕ → ℕ → ℕ → Type 0
GoesOn n t cuts runs index s i c u e r = (s₀ : List ℕ) → Going n t (part_at s₀ cuts runs index) s₀ s i c → Going n t (part_at s₀ cuts runs index) s₀ u e r

pub going_start : (n t : ℕ) (T : ℕ → List ℕ) (s : List ℕ) → Blocks n t s → Going n t T s s 0 0
unfolding visited
going_start n t T s b = record {
  plain = s;
  done = refl;
  size = rw (members-none t s 0);
  slots = rw (members-none t s 0);
  long = refl;
  within = omega arith;
  blocks = b;
  cuts = λ q lo hi. refl;
}

pub going_end : (n t : ℕ) (T : ℕ → List ℕ) (s₀ s : List ℕ) (i k c : ℕ) → i ≡ k → Going n t T s₀ s i c → Merged n t k T s₀ s c
going_end n t T s₀ s i k c e g = rw (← e) (record { size = rw (← g.done) g.size; slots = rw (← g.done) g.slots })

module _ (n t : ℕ) (T : ℕ → List ℕ) (s₀ s : List ℕ) (i c : ℕ) (h : i < n) (g : Going n t T s₀ s i c) where
  plain_at : get_or s i 0 ≡ get_or g.plain i 0
  plain_at = rw g.slots (sets_below g.plain (list_from n) (members t g.plain 0 i) i (omega arith))

  going-miss : (get_or s i 0 ≡ t → ⊥) → Going n t T s₀ s (i + 1) c
  going-miss m =
      let d : get_or g.plain i 0 ≡ t → ⊥ = λ e. m (plain_at ∙ e) in
      let e = members-miss t g.plain i d in
      record {
        plain = g.plain;
        done = visited-miss t (unite n t T) s₀ g.plain i g.done d;
        size = rw e g.size;
        slots = rw e g.slots;
        long = g.long;
        within = omega (arith, g.within);
        blocks = g.blocks;
        cuts = g.cuts;
      }

  -- member i is written behind those before, then its list l is merged
  module _ (room : Room n s) (l u : List ℕ) (b : Below n l) (e : u ≡ stamped n t (set s (list_from n + c) i) l) where
    hit-blocks : Blocks n t u
    hit-blocks =
        blocks-after n t (set s (list_from n + c) i) u l e b (room-set n s (list_from n + c) i room)
        (blocks-same n t s (set s (list_from n + c) i) (λ q k. get_or-set_other s (list_from n + c) q i 0 (omega arith)) g.blocks)

    hit-slots : u ≡ sets (stamped n t g.plain l) (list_from n) (members t g.plain 0 i ++ i ∷ [])
    hit-slots =
        let w : set s (list_from n + c) i ≡ sets g.plain (list_from n) (members t g.plain 0 i ++ i ∷ []) = rw (sets-snoc g.plain (list_from n) (members t g.plain 0 i) i, ← g.size, ← g.slots) in
        e ∙ ap (λ v. stamped n t v l) w ∙ stamped-sets n t g.plain (list_from n) (members t g.plain 0 i ++ i ∷ []) l (omega arith) b

    hit-members : Above i l → get_or s i 0 ≡ t → members t (stamped n t g.plain l) 0 (i + 1) ≡ members t g.plain 0 i ++ i ∷ []
    hit-members a m =
        members-same t (stamped n t g.plain l) g.plain 0 (i + 1) (λ j k. stamped-low n t g.plain l i j h a (omega arith))
        ∙ members-hit t g.plain i (sym plain_at ∙ m)

    going-hit : Above i l → l ≡ T i → get_or s i 0 ≡ t → Going n t T s₀ u (i + 1) (c + 1)
    unfolding unite
    going-hit a q m =
        let w = hit-members a m in
        record {
          plain = stamped n t g.plain l;
          done = rw q (visited-hit t (unite n t T) s₀ g.plain i g.done (sym plain_at ∙ m));
          size = rw (w, length-append (members t g.plain 0 i) (i ∷ [])) (omega (arith, g.size));
          slots = rw w hit-slots;
          long = rw e (stamped-length n t (set s (list_from n + c) i) l ∙ length-set s (list_from n + c) i ∙ g.long);
          within = omega (arith, g.within);
          blocks = hit-blocks;
          cuts = cuts-turn n t s₀ s u l c i e b g.cuts;
        }

going-skip : (n t : ℕ) (T : ℕ → List ℕ) (s₀ s : List ℕ) (i c d : ℕ) → i + d ≤ n → ((j : ℕ) → i ≤ j → j < i + d → get_or s j 0 ≡ t → ⊥)
    → Going n t T s₀ s i c → Going n t T s₀ s (i + d) c
going-skip n t T s₀ s i c zero h none g = rw add-zero g
going-skip n t T s₀ s i c (suc d) h none g =
    let e : i + suc d ≡ i + d + 1 = omega arith in
    rw e (going-miss n t T s₀ s (i + d) c (omega arith) (going-skip n t T s₀ s i c d (omega arith) (λ j a b. none j a (omega arith)) g) (none (i + d) (omega arith) (omega arith)))

-- blocks without the stamp have no member
pub going-past : (n t : ℕ) (T : ℕ → List ℕ) (s₀ s : List ℕ) (i c e r : ℕ) → e ≤ n → Bare n t s i e r → Going n t T s₀ s i c → Going n t T s₀ s r c
going-past n t T s₀ s i c e r h b g =
    let w = b.above in
    let v = b.within in
    let q : i + (r - i) ≡ r = omega arith in
    rw q at (going-skip n t T s₀ s i c (r - i) (omega arith) (λ j x y m. b.none j x (omega arith) (g.blocks j (omega arith) m)) g)

-- ---- the loop over a block

-- It began with scratch s₀, place from and had members, and has come with scratch s to place i, below e, and c members.
pub record Along (n t cuts : ℕ) (runs index s₀ : List ℕ) (from had e : ℕ) (s : List ℕ) (i c : ℕ) : Type 0 where
  pub within : c ≤ i
  pub most : i ≤ e
  pub long : length s ≡ length s₀
  pub room : Room n s
  pub parts : Parts n e s cuts runs index
  pub goes : GoesOn n t cuts runs index s₀ from had s i c

module _ (n t cuts : ℕ) (runs index s₀ : List ℕ) (from had e : ℕ) (small : e ≤ n) (s : List ℕ) (i c : ℕ) (h : i < e) (g : Along n t cuts runs index s₀ from had e s i c) where
  pub along-miss : (u : List ℕ) (d : ℕ) → u ≡ s → d ≡ c → (get_or s i 0 ≡ t → ⊥) → Along n t cuts runs index s₀ from had e u (i + 1) d
  along-miss u d q r m = rw (q, r) (record {
    within = omega (arith, g.within);
    most = omega arith;
    long = g.long;
    room = g.room;
    parts = g.parts;
    goes = λ z y. going-miss n t (part_at z cuts runs index) z s i c (omega arith) (g.goes z y) m;
  })

  module _ (base : Base n cuts) where
    pub listed-parts : Parts n e (set s (list_from n + c) i) cuts runs index
    listed-parts = parts-kept n e cuts runs index s (set s (list_from n + c) i) base small (cuts-set n s c i) e (omega arith) g.parts

    pub along-hit : (u : List ℕ) (d : ℕ) → u ≡ stamped n t (set s (list_from n + c) i) (part_at (set s (list_from n + c) i) cuts runs index i) → d ≡ c + 1 → get_or s i 0 ≡ t
        → Along n t cuts runs index s₀ from had e u (i + 1) d
    along-hit u d q r m =
        let p = listed-parts in
        let k : length u ≡ length s = rw q (stamped-length n t (set s (list_from n + c) i) (part_at (set s (list_from n + c) i) cuts runs index i) ∙ length-set s (list_from n + c) i) in
        rw r (record {
          within = omega (arith, g.within);
          most = omega arith;
          long = k ∙ g.long;
          room = room-kept n s u k g.room;
          parts = parts-kept n e cuts runs index s u base small (cuts-turn n t s s u (part_at (set s (list_from n + c) i) cuts runs index i) c i q (p.below i h) (λ x lo hi. refl)) e (omega arith) g.parts;
          goes = λ z y.
              let o = g.goes z y in
              let x = part_same n e cuts runs index z (set s (list_from n + c) i) base small (λ v lo hi. cuts-set n s c i v lo hi ∙ o.cuts v lo hi) i h in
              going-hit n t (part_at z cuts runs index) z s i c (omega arith) o g.room (part_at (set s (list_from n + c) i) cuts runs index i) u (p.below i h) q (p.above i h) x m;
        })

pub along-end : (n t cuts : ℕ) (runs index s₀ : List ℕ) (from had e : ℕ) (s : List ℕ) (i c : ℕ) → e ≤ i → Along n t cuts runs index s₀ from had e s i c
    → GoesOn n t cuts runs index s₀ from had s e c
along-end n t cuts runs index s₀ from had e s i c h g z y = let q : i ≡ e = omega (arith, g.most) in rw q at (g.goes z y)
