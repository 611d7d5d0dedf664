-- Laws of the members in turn where they stand as a list: a visit of each is one walk along the list.
use Rattle.std.specs.Prelude.{◌≡◌, Bool, true, false, length, get_or, take, drop, set, eqb}
use Rattle.std.proofs.Math.Path.{refl}
use Rattle.std.proofs.Common.{sym, ap, ◌∙◌, arith, add-one, zero-add, length-drop, drop-cons, drop-set-lt, get_or-take, get_or-drop, length-take-le, take_all}
use mathlib.Core.List.{List, [], ◌∷◌, ◌++◌}
use Prim.Native.Nat.{ℕ, suc, ◌+◌, ◌<◌, ◌≤◌}
use Rattle.std.proofs.Math.Decide.{dec_lt}
use Rattle.std.proofs.Math.Seq.{drop-length}
use Rattle.base.specs.Lists.{keep}
use Rattle.base.specs.AscLaws.{asc-at, length-asc}
use Rattle.marks.specs.Marks.{Room, Base, pick, marked, chosen, members, visited, Walk, upto, cut_one}
use Rattle.marks.specs.MarkLaws.{members-none}
use Rattle.marks.specs.BlockLaws.{members-more, members-same, members-split, members-le}
use Rattle.marks.specs.VisitLaws.{visited-keeps}
use Rattle.marks.specs.CutLaws.{cut-other, cut-length}
use Rattle.base.specs.Scratch.{list_from}

-- the places of a list are visited in turn
unfoldable pub along : (ℕ → List ℕ → List ℕ) → List ℕ → List ℕ → List ℕ
along f [] s = s
along f (i ∷ l) s = along f l (f i s)

members-head : (t : ℕ) (s : List ℕ) (i e : ℕ) → i < e → members t s i e ≡ keep (marked t s i) i ++ members t s (suc i) e
members-head t s i e h = members-split t s i (i + 1) e (omega arith) (omega arith) ∙ rw (members-more t s i i (omega arith), members-none t s i, add-one)

-- where no visit changes a mark below e, the members are those at the start
module _ (t : ℕ) (f : ℕ → List ℕ → List ℕ) (e : ℕ) (keeps : (i : ℕ) (u : List ℕ) (q : ℕ) → q < e → get_or (f i u) q 0 ≡ get_or u q 0) where
  along-visit : (i : ℕ) (s : List ℕ) → i < e → marked t s i ≡ true → along f (members t (f i s) (suc i) e) (f i s) ≡ along f (members t s i e) s
  unfolding along
  along-visit i s h m = rw (members-head t s i e h, m, members-same t (f i s) s (suc i) e (keeps i s))

  along-skip : (i : ℕ) (s : List ℕ) → i < e → marked t s i ≡ false → along f (members t s (suc i) e) s ≡ along f (members t s i e) s
  along-skip i s h m = rw (members-head t s i e h, m)

  visited-along : (s : List ℕ) → visited t f 0 e s ≡ along f (members t s 0 e) s
  unfolding along
  visited-along s =
      let P : ℕ → List ℕ → Type 0 = λ i u. along f (members t u i e) u ≡ along f (members t s 0 e) s in
      let done = visited-keeps t f P 0 e s (λ q a b u h m. along-visit q u (omega arith) m ∙ h) (λ q a b u h m. along-skip q u (omega arith) m ∙ h) refl in
      rw (zero-add e, members-none) at done

-- ---- a loop that cuts along a list in the list region: those before slot p are cut

pub record Listed (n k cuts below : ℕ) (T : ℕ → List ℕ) (s₀ s : List ℕ) (p : ℕ) : Type 0 where
  pub long : length s ≡ length s₀
  pub list : drop (list_from n) s ≡ drop (list_from n) s₀
  pub left : along (cut_one cuts k T) (drop p (take below (drop (list_from n) s₀))) s ≡ along (cut_one cuts k T) (take below (drop (list_from n) s₀)) s₀

cut-drop : (cuts k : ℕ) (T : ℕ → List ℕ) (i : ℕ) (s : List ℕ) (m : ℕ) → cuts + i < m → drop m (cut_one cuts k T i s) ≡ drop m s
unfolding cut_one
cut-drop cuts k T i s m h = go (eqb (get_or s (cuts + i) 0) (length (T i)))
  where
    go : (b : Bool) → drop m (pick b (set s (cuts + i) (upto k (T i))) s) ≡ drop m s
    go true = drop-set-lt m s (cuts + i) (upto k (T i)) h
    go false = refl

members-below : (t : ℕ) (s : List ℕ) (k p : ℕ) → p < length (members t s 0 k) → get_or (members t s 0 k) p 0 < k
unfolding members
members-below t s k p h = (asc-at (chosen t s 0) k p (omega (arith, length-asc (chosen t s 0) k))).below

along-next : (f : ℕ → List ℕ → List ℕ) (s l : List ℕ) (p : ℕ) → p < length l → along f (drop p l) s ≡ along f (drop (p + 1) l) (f (get_or l p 0) s)
unfolding along
along-next f s l p h = rw (add-one, drop-cons l p 0)

along-end : (f : ℕ → List ℕ → List ℕ) (s l : List ℕ) (p : ℕ) → length l ≡ p → along f (drop p l) s ≡ s
unfolding along
along-end f s l p e = rw (← e, drop-length)

module _ (n k : ℕ) (s₀ : List ℕ) (small : k < n) (room : Room n s₀) (below : ℕ) (walk : Walk n k below s₀) where
  abbrev list : List ℕ
  list = take below (drop (list_from n) s₀)

  -- the members are fewer than the region has slots
  list-size : length list ≡ below
  list-size =
      let d = length-drop (list_from n) s₀ in
      let few = members-le walk.stamp s₀ 0 k (omega arith) in
      elim (dec_lt (length (drop (list_from n) s₀)) below) [
        | yes q ↦ absurd (omega (arith, room.long, ap length (sym (take_all below (drop (list_from n) s₀) (omega arith)) ∙ walk.list)))
        | no q ↦ length-take-le below (drop (list_from n) s₀) (omega arith)
      ]

  pub listed-fit : below ≤ n
  listed-fit = omega (arith, list-size, ap length walk.list, members-le walk.stamp s₀ 0 k (omega arith))

  module _ (cuts : ℕ) (T : ℕ → List ℕ) (base : Base n cuts) where
    pub listed_start : Listed n k cuts below T s₀ s₀ 0
    listed_start = record { long = refl; list = refl; left = refl }

    module _ (s : List ℕ) (p : ℕ) (g : Listed n k cuts below T s₀ s p) where
      listed-read : p < below → get_or s (list_from n + p) 0 ≡ get_or list p 0
      listed-read h = sym (get_or-drop (list_from n) s p 0) ∙ rw g.list (sym (get_or-take below (drop (list_from n) s₀) p 0 h))

      pub listed_below : (i : ℕ) → p < below → i ≡ get_or s (list_from n + p) 0 → i < k
      listed_below i h e =
          let m = walk.list in
          omega (arith, listed-read h, ap (λ l. get_or l p 0) m, members-below walk.stamp s₀ k p (omega (arith, list-size, ap length m)))

      pub listed_more : (u : List ℕ) (i : ℕ) → p < below → i ≡ get_or s (list_from n + p) 0 → u ≡ cut_one cuts k T i s → Listed n k cuts below T s₀ u (p + 1)
      listed_more u i h e c = record {
        long = rw c (cut-length cuts k T i s ∙ g.long);
        list = rw c (cut-drop cuts k T i s (list_from n) (omega (arith, base.high, listed_below i h e)) ∙ g.list);
        left = rw (c, e, listed-read h) (sym (along-next (cut_one cuts k T) s list p (omega (arith, list-size))) ∙ g.left);
      }

      -- whichever stamp it was
      pub listed-end : p ≡ below → (t : ℕ) → list ≡ members t s₀ 0 k → s ≡ visited t (cut_one cuts k T) 0 k s₀
      listed-end h t m =
          let keeps : (i : ℕ) (u : List ℕ) (q : ℕ) → q < k → get_or (cut_one cuts k T i u) q 0 ≡ get_or u q 0 = λ i u q l. cut-other cuts k T i u q (omega (arith, base.low)) in
          sym (along-end (cut_one cuts k T) s list p (list-size ∙ sym h)) ∙ g.left ∙ ap (λ l. along (cut_one cuts k T) l s₀) m ∙ sym (visited-along t (cut_one cuts k T) k keeps s₀)
