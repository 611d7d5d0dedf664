-- Laws of the counts, of opening and filling a window, and of handing out a column.
use mathlib.Core.Path.{◌≡◌, refl, sym, ◌∙◌}
use mathlib.Core.List.{List, [], ◌∷◌}
use Prim.Native.Nat.{ℕ, zero, suc, ◌+◌, ◌-◌, ◌<◌, ◌≤◌}
use native.Mathlib.Omega.{arith}
use native.Mathlib.Decide.{ℕ_discrete, dec_lt}
use native.Mathlib.Numerals.{add-one}
use lib.ListN.{length, get_or, set, take, drop, replicate, length-set}
use borrow.Rule.Slice.PartMut.{put_mid, mid_of, same_len_mid}
use Rattle.std.proofs.Common.{ap, length-drop, length-take-le, get_or-take, get_or-drop}
use Rattle.std.proofs.lemmas.List.{get_or-append_right, get_or-replicate, length-replicate}
use Rattle.std.proofs.lemmas.Slice.{take-put_mid, take-put_mid_below, drop-put_mid}
use lib.Dec.{eqb, eqb-suc-suc}
use borrow.Author.Tests.{eq-eqb, ne_eqb}
use lib.Seq.{get_or-set_other, get_or-set_same}
use Rattle.base.specs.Lists.{sum}
use Rattle.base.specs.AscLaws.{sum-ext}
use Rattle.marks.specs.MarkLaws.{unmarked-stamped, both-stamped}
use Rattle.lent.specs.ReadingLaws.{same, then, stored}
use Rattle.lent.specs.Reading.{Below, order_of}
use Rattle.marks.specs.Marks.{Room, stamped}
use Rattle.columns.specs.Columns.{HeadsKept, Steady, places_by_row, leads, hits, bare, column, Counting, Countable, Counted, Tally, Started, Chain, none, HasChain, length_at, held, Listed, Roomy, Offered, head_at, Emptied, Filled, Ready, Windowed, Loaded}
use Rattle.columns.proofs.Keeps.{order-kept, kept-wider, steady-unmarked}
use Rattle.columns.proofs.ColumnLaws.{hits-here, hits-there, hits-again, hits-bounds, column-zero, column-more, column-few, column-part, below-column, held-at-most}
use Rattle.columns.proofs.ListLaws.{lists-frame}
use Rattle.base.specs.Scratch.{heads_from, lasts_from}

-- ---- counting

-- a head written
head-kept : (n lo hi j v : ℕ) (s : List ℕ) → lo ≤ j → j < hi → hi ≤ n → HeadsKept n lo hi s (set s (heads_from n + j) v)
head-kept n lo hi j v s a b h = stored s (heads_from n + j) v (λ y p q e. omega (arith, p (omega arith)))

-- a head and the last row of its column written
module _ (n j v w : ℕ) (s : List ℕ) (sp : Room n s) (h : j < n) where
  abbrev written : List ℕ
  written = set (set s (heads_from n + j) v) (lasts_from n + j) w

  other : (y : ℕ) → (y ≡ heads_from n + j → ⊥) → (y ≡ lasts_from n + j → ⊥) → get_or written y 0 ≡ get_or s y 0
  other y a b = get_or-set_other (set s (heads_from n + j) v) (lasts_from n + j) y w 0 b ∙ get_or-set_other s (heads_from n + j) y v 0 a

  written-kept : HeadsKept n 0 n s written
  written-kept = record { size = simp length-set; slots = λ y p q. other y (λ e. omega (arith, p (omega arith))) (λ e. omega (arith, q (omega arith))) }

  -- what holds of the two slots written, and held of every other column's, holds of every column's
  written_at : (P : ℕ → ℕ → ℕ → Type 0) → P j v w → ((x : ℕ) → x < n → (x ≡ j → ⊥) → P x (get_or s (heads_from n + x) 0) (get_or s (lasts_from n + x) 0))
      → (x : ℕ) → x < n → P x (get_or written (heads_from n + x) 0) (get_or written (lasts_from n + x) 0)
  written_at P here there x g =
      let s₁ = set s (heads_from n + j) v in
      let head = get_or-set_other s₁ (lasts_from n + j) (heads_from n + j) w 0 (omega arith) ∙ get_or-set_same s (heads_from n + j) v 0 (omega (arith, sp.long)) in
      let last = get_or-set_same s₁ (lasts_from n + j) w 0 (simp length-set (omega (arith, sp.long))) in
      elim (ℕ_discrete x j) [
        | yes e ↦ rw (e, head, last) here
        | no e ↦ rw (other (heads_from n + x) (omega arith) (omega arith), other (lasts_from n + x) (omega arith) (omega arith)) (there x g e)
      ]

-- a part of k slots from slot a on that is filled with 0
module _ (a k : ℕ) (s z : List ℕ) (fits : a + k ≤ length s) (e : z ≡ replicate (length (mid_of a k s)) 0) where
  part-size : length (mid_of a k s) ≡ k
  part-size = length-take-le k (drop a s) (omega (arith, length-drop a s))

  filled-size : length z ≡ k
  filled-size = ap length e ∙ length-replicate (length (mid_of a k s)) 0 ∙ part-size

  fill-kept : length (put_mid a k s z) ≡ length s
  fill-kept = same_len_mid a k s z (filled-size ∙ sym part-size)

  fill-in : (q : ℕ) → a ≤ q → q < a + k → get_or (put_mid a k s z) q 0 ≡ 0
  fill-in q l h =
      sym (get_or-take (a + k) (put_mid a k s z) q 0 h) ∙ ap (λ u. get_or u q 0) (take-put_mid a k s z (a + k) (omega (arith, filled-size)) (omega arith))
      ∙ get_or-append_right (take a s) z a q 0 (length-take-le a s (omega arith)) l ∙ rw e (get_or-replicate (length (mid_of a k s)) (q - a) 0 0 (omega (arith, part-size)))

  fill-out : (q : ℕ) → (a ≤ q → a + k ≤ q) → get_or (put_mid a k s z) q 0 ≡ get_or s q 0
  fill-out q w = elim (dec_lt q a) [
    | yes h ↦ sym (get_or-take a (put_mid a k s z) q 0 h) ∙ ap (λ u. get_or u q 0) (take-put_mid_below a k s z a (omega arith) (omega arith)) ∙ get_or-take a s q 0 h
    | no h ↦ past (w (omega arith))
  ]
    where
      past : a + k ≤ q → get_or (put_mid a k s z) q 0 ≡ get_or s q 0
      past b =
          let d = q - (a + k) in
          let m : a + k + d ≡ q = omega arith in
          rw m at (sym (get_or-drop (a + k) (put_mid a k s z) d 0) ∙ ap (λ u. get_or u d 0) (drop-put_mid a k s z (a + k) (omega arith) (omega arith) filled-size) ∙ get_or-drop (a + k) s d 0)

-- the heads and the last rows are filled with 0
module _ (n k m : ℕ) (s z w : List ℕ) (room : Room n s) (ek : k ≡ n) (em : m ≡ n)
    (ez : z ≡ replicate (length (mid_of (heads_from n) k s)) 0) (ew : w ≡ replicate (length (mid_of (lasts_from n) m (put_mid (heads_from n) k s z))) 0) where
  abbrev heads : List ℕ
  heads = put_mid (heads_from n) k s z

  abbrev lasts : List ℕ
  lasts = put_mid (lasts_from n) m heads w

  first : heads_from n + k ≤ length s
  first = omega (arith, room.long)

  second : lasts_from n + m ≤ length heads
  second = omega (arith, room.long, fill-kept (heads_from n) k s z first ez)

  last_at : (j : ℕ) → j < n → get_or lasts (lasts_from n + j) 0 ≡ 0
  last_at j h = fill-in (lasts_from n) m heads w second ew (lasts_from n + j) (omega arith) (omega arith)

  head_of : (j : ℕ) → j < n → get_or lasts (heads_from n + j) 0 ≡ 0
  head_of j h =
      fill-out (lasts_from n) m heads w second ew (heads_from n + j) (λ g. omega arith)
      ∙ fill-in (heads_from n) k s z first ez (heads_from n + j) (omega arith) (omega arith)

  pub both-cleared : Tally n bare s lasts
  unfolding bare
  both-cleared = record {
    kept = record {
      size = fill-kept (lasts_from n) m heads w second ew ∙ fill-kept (heads_from n) k s z first ez;
      slots = λ q a b. fill-out (lasts_from n) m heads w second ew q (λ g. omega (arith, b g)) ∙ fill-out (heads_from n) k s z first ez q (λ g. omega (arith, a (omega arith)));
    };
    counting = record { counts = record { slot = λ j a b. head_of j b }; lasts = λ j b i. ne_eqb _ (i + 1) (omega (arith, last_at j b)) };
  }

-- a row counted for a column, where it is not yet
pub one-counted : {n i j : ℕ} {s u : List ℕ} → Room n s → j < n → (get_or s (lasts_from n + j) 0 ≡ i + 1 → ⊥)
    → u ≡ set (set s (heads_from n + j) (get_or s (heads_from n + j) 0 + 1)) (lasts_from n + j) (i + 1) → Counted n i (j ∷ []) s u
one-counted {n} {i} {j} {s} sp h o e = let c₀ = get_or s (heads_from n + j) 0 in rw e (record {
  kept = written-kept n j (c₀ + 1) (i + 1) s sp h;
  grow = λ f c.
      let new = hits-here i j f (sym (c.lasts j h i) ∙ ne_eqb (get_or s (lasts_from n + j) 0) (i + 1) o) in
      let at = written_at n j (c₀ + 1) (i + 1) s sp h (λ x a b. (a ≡ length (hits i (j ∷ []) f x)) × ((k : ℕ) → eqb b (k + 1) ≡ leads k (hits i (j ∷ []) f x)))
      (rw new (omega (arith, c.counts.slot j (omega arith) h), λ k. rw (add-one i, add-one k) (eqb-suc-suc i k)))
      (λ x g q. rw (hits-there i j f x (λ v. q (sym v))) (c.counts.slot x (omega arith) g, c.lasts x g)) in
      record { counts = record { slot = λ x a b. (at x b).0 }; lasts = λ x b. (at x b).1 };
})

-- a row that is counted there already
pub counted-before : {n i j : ℕ} {s : List ℕ} → j < n → get_or s (lasts_from n + j) 0 ≡ i + 1 → Counted n i (j ∷ []) s s
counted-before {n} {i} {j} {s} h e = record {
  kept = same s;
  grow = λ f c. rw (hits-again i j f (sym (c.lasts j h i) ∙ eq-eqb (get_or s (lasts_from n + j) 0) (i + 1) e)) c;
}

pub count_room : {n i j : ℕ} {xs s₀ s : List ℕ} → i < n → j < n → Countable n i s₀ → Counted n i xs s₀ s → get_or s (heads_from n + j) 0 ≤ n
count_room {n} {i} {j} {xs} h g r a =
    omega (arith, (a.grow r.f r.counting).counts.slot j (omega arith) g, hits-bounds i xs r.f j, r.few j)

pub tally-start : {n : ℕ} (R : ℕ → List ℕ) {s : List ℕ} → Counting n s bare → Tally n (column R 0) s s
tally-start R {s} c = record { kept = same s; counting = rw (column-zero R) c }

pub tally-room : (n k : ℕ) (R : ℕ → List ℕ) {s₀ s : List ℕ} → Tally n (column R k) s₀ s → Countable n k s
tally-room n k R t = record { f = column R k; counting = t.counting; few = column-few R k }

pub tally-more : (n k : ℕ) (R : ℕ → List ℕ) {xs s₀ s u : List ℕ} → xs ≡ R k → Tally n (column R k) s₀ s → Counted n k xs s u → Tally n (column R (k + 1)) s₀ u
tally-more n k R e t c = record {
  kept = then t.kept c.kept;
  counting = rw (column-more R k, ← e) (c.grow (column R k) t.counting);
}

pub tally-end : (n k : ℕ) (R : ℕ → List ℕ) {s₀ s : List ℕ} → k ≡ n → Tally n (column R k) s₀ s → Tally n (column R n) s₀ s
tally-end n k R e t = rw e at t

pub started : (n : ℕ) (starts columns r : List ℕ) {s₀ s u : List ℕ} → Tally n bare s₀ s → Tally n (column (places_by_row (order_of n s) starts columns r) n) s u
    → Started n (places_by_row (order_of n s₀) starts columns r) s₀ u
started n starts columns r a b = rw (← order-kept n 0 n a.kept) (record {
  kept = then a.kept b.kept;
  ready = record {
    least = omega arith;
    most = omega arith;
    lists = record { chain = λ j x y. absurd (omega arith); heads = λ j x y. absurd (omega arith) };
    counts = b.counting.counts;
  };
})

-- ---- the window's opening

sum-next : (m : ℕ) (f : ℕ → ℕ) → sum (suc m) f ≡ sum m f + f m
unfolding sum
sum-next m f = refl

sum-none : (f : ℕ → ℕ) → sum 0 f ≡ 0
unfolding sum
sum-none f = refl

head-is : (n lo m j : ℕ) (s : List ℕ) → lo + m ≡ j → head_at n s lo m ≡ get_or s (heads_from n + j) 0
unfolding head_at
head-is n lo m j s e = rw e

pub record Opening (n lo hi left : ℕ) (s₀ s : List ℕ) : Type 0 where
  pub kept : HeadsKept n lo hi s₀ s
  pub least : lo ≤ hi
  pub most : hi ≤ n
  pub zero : (j : ℕ) → lo ≤ j → j < hi → get_or s (heads_from n + j) 0 ≡ 0
  pub total : left + sum (hi - lo) (head_at n s₀ lo) ≡ n

pub open-start : (n lo : ℕ) (s : List ℕ) → lo ≤ n → Opening n lo lo n s s
open-start n lo s h =
    let e : lo - lo ≡ 0 = omega arith in
    record { kept = same s; least = omega arith; most = h; zero = λ j a b. absurd (omega arith); total = rw e (omega (arith, sum-none (head_at n s lo))) }

pub open_more : {n lo hi left c : ℕ} {s₀ s : List ℕ} → Room n s₀ → hi < n → c ≡ get_or s (heads_from n + hi) 0 → c ≤ left
    → Opening n lo hi left s₀ s → Opening n lo (hi + 1) (left - c) s₀ (set s (heads_from n + hi) 0)
open_more {n} {lo} {hi} {left} {c} {s₀} {s} sp h ec hc m =
    let l = m.least in
    let d : hi + 1 - lo ≡ suc (hi - lo) = omega arith in
    let v : head_at n s₀ lo (hi - lo) ≡ c
    = head-is n lo (hi - lo) hi s₀ (omega arith) ∙ sym (m.kept.slots (heads_from n + hi) (λ g. omega arith) (λ g. omega arith)) ∙ sym ec in
    record {
      kept = then (kept-wider n lo hi lo (hi + 1) (omega arith) (omega arith) m.kept) (head-kept n lo (hi + 1) hi 0 s l (omega arith) (omega arith));
      least = omega arith;
      most = omega arith;
      zero = λ j a b. elim (ℕ_discrete j hi) [
        | yes e ↦ rw e (get_or-set_same s (heads_from n + hi) 0 0 (omega (arith, sp.long, m.kept.size)))
        | no e ↦ get_or-set_other s (heads_from n + hi) (heads_from n + j) 0 0 (omega arith) ∙ m.zero j a (omega arith)
      ];
      total = rw d (omega (arith, sum-next (hi - lo) (head_at n s₀ lo), v, m.total));
    }

pub open-stop : {n lo hi left c : ℕ} {s₀ s : List ℕ} → hi < n → c ≡ get_or s (heads_from n + hi) 0 → left < c → Opening n lo hi left s₀ s → Emptied n lo hi s₀ s
open-stop {n} {lo} {hi} {left} {c} {s₀} {s} h ec hc m = record {
  kept = m.kept;
  least = m.least;
  most = m.most;
  zero = m.zero;
  total = omega (arith, m.total);
  some = λ a b. go b (ℕ_discrete lo hi);
}
  where
    go : get_or s₀ (heads_from n + lo) 0 ≤ n → Dec (lo ≡ hi) → lo < hi
    go b (no q) = omega (arith, m.least)
    go b (yes q) =
        let d : hi - lo ≡ 0 = omega arith in
        let t : left + sum 0 (head_at n s₀ lo) ≡ n = rw d at m.total in
        let v : c ≡ get_or s₀ (heads_from n + lo) 0 = rw q (ec ∙ m.kept.slots (heads_from n + hi) (λ g. omega arith) (λ g. omega arith)) in
        absurd (omega (arith, t, v, sum-none (head_at n s₀ lo)))

pub open-end : {n lo hi left : ℕ} {s₀ s : List ℕ} → n ≤ hi → Opening n lo hi left s₀ s → Emptied n lo hi s₀ s
open-end h m = record { kept = m.kept; least = m.least; most = m.most; zero = m.zero; total = omega (arith, m.total); some = λ a b. omega arith }

-- ---- the window's filling

pub record Filling (n lo hi k : ℕ) (R : ℕ → List ℕ) (s₀ s : List ℕ) (p : ℕ) : Type 0 where
  pub kept : HeadsKept n lo hi s₀ s
  pub listed : Listed n lo hi s p (column R k)

held-bare : (lo m : ℕ) → sum m (length_at bare lo) ≡ 0
unfolding sum length_at bare
held-bare lo zero = refl
held-bare lo (suc m) = omega (arith, held-bare lo m)

bare-chain : (n : ℕ) (s : List ℕ) (j : ℕ) → Chain n s 0 (bare j)
unfolding bare
bare-chain n s j = none

pub fill_start : (n lo hi : ℕ) (R : ℕ → List ℕ) (s : List ℕ) → ((j : ℕ) → lo ≤ j → j < hi → get_or s (heads_from n + j) 0 ≡ 0) → Filling n lo hi 0 R s s 0
unfolding held column
fill_start n lo hi R s z = record {
  kept = same s;
  listed = record {
    lists = record {
      chain = λ j a b. rw (z j a b) (bare-chain n s j);
      heads = λ j a b. omega (arith, z j a b);
    };
    count = sym (held-bare lo (hi - lo));
  };
}

pub fill-room : {n lo hi k : ℕ} {R : ℕ → List ℕ} {xs s₀ s : List ℕ} {p : ℕ} → k < n → held lo hi (column R n) ≤ n → xs ≡ R k → Filling n lo hi k R s₀ s p
    → Roomy n lo hi k xs s p
fill-room {n} {lo} {hi} {k} {R} h r e a = record {
  f = column R k;
  listed = a.listed;
  room = rw (e, ← column-more R k) (omega (arith, r, held-at-most lo hi (column R (k + 1)) (column R n) (λ j. column-part R (k + 1) n j (omega arith))));
}

pub fill_more : {n lo hi k : ℕ} {R : ℕ → List ℕ} {xs s₀ s u : List ℕ} {p p' : ℕ} → xs ≡ R k → Filling n lo hi k R s₀ s p → Offered n lo hi k xs s u p p'
    → Filling n lo hi (k + 1) R s₀ u p'
fill_more {k = k} {R = R} e a b = record {
  kept = then a.kept b.kept;
  listed = rw (column-more R k, ← e) (b.grow (column R k) a.listed);
}

pub fill_end : {n lo hi k : ℕ} {R : ℕ → List ℕ} {s₀ s : List ℕ} {p : ℕ} → k ≡ n → held lo hi (column R n) ≤ n → Filling n lo hi k R s₀ s p → Filled n lo hi (column R n) s₀ s
fill_end {n} {lo} {hi} {k} {R} {s₀} {s} {p} e h f =
    let g : Listed n lo hi s p (column R n) = rw e at f.listed in
    record { kept = f.kept; lists = record { chain = g.lists.chain; heads = λ j a b. omega (arith, g.lists.heads j a b, g.count) } }

-- ---- the window

-- the counts say that the window's entries fit
pub window-fits : {n k hi end : ℕ} {R Q : ℕ → List ℕ} {s₀ s : List ℕ} → Q ≡ R → hi ≤ k → Ready n k hi R s₀ → Emptied n k end s₀ s → held k end (column Q n) ≤ n
unfolding held length_at head_at
window-fits {n} {k} {hi} {end} {R} {Q} {s₀} e h r m =
    let l = m.least in
    let g = m.most in
    rw (e, sum-ext (end - k) (length_at (column R n) k) (head_at n s₀ k) (λ j a. sym (r.counts.slot (k + j) (omega arith) (omega arith)))) m.total

pub window-made : (n k hi end : ℕ) (R Q : ℕ → List ℕ) {s₀ s u : List ℕ} → Q ≡ R → k < n → hi ≤ k → Ready n k hi R s₀
    → Emptied n k end s₀ s → Filled n k end (column Q n) s u → Windowed n k end R s₀ u
window-made n k hi end R Q q h g r m f' =
    let f = rw q at f' in
    let w = then m.kept f.kept in
    let l = m.least in
    let e = m.most in
    record {
      kept = kept-wider n k end k n (omega arith) (omega arith) w;
      has = m.some h (omega (arith, r.counts.slot k g h, column-few R n k));
      ready = record {
        least = l;
        most = e;
        lists = f.lists;
        counts = record { slot = λ j a b. w.slots (heads_from n + j) (λ v. omega arith) (λ v. omega arith) ∙ r.counts.slot j (omega arith) b };
      };
    }

-- ---- the column of place k

pub window-list : {n k hi h : ℕ} {R : ℕ → List ℕ} {s₀ s : List ℕ} → Windowed n k hi R s₀ s → h ≡ get_or s (heads_from n + k) 0 → Chain n s h (column R n k)
window-list {k = k} w e = rw e (w.ready.lists.chain k (omega arith) w.has)

pub window-head : {n k hi h : ℕ} {R : ℕ → List ℕ} {s₀ s : List ℕ} → Windowed n k hi R s₀ s → h ≡ get_or s (heads_from n + k) 0 → HasChain n s h
window-head {n} {k} {hi} {h} {R} w e = record { room = omega (arith, w.ready.lists.heads k (omega arith) w.has); list = column R n k; chain = window-list w e }

-- columns can be handed out as before where their heads and the nodes are the same
pub ready-steady : {n k hi : ℕ} {R : ℕ → List ℕ} {s u : List ℕ} → Steady n k s u → Ready n k hi R s → Ready n k hi R u
ready-steady {n} {k} {hi} {R} d r =
    let l = r.least in
    record {
      least = l;
      most = r.most;
      lists = lists-frame r.most d r.lists;
      counts = record { slot = λ j a b. d.heads j (omega arith) b ∙ r.counts.slot j a b };
    }

-- the next column is due
ready-next : {n k hi : ℕ} {R : ℕ → List ℕ} {s : List ℕ} → k < hi → Ready n k hi R s → Ready n (k + 1) hi R s
ready-next h r = record {
  least = omega arith;
  most = r.most;
  counts = r.counts;
  lists = record { chain = λ j a b. r.lists.chain j (omega arith) b; heads = λ j a b. r.lists.heads j (omega arith) b };
}

pub loaded : {n t k hi : ℕ} {R : ℕ → List ℕ} {s₀ s u : List ℕ} → Room n s₀ → Windowed n k hi R s₀ s → u ≡ stamped n t s (column R n k) → Loaded n t k hi R s₀ u
loaded {n} {t} {k} {hi} {R} {s₀} {s} sp w e =
    let l = column R n k in
    let b : Below n l = below-column n R n k (omega arith) in
    rw e (record {
      marks = both-stamped n t s₀ s l sp b w.kept;
      ready = ready-steady (steady-unmarked n (k + 1) (unmarked-stamped n t s l b)) (ready-next w.has w.ready);
    })
