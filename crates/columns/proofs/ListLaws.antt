-- Laws of the linked lists: frames, the pushing of a node, the stamping of a list.
use mathlib.Core.Path.{◌≡◌, refl, sym, ap, ◌∙◌}
use mathlib.Core.List.{List, [], ◌∷◌}
use mathlib.Core.Bool.{Bool, true, false}
use Prim.Native.Nat.{ℕ, suc, ◌+◌, ◌-◌, ◌<◌, ◌≤◌}
use native.Mathlib.Omega.{arith}
use native.Mathlib.Numerals.{add-one}
use native.Mathlib.Decide.{ℕ_discrete}
use lib.ListN.{length, get_or, take, set, length-set}
use lib.Seq.{get_or-set_other, get_or-set_same}
use lib.Dec.{eqb}
use Rattle.marks.specs.Marks.{Room, mark_at, stamped}
use Rattle.columns.specs.Columns.{HeadsKept, Steady, leads, hits, Chain, none, node, HasChain, Leading, ColumnLists, Listed, Roomy, push_at, Offered}
use Rattle.marks.specs.MarkLaws.{unmarked-mark}
use Rattle.lent.specs.ReadingLaws.{same, then, stored}
use Rattle.columns.proofs.ColumnLaws.{hits-here, hits-there, hits-again, hits-bounds, hits_more, hits-part, held_one, held-ext, held-at-most}
use Rattle.base.specs.Scratch.{heads_from, nodes_from}

-- ---- frames

chain-frame : {n : ℕ} {s u : List ℕ} {h : ℕ} {l : List ℕ} → ((x : ℕ) → nodes_from n ≤ x → x < nodes_from n + (h + h) → get_or u x 0 ≡ get_or s x 0)
    → Chain n s h l → Chain n u h l
chain-frame k none = none
chain-frame {n} k (node {q} {h} lo le ei eh c) =
    node lo le (k (nodes_from n + (q + q)) (omega arith) (omega arith) ∙ ei) (k (nodes_from n + (q + q) + 1) (omega arith) (omega arith) ∙ eh)
    (chain-frame (λ x p r. k x p (omega arith)) c)

pub lists-frame : {n lo hi : ℕ} {s u : List ℕ} {f : ℕ → List ℕ} → hi ≤ n → Steady n lo s u → ColumnLists n lo hi s n f → ColumnLists n lo hi u n f
lists-frame {n} {lo} {hi} {s} {u} l k h = record {
  chain = λ j a b. rw (k.heads j a (omega arith)) (chain-frame (λ x c d. k.nodes x c (omega (arith, h.heads j a b))) (h.chain j a b));
  heads = λ j a b. rw (k.heads j a (omega arith)) (h.heads j a b);
}

-- ---- the pushing of a node

-- another slot
push-other : (n p i j x : ℕ) (s : List ℕ) → (x ≡ heads_from n + j → ⊥) → (x ≡ nodes_from n + (p + p) → ⊥) → (x ≡ nodes_from n + (p + p) + 1 → ⊥)
    → get_or (push_at n p i j s) x 0 ≡ get_or s x 0
push-other n p i j x s a b c =
    let b₁ = nodes_from n + (p + p) in
    get_or-set_other (set (set s b₁ i) (b₁ + 1) (get_or s (heads_from n + j) 0)) (heads_from n + j) x (p + 1) 0 a
    ∙ get_or-set_other (set s b₁ i) (b₁ + 1) x (get_or s (heads_from n + j) 0) 0 c ∙ get_or-set_other s b₁ x i 0 b

head-chain : {n : ℕ} {s l : List ℕ} {p h : ℕ} → h ≡ p + 1 → Chain n s (suc p) l → Chain n s h l
head-chain {p = p} e c = rw (e, add-one p) c

module _ (n p i j : ℕ) (s : List ℕ) (sp : Room n s) (hj : j < n) (hp : p < n) where
  push-head : get_or (push_at n p i j s) (heads_from n + j) 0 ≡ p + 1
  push-head =
      get_or-set_same (set (set s (nodes_from n + (p + p)) i) (nodes_from n + (p + p) + 1) (get_or s (heads_from n + j) 0)) (heads_from n + j) (p + 1) 0
      (simp length-set (omega (arith, sp.long)))

  push_row : get_or (push_at n p i j s) (nodes_from n + (p + p)) 0 ≡ i
  push_row =
      let b₁ = nodes_from n + (p + p) in
      get_or-set_other (set (set s b₁ i) (b₁ + 1) (get_or s (heads_from n + j) 0)) (heads_from n + j) b₁ (p + 1) 0 (omega arith)
      ∙ get_or-set_other (set s b₁ i) (b₁ + 1) b₁ (get_or s (heads_from n + j) 0) 0 (omega arith)
      ∙ get_or-set_same s b₁ i 0 (omega (arith, sp.long))

  push-rest : get_or (push_at n p i j s) (nodes_from n + (p + p) + 1) 0 ≡ get_or s (heads_from n + j) 0
  push-rest =
      let b₁ = nodes_from n + (p + p) in
      get_or-set_other (set (set s b₁ i) (b₁ + 1) (get_or s (heads_from n + j) 0)) (heads_from n + j) (b₁ + 1) (p + 1) 0 (omega arith)
      ∙ get_or-set_same (set s b₁ i) (b₁ + 1) (get_or s (heads_from n + j) 0) 0 (simp length-set (omega (arith, sp.long)))

  -- nodes below p, and other heads
  push-chain : {h : ℕ} {l : List ℕ} → h ≤ p → Chain n s h l → Chain n (push_at n p i j s) h l
  push-chain h c = chain-frame (λ x a b. push-other n p i j x s (omega arith) (omega arith) (omega arith)) c

  push_kept : (lo hi : ℕ) → lo ≤ j → j < hi → HeadsKept n lo hi s (push_at n p i j s)
  push_kept lo hi a b =
      then (stored s (nodes_from n + (p + p)) i (λ y x q e. omega (arith, q (omega arith))))
      (then (stored (set s (nodes_from n + (p + p)) i) (nodes_from n + (p + p) + 1) (get_or s (heads_from n + j) 0) (λ y x q e. omega (arith, q (omega arith))))
      (stored (set (set s (nodes_from n + (p + p)) i) (nodes_from n + (p + p) + 1) (get_or s (heads_from n + j) 0)) (heads_from n + j) (p + 1) (λ y x q e. omega (arith, x (omega arith)))))

  push-lists : (lo hi : ℕ) (f : ℕ → List ℕ) → i < n → lo ≤ j → j < hi → hi ≤ n → leads i (f j) ≡ false → ColumnLists n lo hi s p f
      → ColumnLists n lo hi (push_at n p i j s) (p + 1) (hits i (j ∷ []) f)
  push-lists lo hi f hi' hl hh hn new l = record { chain = λ x a b. chain-at x a b (ℕ_discrete j x); heads = λ x a b. head_at x a b (ℕ_discrete j x) }
    where
      other : (x : ℕ) → x < n → (j ≡ x → ⊥) → get_or (push_at n p i j s) (heads_from n + x) 0 ≡ get_or s (heads_from n + x) 0
      other x a q = push-other n p i j (heads_from n + x) s (λ e. q (omega arith)) (omega arith) (omega arith)

      chain-at : (x : ℕ) → lo ≤ x → x < hi → Dec (j ≡ x) → Chain n (push_at n p i j s) (get_or (push_at n p i j s) (heads_from n + x) 0) (hits i (j ∷ []) f x)
      chain-at x a b (yes q) =
          rw (← q, hits-here i j f new)
          (head-chain push-head (node hi' (l.heads j hl hh) push_row push-rest (push-chain (l.heads j hl hh) (l.chain j hl hh))))
      chain-at x a b (no q) = rw (hits-there i j f x q, other x (omega arith) q) (push-chain (l.heads x a b) (l.chain x a b))

      head_at : (x : ℕ) → lo ≤ x → x < hi → Dec (j ≡ x) → get_or (push_at n p i j s) (heads_from n + x) 0 ≤ p + 1
      head_at x a b (yes q) = rw (← q) (omega (arith, push-head))
      head_at x a b (no q) = omega (arith, other x (omega arith) q, l.heads x a b)

-- ---- an offer

-- an entry outside the window changes none of its lists
pub offer-out : (n lo hi i j p : ℕ) (s : List ℕ) → ((x : ℕ) → lo ≤ x → x < hi → j ≡ x → ⊥) → Offered n lo hi i (j ∷ []) s s p p
offer-out n lo hi i j p s h = record {
  kept = same s;
  grow = λ f l. record {
    lists = record {
      chain = λ x a b. rw (hits-there i j f x (h x a b)) (l.lists.chain x a b);
      heads = l.lists.heads;
    };
    count = l.count ∙ held-ext lo hi f (hits i (j ∷ []) f) (λ x a b. sym (hits-there i j f x (h x a b)));
  };
}

-- the list of a column in the window
pub offer-list : {n lo hi i j p : ℕ} {xs s : List ℕ} → lo ≤ j → j < hi → Roomy n lo hi i xs s p → HasChain n s (get_or s (heads_from n + j) 0)
offer-list {n} {lo} {hi} {i} {j} {xs = xs} a b r = record {
  room = omega (arith, r.listed.lists.heads j a b, r.listed.count, r.room, held-at-most lo hi r.f (hits i xs r.f) (λ x. (hits-bounds i xs r.f x).0));
  list = r.f j;
  chain = r.listed.lists.chain j a b;
}

led : {n lo hi i j p : ℕ} {s : List ℕ} {b c : Bool} {f : ℕ → List ℕ} → lo ≤ j → j < hi → Leading n i j s b → b ≡ c → Listed n lo hi s p f → leads i (f j) ≡ c
led {j = j} {f = f} hl hh d e l = d.told (f j) (l.lists.chain j hl hh) ∙ e

-- a row that leads its column changes no list
pub offer-again : {n lo hi i j p : ℕ} {s : List ℕ} {b : Bool} → lo ≤ j → j < hi → Leading n i j s b → b ≡ true → Offered n lo hi i (j ∷ []) s s p p
offer-again {i = i} {j = j} {s = s} hl hh d e = record { kept = same s; grow = λ f l. rw (hits-again i j f (led hl hh d e l)) l }

-- a free node for a new row in the window
pub offer-room : {n lo hi i j p : ℕ} {s : List ℕ} {b : Bool} → lo ≤ j → j < hi → Leading n i j s b → b ≡ false → Roomy n lo hi i (j ∷ []) s p → p < n
offer-room {n} {lo} {hi} {i} {j} hl hh d e r = omega (arith, r.listed.count, r.room, held_one lo hi i j r.f hl hh (led hl hh d e r.listed))

pub offer-push : {n lo hi i j p : ℕ} {s u : List ℕ} {b : Bool} → Room n s → p < n → hi ≤ n → i < n → lo ≤ j → j < hi → Leading n i j s b → b ≡ false → u ≡ push_at n p i j s
    → Offered n lo hi i (j ∷ []) s u p (p + 1)
offer-push {n} {lo} {hi} {i} {j} {p} {s} sp hp hn hi' hl hh d eb e = rw e (record {
  kept = push_kept n p i j s sp (omega arith) hp lo hi hl hh;
  grow = λ f l.
      let new = led hl hh d eb l in
      record {
        lists = push-lists n p i j s sp (omega arith) hp lo hi f hi' hl hh hn new l.lists;
        count = omega (arith, l.count, held_one lo hi i j f hl hh new);
      };
})

-- ---- a row's offers

pub row_room : {n lo hi i j : ℕ} {s₀ s : List ℕ} {p₀ p : ℕ} (q : ℕ) (xs : List ℕ) → q < length xs → j ≡ get_or xs q 0
    → Roomy n lo hi i xs s₀ p₀ → Offered n lo hi i (take q xs) s₀ s p₀ p → Roomy n lo hi i (j ∷ []) s p
row_room {n} {lo} {hi} {i} {j} q xs h e r a = record {
  f = hits i (take q xs) r.f;
  listed = a.grow r.f r.listed;
  room = rw (e, ← hits_more i q xs r.f h) (omega (
    arith,
    r.room,
    held-at-most lo hi (hits i (take (q + 1) xs) r.f) (hits i xs r.f) (hits-part i (q + 1) xs r.f),
  ));
}

-- ---- the front of a list

-- the first node of a chain
pub record Node (n : ℕ) (s : List ℕ) (h : ℕ) (l : List ℕ) : Type 0 where
  pub rest : List ℕ
  pub row : get_or s (nodes_from n + (h - 1 + (h - 1))) 0 < n
  pub next : get_or s (nodes_from n + (h - 1 + (h - 1)) + 1) 0 < h
  pub list : l ≡ get_or s (nodes_from n + (h - 1 + (h - 1))) 0 ∷ rest
  pub chain : Chain n s (get_or s (nodes_from n + (h - 1 + (h - 1)) + 1) 0) rest

first-node : {n : ℕ} {s : List ℕ} {h : ℕ} {l : List ℕ} → 0 < h → Chain n s h l → Node n s h l
first-node z none = absurd (omega arith)
first-node z (node {q} {h} {i} {l} lo le ei eh c) =
    let e : suc q - 1 ≡ q = omega arith in
    record { rest = l; row = rw e (omega (arith, ei)); next = rw e (omega (arith, eh)); list = rw (e, ei); chain = rw (e, eh) c }

chain-none : {n : ℕ} {s l : List ℕ} {h : ℕ} → h ≡ 0 → Chain n s h l → l ≡ []
chain-none e none = refl
chain-none e (node lo le ei eh c) = absurd (omega arith)

-- no list, or the first node's row
pub leads-none : {n i j h : ℕ} {s : List ℕ} → h ≡ get_or s (heads_from n + j) 0 → h ≡ 0 → Leading n i j s false
leads-none {i = i} e z = record { told = λ l c. ap (leads i) (chain-none (sym e ∙ z) c) }

pub leads-node : {n i j h v : ℕ} {s : List ℕ} → h ≡ get_or s (heads_from n + j) 0 → 0 < h → v ≡ get_or s (nodes_from n + (h - 1 + (h - 1))) 0 → Leading n i j s (eqb v i)
leads-node {i = i} e z ev = record { told = λ l c. ap (leads i) (first-node z (rw (← e) at c)).list ∙ ap (λ x. eqb x i) (sym ev) }

-- ---- the stamping of a list

-- what is left to stamp from the head h makes the buffer that the whole list makes
pub record Left (n t h : ℕ) (s e : List ℕ) : Type 0 where
  pub rest : List ℕ
  pub chain : Chain n s h rest
  pub same : stamped n t s rest ≡ e

stamped-cons : (n t j : ℕ) (s l : List ℕ) → stamped n t s (j ∷ l) ≡ stamped n t (mark_at n t s j) l
unfolding stamped
stamped-cons n t j s l = refl

stamped-none : (n t : ℕ) (s : List ℕ) → stamped n t s [] ≡ s
unfolding stamped
stamped-none n t s = refl

left-more : (n t h i g : ℕ) (s u e : List ℕ) → 0 < h → h ≤ n → i ≡ get_or s (nodes_from n + (h - 1 + (h - 1))) 0
    → g ≡ get_or s (nodes_from n + (h - 1 + (h - 1)) + 1) 0 → u ≡ mark_at n t s i → Left n t h s e → Left n t g u e
left-more n t h i g s u e z hn ei eg eu l =
    let d = first-node z l.chain in
    let k = unmarked-mark n t s i (omega (arith, d.row)) in
    rw (eu, eg) (record {
      rest = d.rest;
      chain = chain-frame (λ x a b. k.slots x (λ v. omega arith) (λ v. omega arith)) d.chain;
      same = sym (stamped-cons n t i s d.rest) ∙ ap (stamped n t s) (ap (λ v. v ∷ d.rest) ei ∙ sym d.list) ∙ l.same;
    })

pub left_end : {n t h : ℕ} {s e : List ℕ} → h ≡ 0 → Left n t h s e → s ≡ e
left_end {n} {t} {h} {s} z l = sym (stamped-none n t s) ∙ ap (stamped n t s) (sym (chain-none z l.chain)) ∙ l.same

-- every list that stood at the head is being stamped
pub record Walk (n t head h : ℕ) (s₀ s : List ℕ) : Type 0 where
  pub size : length s ≡ length s₀
  pub room : h ≤ n
  pub left : (l : List ℕ) → Chain n s₀ head l → Left n t h s (stamped n t s₀ l)

pub walk_start : (n t h : ℕ) (s : List ℕ) → h ≤ n → Walk n t h h s s
walk_start n t h s r = record { size = refl; room = r; left = λ l c. record { rest = l; chain = c; same = refl } }

-- the node at hand, by the list that is known to be there
pub walk-node : {n t head h : ℕ} {s₀ s : List ℕ} (w : Walk n t head h s₀ s) (k : HasChain n s₀ head) → 0 < h
    → Node n s h (w.left k.list k.chain).rest
walk-node w k z = first-node z (w.left k.list k.chain).chain

pub walk_more : {n t head h i g : ℕ} {s₀ s u : List ℕ} → HasChain n s₀ head → 0 < h
    → i ≡ get_or s (nodes_from n + (h - 1 + (h - 1))) 0 → g ≡ get_or s (nodes_from n + (h - 1 + (h - 1)) + 1) 0 → u ≡ mark_at n t s i
    → Walk n t head h s₀ s → Walk n t head g s₀ u
walk_more {n} {t} {head} {h} {i} {g} {s₀} {s} {u} k z ei eg eu w =
    let d = walk-node w k z in
    record {
      size = rw eu (simp length-set w.size);
      room = omega (arith, d.next, w.room);
      left = λ l c. left-more n t h i g s u (stamped n t s₀ l) z w.room ei eg eu (w.left l c);
    }
