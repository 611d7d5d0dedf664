-- Laws of the cuts.
use Rattle.std.specs.Prelude.{◌≡◌, refl, List, [], ◌∷◌, Bool, true, false, ℕ, suc, ◌+◌, ◌-◌, ◌<◌, ◌≤◌, length, get_or, take, drop, set, eqb}
use Rattle.std.proofs.Common.{arith, add-one, add-zero, length-set, drop-cons, get_or-set_other, eq-eqb, ne_eqb}
use Rattle.std.proofs.Math.Seq.{drop-length}
use Rattle.marks.specs.Marks.{pick, Unmarked, Base, part_at, upto, unless, cut_one, visited, new_cuts}

-- ---- parts of the lists

pub cut-is : (s : List ℕ) (cuts : ℕ) (runs index : List ℕ) (i a c : ℕ) → a ≡ get_or runs i 0 → c ≡ get_or s (cuts + i) 0
    → take (a + c - a) (drop a index) ≡ part_at s cuts runs index i
unfolding part_at
cut-is s cuts runs index i a c ea ec = let e : a + c - a ≡ c = omega arith in rw (e, ea, ec)

-- marks leave the cuts as they were
pub cut-unmarked : (n cuts i : ℕ) (s₀ s : List ℕ) → Base n cuts → Unmarked n s₀ s → get_or s (cuts + i) 0 ≡ get_or s₀ (cuts + i) 0
cut-unmarked n cuts i s₀ s b h = let l = b.low in h.slots (cuts + i) (λ q. omega arith) (λ q. omega arith)

-- ---- as far as place k

pub upto-cons : (k x : ℕ) (l : List ℕ) → upto k (x ∷ l) ≡ suc (unless (eqb x k) (upto k l))
unfolding upto
upto-cons k x l = refl

pub upto-hit : (k : ℕ) (l : List ℕ) (p : ℕ) → p < length l → get_or l p 0 ≡ k → p + upto k (drop p l) ≡ p + 1
upto-hit k l p h e = rw (drop-cons l p 0 h, upto-cons k (get_or l p 0) (drop (suc p) l), eq-eqb (get_or l p 0) k e)

pub upto-miss : (k : ℕ) (l : List ℕ) (p : ℕ) → p < length l → (get_or l p 0 ≡ k → ⊥) → p + 1 + upto k (drop (p + 1) l) ≡ p + upto k (drop p l)
upto-miss k l p h d = rw (add-one, drop-cons l p 0 h, upto-cons k (get_or l p 0) (drop (suc p) l), ne_eqb (get_or l p 0) k d) (omega arith)

pub upto-end : (k : ℕ) (l : List ℕ) (p : ℕ) → length l ≡ p → p + upto k (drop p l) ≡ p
unfolding upto
upto-end k l p h = rw (← h, drop-length) (add-zero (length l))

unless-le : (b : Bool) (m : ℕ) → unless b m ≤ m
unless-le true m = omega arith
unless-le false m = omega arith

pub upto_le : (k : ℕ) (l : List ℕ) → upto k l ≤ length l
unfolding upto
upto_le k [] = omega arith
upto_le k (x ∷ l) = omega (arith, unless-le (eqb x k) (upto k l), upto_le k l)

-- ---- one list is cut

pub cut-yes : (cuts k : ℕ) (T : ℕ → List ℕ) (i : ℕ) (s l : List ℕ) (c : ℕ) → T i ≡ l → get_or s (cuts + i) 0 ≡ length l → c ≡ upto k l
    → set s (cuts + i) c ≡ cut_one cuts k T i s
unfolding cut_one
cut-yes cuts k T i s l c e h q = rw (e, q, eq-eqb (get_or s (cuts + i) 0) (length l) h)

pub cut-no : (cuts k : ℕ) (T : ℕ → List ℕ) (i : ℕ) (s l : List ℕ) → T i ≡ l → (get_or s (cuts + i) 0 ≡ length l → ⊥) → s ≡ cut_one cuts k T i s
unfolding cut_one
cut-no cuts k T i s l e h = rw (e, ne_eqb (get_or s (cuts + i) 0) (length l) h)

pick_same : (b : Bool) (s u : List ℕ) (q : ℕ) → get_or u q 0 ≡ get_or s q 0 → get_or (pick b u s) q 0 ≡ get_or s q 0
pick_same true s u q e = e
pick_same false s u q e = refl

-- only the cut of list i changes
pub cut-other : (cuts k : ℕ) (T : ℕ → List ℕ) (i : ℕ) (s : List ℕ) (q : ℕ) → (q ≡ cuts + i → ⊥) → get_or (cut_one cuts k T i s) q 0 ≡ get_or s q 0
unfolding cut_one
cut-other cuts k T i s q d = pick_same (eqb (get_or s (cuts + i) 0) (length (T i))) s (set s (cuts + i) (upto k (T i))) q (get_or-set_other s (cuts + i) q (upto k (T i)) 0 d)

pick-length : (b : Bool) (s u : List ℕ) → length u ≡ length s → length (pick b u s) ≡ length s
pick-length true s u e = e
pick-length false s u e = refl

pub cut-length : (cuts k : ℕ) (T : ℕ → List ℕ) (i : ℕ) (s : List ℕ) → length (cut_one cuts k T i s) ≡ length s
unfolding cut_one
cut-length cuts k T i s = pick-length (eqb (get_or s (cuts + i) 0) (length (T i))) s (set s (cuts + i) (upto k (T i))) (length-set s (cuts + i) (upto k (T i)))

pub renewed : (t cuts k : ℕ) (T : ℕ → List ℕ) (c : ℕ) (s u v : List ℕ) → u ≡ visited t (cut_one cuts k T) 0 k s → v ≡ set u (cuts + k) c → v ≡ new_cuts t cuts k T c s
unfolding new_cuts
renewed t cuts k T c s u v e f = rw (f, e)
