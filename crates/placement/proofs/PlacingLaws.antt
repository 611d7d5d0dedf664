-- The shared and the plain way of placing are sound, and every list stands where its run starts.
use Prim.Native.Nat.{ℕ, zero, suc, ◌+◌, ◌-◌, ◌≤◌, ◌<◌, min}
use Rattle.std.specs.Prelude.{◌≡◌, refl, length, drop, get_or, ltb, eqb}
use Rattle.std.proofs.Common.{sym, ◌∙◌, ⊎_elim, length-append, length-drop, drop-drop, ltb-true, ltb-false, eqb-true, lt-ltb}
use mathlib.Core.List.Memᴰ
use mathlib.Core.List.{List, [], ◌∷◌, ◌++◌, Memᴰ}
use native.Mathlib.Omega.{arith}
use Rattle.std.proofs.Math.ListN.{get_or-append}
use Rattle.std.proofs.lemmas.List.{get_or_at}
use Rattle.std.proofs.Math.Seq.{take-length}
use Rattle.std.proofs.lemmas.Bool.{eqb-false}
use Rattle.placement.specs.Placing.{count_above, tails, Tail, best_from, best, agree, Plan, append_all, fresh, meets, overlap, tail_or, shared, plain, Way, State, run_of, plan_at, placed, start_of, after}
use Rattle.placement.specs.ListLaws.{take-drop, count-le}
use Rattle.placement.proofs.ListLaws.{agree-take}
use Rattle.base.specs.Tests.{by-test}
use Rattle.placement.specs.PlacingLaws.{Sound, Holds, holds-append, sound-holds, Fed, tail-is, Nested, Kept, SoundWay}

append-sound : (slots list : List ℕ) → Sound slots list (append_all slots)
unfolding append_all
append-sound slots list = record { within = omega arith; part = omega arith; stands = refl; ends = λ h. omega arith }

fresh-sound : (slots list : List ℕ) → Sound slots list (fresh slots list)
unfolding fresh
fresh-sound slots list = append-sound slots list

overlap-sound : (s : State) (list : List ℕ) → Sound s.slots list (overlap s list)
unfolding overlap
overlap-sound s list =
    by-test (ltb (meets s list) (length s.slots))
    (λ e.
    by-test (agree (drop (meets s list) s.slots) list)
    (λ f.
    rw (e, f)
    (let h : meets s list < length s.slots = ltb-true _ _ e in
    record {
      within = omega arith;
      part = omega arith;
      stands = agree-take (min (length list) (length s.slots - meets s list)) (drop (meets s list) s.slots) list (simp length-drop (omega arith)) (omega arith) f;
      ends = λ g. omega arith;
    }))
    (λ f. rw (e, f) (fresh-sound s.slots list)))
    (λ e. rw e (fresh-sound s.slots list))

-- ---- the best tail
best-in : (f : ℕ → ℕ) (j : ℕ) (row : List ℕ) → Memᴰ (best_from f j (f j) row).at (j ∷ row) × (f (best_from f j (f j) row).at ≡ (best_from f j (f j) row).most)
unfolding best_from
best-in f j [] = (Memᴰ.head refl, refl)
best-in f j (l ∷ row) =
    by-test (ltb (f j) (f l))
    (λ e. rw e (Memᴰ.tail (best-in f l row).0, (best-in f l row).1))
    (λ e.
    rw e
    (⊎_elim (λ p. Memᴰ.head p) (λ q. Memᴰ.tail (Memᴰ.tail q)) (Memᴰ.cases_cons (best-in f j row).0), (best-in f j row).1))

-- unless f is 0 throughout, the best place is one of the row, and f is there what it says
pub best-at : (f : ℕ → ℕ) (row : List ℕ) → 0 < (best f row).most → Memᴰ (best f row).at row × (f (best f row).at ≡ (best f row).most)
unfolding best_from
best-at f [] = λ h. absurd (omega arith)
best-at f (j ∷ js) =
    by-test (ltb 0 (f j))
    (λ e. rw e (λ h. best-in f j js))
    (λ e. rw e (λ h. let q = best-at f js h in (Memᴰ.tail q.0, q.1)))

-- no place of the row has more
best-least : (f : ℕ → ℕ) (i m : ℕ) (row : List ℕ) → m ≤ (best_from f i m row).most
unfolding best_from
best-least f i m [] = omega arith
best-least f i m (j ∷ js) =
    by-test (ltb m (f j)) (λ e. rw e (omega (arith, ltb-true m (f j) e, best-least f j (f j) js))) (λ e. rw e (best-least f i m js))

pub best-most : (f : ℕ → ℕ) (i m x : ℕ) (row : List ℕ) → Memᴰ x row → f x ≤ (best_from f i m row).most
unfolding best_from
best-most f i m x [] d = absurd (Memᴰ.not-nil d)
best-most f i m x (j ∷ js) d =
    by-test (ltb m (f j))
    (λ e. rw e (⊎_elim (λ p. rw p (best-least f j (f j) js)) (λ q. best-most f j (f j) x js q) (Memᴰ.cases_cons d)))
    (λ e. rw e (⊎_elim (λ p. rw p (omega (arith, ltb-false m (f j) e, best-least f i m js))) (λ q. best-most f i m x js q) (Memᴰ.cases_cons d)))

tail-sound : (slots : List ℕ) (r c : ℕ) (xs ys : List ℕ) → Holds slots r xs → c ≤ length xs → length ys ≡ c → drop (length xs - c) xs ≡ ys
    → Sound slots ys (record { start = r + (length xs - c); have = length ys })
tail-sound slots r c xs ys h k e d =
    let a : ℕ = length xs - c in
    let n : a + length ys ≡ length xs = omega arith in
    record {
      within = omega (arith, h.inside);
      part = omega arith;
      stands = rw (← drop-drop a r slots, take-drop a (length ys) (drop r slots), n, h.reads, d, take-length ys);
      ends = λ g. absurd (omega arith);
    }

pub shared-sound : (T : ℕ → List ℕ) (s : State) (k : ℕ) (row : List ℕ) → Fed T s k row → Sound s.slots (T k) (shared T s k row (T k))
unfolding shared tail_or tails
shared-sound T s k row f =
    by-test (eqb (length (T k)) 0)
    (λ e. rw e (append-sound s.slots (T k)))
    (λ e.
    rw e
    (by-test (eqb b.most (length (T k)))
    (λ t.
    rw t
    (let q : b.most ≡ length (T k) = eqb-true b.most (length (T k)) t in
    let pos : 0 < b.most = omega (arith, eqb-false (length (T k)) 0 e) in
    let m = best-at (tails T k) row pos in
    let c : count_above k (T b.at) ≡ b.most = m.1 in
    tail-sound s.slots (run_of s b.at) b.most (T b.at) (T k) (f.held b.at m.0)
    (omega (arith, count-le k (T b.at)))
    (sym q)
    (rw (← c) (tail-is k (suc b.at) (T b.at) (T k) (f.asc b.at m.0) f.own (f.nested b.at m.0) (c ∙ q)))))
    (λ t. rw t (overlap-sound s (T k)))))
  where
    b : Tail
    b = best (tails T k) row

pub after_kept : (T : ℕ → List ℕ) (s : State) (k : ℕ) (p : Plan) → Kept T s k → Sound s.slots (T k) p → Kept T (after s (T k) p) (suc k)
unfolding after start_of
after_kept T s k p h q =
    record {
      count = simp length-append (omega (arith, h.count));
      all = λ i l.
          by-test (ltb i k)
          (λ t.
          let e : get_or (s.runs ++ (p.start ∷ [])) i 0 ≡ get_or s.runs i 0 = get_or-append s.runs (p.start ∷ []) 0 i (omega (arith, ltb-true i k t, h.count)) in
          rw e (holds-append s.slots (drop p.have (T k)) (run_of s i) (T i) (h.all i (ltb-true i k t))))
          (λ t.
          let e : i ≡ k = omega (arith, ltb-false i k t) in
          rw (e, get_or_at s.runs p.start [] 0 k h.count) (sound-holds s.slots (T k) p q));
      used = simp (length-append, length-drop) (omega (arith, h.used));
      ended =
          by-test (ltb p.have (length (T k)))
          (λ t. rw t (simp length-append (omega (arith, q.within))))
          (λ t. rw t (simp length-append (omega (arith, h.ended))));
    }

pub shared-way : (T R : ℕ → List ℕ) (n : ℕ) → Nested T R n → SoundWay shared T R n
shared-way T R n h k l s q =
    shared-sound T s k (R k)
    (record {
      held = λ i d. q.all i (h.lower k l i d);
      asc = λ i d. h.asc i (omega (arith, h.lower k l i d));
      own = h.asc k l;
      nested = h.above k l;
    })

pub plain-way : (T R : ℕ → List ℕ) (n : ℕ) → SoundWay plain T R n
unfolding plain
plain-way T R n k l s q = append-sound s.slots (T k)

module _ (way : Way) (T R : ℕ → List ℕ) (n : ℕ) (sound : SoundWay way T R n) where
  -- after placing 0 to k - 1 every list stands where its run starts, and the used slots are at most the entries
  pub placed-kept : (k : ℕ) → k ≤ n → Kept T (placed way T R k) k
  unfolding placed start_of
  placed-kept zero l = record { count = refl; all = λ i h. absurd (omega arith); used = omega arith; ended = omega arith }
  placed-kept (suc k) l =
      let h = placed-kept k (omega arith) in
      after_kept T (placed way T R k) k (plan_at way T R (placed way T R k) k) h (sound k l (placed way T R k) h)

-- ---- the first of the best
best-stays : (f : ℕ → ℕ) (i m : ℕ) (row : List ℕ) → (best_from f i m row).most ≡ m → (best_from f i m row).at ≡ i
unfolding best_from
best-stays f i m [] = λ e. refl
best-stays f i m (j ∷ js) =
    by-test (ltb m (f j))
    (λ t. rw t (λ e. absurd (omega (arith, ltb-true m (f j) t, best-least f j (f j) js))))
    (λ t. rw t (best-stays f i m js))

-- a place with as many as the best stands at the best or after it
pub best-first : (f : ℕ → ℕ) (i m x : ℕ) (pre post : List ℕ) → (best_from f i m (pre ++ x ∷ post)).most ≡ f x → m < f x
    → Memᴰ (best_from f i m (pre ++ x ∷ post)).at (pre ++ x ∷ [])
unfolding best_from
best-first f i m x [] post = λ e h. let t = lt-ltb m (f x) h in rw t (Memᴰ.head (best-stays f x (f x) post (rw t at e)))
best-first f i m x (y ∷ pre) post =
    by-test (ltb m (f y))
    (λ t. rw t (λ e h.
    by-test (ltb (f y) (f x))
    (λ u. Memᴰ.tail (best-first f y (f y) x pre post e (ltb-true (f y) (f x) u)))
    (λ u. Memᴰ.head (best-stays f y (f y) (pre ++ x ∷ post) (omega (arith, ltb-false (f y) (f x) u, best-least f y (f y) (pre ++ x ∷ post)))))))
    (λ t. rw t (λ e h. Memᴰ.tail (best-first f i m x pre post e h)))
