-- Laws of the placing, for any way of placing whose plans are sound; the shared and the plain way are.
use Prim.Native.Nat.{ℕ, zero, suc, ◌+◌, ◌-◌, ◌≤◌, ◌<◌}
use Rattle.std.specs.Prelude.{◌≡◌, refl, Bool, ◌&&◌, length, take, drop, ltb, leb}
use Rattle.std.proofs.Common.{sym, ap, ◌∙◌, add-zero, add-suc, length-append, length-drop, take-append-drop, take_all, ltb-true, ltb-false}
use mathlib.Core.List.{List, [], ◌∷◌, ◌++◌, append-nil, append_assoc, Memᴰ}
use native.Mathlib.Omega.{arith}
use Rattle.std.proofs.Math.ListN.{get_or-append}
use Rattle.std.proofs.lemmas.List.{drop-append-le, get_or_at}
use Rattle.std.proofs.Math.Seq.{take-length}
use Rattle.placement.specs.Placing.{count_above, best_from, Plan, append_all, plain, Way, State, run_of, plan_at, placed, start_of, after}
use Rattle.placement.specs.ListLaws.{asc-least, Ascends, among-asc, among-drop, count-tail, part-append, count-le}
use Rattle.base.specs.Tests.{by-test}

-- a plan for a list over the used slots: what is said to stand there does, and unless that is all of the list, it ends where the used slots do
pub record Sound (slots list : List ℕ) (p : Plan) : Type 0 where
  pub within : p.start + p.have ≤ length slots
  pub part : p.have ≤ length list
  pub stands : take p.have (drop p.start slots) ≡ take p.have list
  pub ends : p.have < length list → p.start + p.have ≡ length slots

-- a part of a store that holds a list
pub record Holds (slots : List ℕ) (r : ℕ) (list : List ℕ) : Type 0 where
  pub inside : r + length list ≤ length slots
  pub reads : take (length list) (drop r slots) ≡ list

pub holds-append : (slots more : List ℕ) (r : ℕ) (list : List ℕ) → Holds slots r list → Holds (slots ++ more) r list
holds-append slots more r list h =
    record {
      inside = simp length-append (omega arith);
      reads = part-append r (length list) slots more h.inside ∙ h.reads;
    }

-- once what is lacking is appended the list stands at the plan's start
pub sound-holds : (slots list : List ℕ) (p : Plan) → Sound slots list p → Holds (slots ++ drop p.have list) p.start list
sound-holds slots list p s =
    by-test (ltb p.have (length list))
    (λ t.
    let q : p.start + p.have ≡ length slots = s.ends (ltb-true _ _ t) in
    let i : p.start ≤ length slots = omega arith in
    let short : length (drop p.start slots) ≤ p.have = simp length-drop (omega arith) in
    let d : drop p.start slots ≡ take p.have list = sym (take_all p.have (drop p.start slots) short) ∙ s.stands in
    record {
      inside = simp (length-append, length-drop) (omega (arith, s.part));
      reads = rw (drop-append-le p.start slots (drop p.have list) i, d, take-append-drop p.have list, take-length list);
    })
    (λ t.
    let e : p.have ≡ length list = omega (arith, ltb-false p.have (length list) t, s.part) in
    let i : p.start + length list ≤ length slots = omega (arith, s.within) in
    record {
      inside = simp (length-append, length-drop) (omega arith);
      reads = part-append p.start (length list) slots (drop p.have list) i ∙ (rw e at s).stands ∙ take-length list;
    })

-- only f at the places of the row counts
pub best-same : (f g : ℕ → ℕ) (i m : ℕ) (row : List ℕ) → ((x : ℕ) → Memᴰ x row → f x ≡ g x) → best_from f i m row ≡ best_from g i m row
unfolding best_from
best-same f g i m [] h = refl
best-same f g i m (j ∷ js) h =
    let e : f j ≡ g j = h j (Memᴰ.head refl) in
    let r : (x : ℕ) → Memᴰ x js → f x ≡ g x = λ x d. h x (Memᴰ.tail d) in
    rw (e, best-same f g j (g j) js r, best-same f g i m js r)

-- ---- steps 1 to 3

-- what is taken of the fill: for place k, its row's places have their lists in the store, and what stands above k in them is in k's list
pub record Fed (T : ℕ → List ℕ) (s : State) (k : ℕ) (row : List ℕ) : Type 0 where
  pub held : (i : ℕ) → Memᴰ i row → Holds s.slots (run_of s i) (T i)
  pub asc : (i : ℕ) → Memᴰ i row → Ascends (suc i) (T i)
  pub own : Ascends (suc k) (T k)
  pub nested : (i : ℕ) → Memᴰ i row → (x : ℕ) → Memᴰ x (T i) → k < x → Memᴰ x (T k)

-- the tail of a list that has as many entries above k as k's list is that list
pub tail-is : (k m : ℕ) (xs ys : List ℕ) → Ascends m xs → Ascends (suc k) ys → ((x : ℕ) → Memᴰ x xs → k < x → Memᴰ x ys)
    → count_above k xs ≡ length ys → drop (length xs - count_above k xs) xs ≡ ys
tail-is k m xs ys a b s e =
    let tail : List ℕ = drop (length xs - count_above k xs) xs in
    let t : Ascends (suc k) tail = count-tail k m xs a in
    (among-asc (suc k) ys tail t b (λ x d. s x (among-drop (length xs - count_above k xs) xs x d) (asc-least (suc k) x tail t d))).1
    (simp length-drop (omega (arith, count-le k xs)))

-- ---- every place

-- what is taken of the fill, for the places below n
pub record Nested (T R : ℕ → List ℕ) (n : ℕ) : Type 0 where
  pub lower : (k : ℕ) → k < n → (i : ℕ) → Memᴰ i (R k) → i < k
  pub asc : (k : ℕ) → k < n → Ascends (suc k) (T k)
  pub above : (k : ℕ) → k < n → (i : ℕ) → Memᴰ i (R k) → (x : ℕ) → Memᴰ x (T i) → k < x → Memᴰ x (T k)

-- a state in which the lists of places 0 to k - 1 stand
pub record Kept (T : ℕ → List ℕ) (s : State) (k : ℕ) : Type 0 where
  pub count : length s.runs ≡ k
  pub all : (i : ℕ) → i < k → Holds s.slots (run_of s i) (T i)
  pub used : length s.slots ≤ start_of T k
  pub ended : s.last ≤ length s.slots

-- a way of placing is sound if its plan is, wherever the lists before place k stand
abbrev pub SoundWay : Way → (T R : ℕ → List ℕ) → ℕ → Type 0
SoundWay way T R n = (k : ℕ) → k < n → (s : State) → Kept T s k → Sound s.slots (T k) (plan_at way T R s k)

-- the used slots only grow
pub placed-grows : (way : Way) (T R : ℕ → List ℕ) (k d : ℕ) → (more : List ℕ) × ((placed way T R (k + d)).slots ≡ (placed way T R k).slots ++ more)
unfolding placed after
placed-grows way T R k zero = ([], rw add-zero (sym (append-nil (placed way T R k).slots)))
placed-grows way T R k (suc d) =
    let r = placed-grows way T R k d in
    let p = plan_at way T R (placed way T R (k + d)) (k + d) in
    (r.0 ++ drop p.have (T (k + d)), rw (add-suc, ← append_assoc) (ap (λ l. l ++ drop p.have (T (k + d))) r.1))

pub used_grows : (way : Way) (T R : ℕ → List ℕ) (j k : ℕ) → j ≤ k → length (placed way T R j).slots ≤ length (placed way T R k).slots
used_grows way T R j k h =
    let e : j + (k - j) ≡ k = omega arith in
    let r = placed-grows way T R j (k - j) in
    omega (arith, ap length r.1, length-append (placed way T R j).slots r.0, ap (λ i. length (placed way T R i).slots) e)

pub start-grows : (T : ℕ → List ℕ) (j d : ℕ) → start_of T j ≤ start_of T (j + d)
unfolding start_of
start-grows T j zero = rw add-zero (omega arith)
start-grows T j (suc d) = rw add-suc (omega (arith, start-grows T j d))

-- ---- slots enough
pub after-length : (s : State) (list : List ℕ) (p : Plan) → length (after s list p).slots ≡ length s.slots + (length list - p.have)
unfolding after
after-length s list p = simp (length-append, length-drop)

module _ (way : Way) (T R : ℕ → List ℕ) (cap vals : ℕ) where
  -- questions 10 and 11: the lists of places 0 to k, placed this way, fit the index and the value store
  abbrev pub room : ℕ → Bool
  room k = leb (length (placed way T R (suc k)).slots) cap && leb (start_of T (suc k)) vals

-- the plain way: a list's run starts where the entries of the lists before it end
pub plain-starts : (T R : ℕ → List ℕ) (k : ℕ) →
    (length (placed plain T R k).runs ≡ k) × (length (placed plain T R k).slots ≡ start_of T k) × ((i : ℕ) → i < k → run_of (placed plain T R k) i ≡ start_of T i)
unfolding placed after plain append_all start_of
plain-starts T R zero = (refl, refl, λ i h. absurd (omega arith))
plain-starts T R (suc k) =
    let r = plain-starts T R k in
    let s = placed plain T R k in (
      simp length-append (omega (arith, r.0)),
      simp length-append (ap (λ m. m + length (T k)) r.1),
      λ i h.
          by-test (ltb i k)
          (λ t. get_or-append s.runs (length s.slots ∷ []) 0 i (omega (arith, ltb-true i k t, r.0)) ∙ r.2 i (ltb-true i k t))
          (λ t. let e : i ≡ k = omega (arith, ltb-false i k t) in rw e (get_or_at s.runs (length s.slots) [] 0 k r.0 ∙ r.1)),
    )
