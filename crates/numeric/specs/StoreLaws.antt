-- Laws of stores: where a list stands, what a store of values leaves, lists one after another, and one value at many places.
use Rattle.std.specs.Prelude.{◌≡◌, true, false, set, replicate, eqb, Float}
use Rattle.std.proofs.Math.Path.{refl, sym, ap}
use Rattle.std.proofs.Common.{◌∙◌, add-zero, le_refl, le_trans, length-drop, length-append, take-append-drop, length-take-le, take_at, drop_at, take-add, drop-drop, drop-set-lt, get_or-set_same}
use Rattle.std.proofs.Math.Bool.{true≢false}
use Rattle.std.proofs.Math.Logic.{⊎_elim}
use mathlib.Core.List.{List, [], ◌∷◌, ◌++◌, append_assoc}
use Prim.Native.Nat.{ℕ, zero, suc, ◌+◌, ◌-◌, ◌<◌, ◌≤◌}
use Rattle.std.proofs.Math.Numerals.{add-one}
use native.Mathlib.Omega.{arith}
use Rattle.std.proofs.Math.Decide.{dec_lt, ℕ_discrete}
use Rattle.std.proofs.Math.ListN.{length, get_or, take, drop, length-set}
use Rattle.std.proofs.lemmas.List.Edits.{sets, sets-eq}
use Rattle.std.proofs.Math.Seq.{length-sets, get_or-set_other, set_out}
use Rattle.std.proofs.lemmas.List.{take-append-le, drop-append-le}
use Rattle.std.specs.Float.Ieee.{nan}
use borrow.Author.Tests.{eqb-true, eq-eqb}
use Rattle.base.specs.Lists.{list_at, row_of, has, joined, padded}
use Rattle.base.specs.Tests.{or_cases, or-false}
use Rattle.base.specs.ZerosLaws.{drop-replicate}
use Rattle.lent.specs.Reading.{ListIn, Below}
use Rattle.lent.specs.ReadingLaws.{list_length}
use Rattle.arithmetic.specs.RowEnd.{products}
use Rattle.numeric.specs.Stores.{StoreShape, set_all, gathered}
use Rattle.numeric.specs.Rows.{Stacked}

-- ---- lists in their stores

-- what axpy and the sums of products ask of list i and its values
pub ready : (n i : ℕ) (starts runs upper : List ℕ) (u : List Float) (js : List ℕ) (us : List Float) → StoreShape n starts runs upper (length u) → i < n
    → js ≡ list_at starts runs upper i → us ≡ row_of starts u i → (length js ≡ length us) × Below n js
ready n i starts runs upper u js us S h ej eu = (
  rw (ej, eu) (list_length starts runs upper i (S.list i h) ∙ sym (list_length starts starts u i (S.values i h))),
  rw ej (S.below i h),
)

pub below-is : (n : ℕ) (js ks : List ℕ) → js ≡ ks → Below n ks → Below n js
below-is n js ks e b = rw e b

-- row k's values from their start on are inside their store
pub list-room : (size k from : ℕ) (starts runs upper js : List ℕ) → from ≡ get_or starts k 0 → js ≡ list_at starts runs upper k → ListIn starts runs (length upper) k
    → ListIn starts starts size k → from + length js ≤ size
list-room size k from starts runs upper js ef ej L M = omega (arith, ap length ej, list_length starts runs upper k L, M)

-- what is stored stands there
pub sets-part : {A : Type 0} (v us : List A) (from size : ℕ) → length us ≡ size → from + size ≤ length v → take size (drop from (sets v from us)) ≡ us
sets-part v us from size e h =
    rw (sets-eq us v from (omega arith), append_assoc, drop_at (take from v) (us ++ drop (from + length us) v) from (length-take-le from v (omega arith))) (take_at us (drop (from + length us) v) size e)

pub products-length : (d : Float) (w : List Float) (js : List ℕ) → length (products d w js) ≡ length js
products-length d w [] = refl
products-length d w (j ∷ js) = ap suc (products-length d w js)

pub gathered-length : (is : List ℕ) (w : List Float) → length (gathered is w) ≡ length is
gathered-length [] w = refl
gathered-length (i ∷ is) w = ap suc (gathered-length is w)

-- ---- lists one after another

-- list starts that never fall up to place k
abbrev pub Rising : List ℕ → ℕ → Type 0
Rising starts k = (i : ℕ) → i < k → get_or starts i 0 ≤ get_or starts (i + 1) 0

rises : (starts : List ℕ) (d i k : ℕ) → Rising starts k → i + d ≤ k → get_or starts i 0 ≤ get_or starts (i + d) 0
rises starts zero i k r h = rw add-zero (le_refl _)
rises starts (suc d) i k r h = let e : i + suc d ≡ i + d + 1 = omega arith in rw e (le_trans (rises starts d i k r (omega arith)) (r (i + d) (omega arith)))

pub rises-to : (starts : List ℕ) (i j k : ℕ) → Rising starts k → i ≤ j → j ≤ k → get_or starts i 0 ≤ get_or starts j 0
rises-to starts i j k r h g = let e : i + (j - i) ≡ j = omega arith in rw e at (rises starts (j - i) i k r (omega arith))

module _ {A : Type 0} where
  -- a part that ends before what is stored
  part-before : (s m from : ℕ) (v us : List A) → s + m ≤ from → from + length us ≤ length v → take m (drop s (sets v from us)) ≡ take m (drop s v)
  part-before s m from v us h g =
      let e : length (take from v) ≡ from = length-take-le from v (omega arith) in
      let b : m ≤ length (drop s (take from v)) = simp length-drop (omega arith) in
      let front : (X : List A) → take m (drop s (take from v ++ X)) ≡ take m (drop s (take from v)) =
      λ X. rw (drop-append-le s (take from v) X (omega arith), take-append-le m (drop s (take from v)) X b) in
      ap (λ (l : List A). take m (drop s l)) (sets-eq us v from g ∙ append_assoc (take from v) us (drop (from + length us) v))
      ∙ front (us ++ drop (from + length us) v) ∙ sym (front (drop from v)) ∙ ap (λ (l : List A). take m (drop s l)) (take-append-drop from v)

  pub part-behind : (from : ℕ) (v us : List A) → from + length us ≤ length v → drop (from + length us) (sets v from us) ≡ drop (from + length us) v
  part-behind from v us g =
      rw (sets-eq us v from g)
      (drop_at (take from v ++ us) (drop (from + length us) v) (from + length us) (simp length-append (omega (arith, length-take-le from v (omega arith)))))

  -- no list yet, in a store of zeros
  pub stacked-none : (z : A) (lists : ℕ → List A) (starts : List ℕ) (v : List A) → v ≡ replicate (length v) z → Stacked z lists 0 starts v
  stacked-none z lists starts v e =
      record { each = λ i h. absurd (omega arith); rest = ap (λ (l : List A). drop (get_or starts 0 0) l) e ∙ drop-replicate z (length v) (get_or starts 0 0) }

  -- one more
  pub stacked-more : (z : A) (old new : ℕ → List A) (k : ℕ) (starts : List ℕ) (v us : List A) → Rising starts (k + 1) → get_or starts (k + 1) 0 ≤ length v
      → length us ≡ get_or starts (k + 1) 0 - get_or starts k 0 → ((i : ℕ) → i < k → new i ≡ old i) → new k ≡ us → Stacked z old k starts v
      → Stacked z new (k + 1) starts (sets v (get_or starts k 0) us)
  unfolding list_at
  stacked-more z old new k starts v us r fits lu same here T =
      let up = r k (omega arith) in
      let room : get_or starts k 0 + length us ≤ length v = omega arith in
      let end : get_or starts (k + 1) 0 ≡ get_or starts k 0 + length us = omega arith in
      record {
        each = λ i h. elim (dec_lt i k) [
          | yes q ↦ part-before (get_or starts i 0) (get_or starts (i + 1) 0 - get_or starts i 0) (get_or starts k 0) v us
              (omega (arith, r i (omega arith), rises-to starts (i + 1) k (k + 1) r (omega arith) (omega arith))) room ∙ T.each i q ∙ sym (same i q)
          | no q ↦ (let e : i ≡ k = omega arith in rw (e, here, ← lu) (sets-part v us (get_or starts k 0) (length us) refl room))
        ];
        rest = rw (end, length-sets v (get_or starts k 0) us)
            (part-behind (get_or starts k 0) v us room
            ∙ sym (drop-drop (length us) (get_or starts k 0) v)
            ∙ ap (λ (l : List A). drop (length us) l) T.rest
            ∙ drop-replicate z (length v - get_or starts k 0) (length us)
            ∙ (let e : length v - get_or starts k 0 - length us ≡ length v - (get_or starts k 0 + length us) = omega arith in rw e));
      }

  -- the whole store
  stacked-front : (z : A) (lists : ℕ → List A) (k : ℕ) (starts : List ℕ) (v : List A) → get_or starts 0 0 ≡ 0 → Rising starts k → ((i : ℕ) → i < k → row_of starts v i ≡ lists i)
      → take (get_or starts k 0) v ≡ joined lists k
  unfolding joined list_at
  stacked-front z lists zero starts v e r each = rw e
  stacked-front z lists (suc k) starts v e r each =
      let q : get_or starts (suc k) 0 ≡ get_or starts k 0 + (get_or starts (k + 1) 0 - get_or starts k 0) = rw (← add-one k) (omega (arith, r k (omega arith))) in
      rw q (take-add (get_or starts k 0) (get_or starts (k + 1) 0 - get_or starts k 0) v
      ∙ ap (λ (l : List A). l ++ take (get_or starts (k + 1) 0 - get_or starts k 0) (drop (get_or starts k 0) v)) (stacked-front z lists k starts v e (λ i h. r i (omega arith)) (λ i h. each i (omega arith)))
      ∙ ap (λ (l : List A). joined lists k ++ l) (each k (omega arith)))

  pub stacked-all : (z : A) (lists : ℕ → List A) (k : ℕ) (starts : List ℕ) (v : List A) → get_or starts 0 0 ≡ 0 → Rising starts k → get_or starts k 0 ≤ length v → Stacked z lists k starts v
      → v ≡ padded z (length v) (joined lists k)
  unfolding padded
  stacked-all z lists k starts v e r h T =
      let f = stacked-front z lists k starts v e r T.each in
      let lf : length (joined lists k) ≡ get_or starts k 0 = rw (← f) (length-take-le (get_or starts k 0) v h) in
      sym (take-append-drop (get_or starts k 0) v) ∙ rw (f, T.rest, lf)

-- ---- one value at the listed places

module _ (v : Float) where
  -- places below n leave what stands from n on
  pub set-all-drop : (n : ℕ) (js : List ℕ) (w : List Float) → Below n js → drop n (set_all v js w) ≡ drop n w
  set-all-drop n [] w b = refl
  set-all-drop n (j ∷ js) w b = set-all-drop n js (set w j v) (λ p h. b (suc p) (omega arith)) ∙ drop-set-lt n w j v (b 0 (omega arith))

  pub set-all-length : (js : List ℕ) (w : List Float) → length (set_all v js w) ≡ length w
  set-all-length [] w = refl
  set-all-length (j ∷ js) w = set-all-length js (set w j v) ∙ length-set w j v

  set-again : (w : List Float) (i j : ℕ) → get_or w j nan ≡ v → get_or (set w i v) j nan ≡ v
  set-again w i j e = elim (ℕ_discrete j i) [
    | yes q ↦ elim (dec_lt i (length w)) [ yes l ↦ rw (q, get_or-set_same w i v nan l) | no l ↦ rw (set_out w i v (omega arith)) e ]
    | no q ↦ rw (get_or-set_other w i j v nan q) e
  ]

  pub set-all-stays : (js : List ℕ) (w : List Float) (j : ℕ) → get_or w j nan ≡ v → get_or (set_all v js w) j nan ≡ v
  set-all-stays [] w j e = e
  set-all-stays (i ∷ js) w j e = set-all-stays js (set w i v) j (set-again w i j e)

  pub set-all-has : (js : List ℕ) (w : List Float) (j : ℕ) → has js j ≡ true → j < length w → get_or (set_all v js w) j nan ≡ v
  unfolding has
  set-all-has [] w j m h = absurd (true≢false (sym m))
  set-all-has (i ∷ js) w j m h =
      ⊎_elim (λ e. let q = eqb-true i j e in set-all-stays js (set w i v) j (rw q (get_or-set_same w j v nan h)))
      (λ t. set-all-has js (set w i v) j t (rw length-set h)) (or_cases (eqb i j) (has js j) m)

  pub set-all-other : (js : List ℕ) (w : List Float) (j : ℕ) → has js j ≡ false → get_or (set_all v js w) j nan ≡ get_or w j nan
  unfolding has
  set-all-other [] w j m = refl
  set-all-other (i ∷ js) w j m =
      let b = or-false (eqb i j) (has js j) m in
      set-all-other js (set w i v) j b.1 ∙ get_or-set_other w i j v nan (λ q. true≢false (sym (eq-eqb i j (sym q)) ∙ b.0))
