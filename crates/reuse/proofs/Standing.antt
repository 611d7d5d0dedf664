-- The lists of a side, place by place: as a structure call or a solve leaves them, and as question 14 asks for them.
use Rattle.std.specs.Prelude.{Some, Ok, None, Err}
use mathlib.Core.Path.{◌≡◌, refl, sym, ap, ◌∙◌}
use mathlib.Core.Bool.{true, false≢true}
use mathlib.Core.List.{List, [], ◌∷◌, ◌++◌}
use Prim.Native.Nat.{ℕ, zero, suc, ◌+◌, ◌-◌, ◌≤◌, ◌<◌}
use native.Mathlib.Omega.{arith}
use native.Mathlib.Numerals.{add-one}
use lib.ListN.{length, get_or, take, drop, replicate, length-append, length-replicate}
use lib.Dec.{eqb}
use lib.Ieee.{Float}
use borrow.Author.Tests.{eqb-true, eq-eqb, leb-true, le-leb, not-false}
use Rattle.base.specs.Lists.{table, padded}
use Rattle.base.specs.First.{first}
use Rattle.base.specs.FirstLaws.{first-all, first-none, stop-pass}
use Rattle.base.specs.TableLaws.{get_or-table}
use Rattle.base.specs.Tests.{and_cases}
use Rattle.base.specs.Answers.{absent, Pass, Found, Asked}
use Rattle.base.specs.declared.Form.{Form}
use Rattle.base.specs.declared.Form.TheVariants.{Plain, Shared, ByRow}
use Rattle.base.specs.declared.Side.{Side}
use Rattle.base.specs.declared.Side.TheVariants.{Lower, Upper}
use Rattle.base.specs.declared.Refusal.{Refusal}
use Rattle.base.specs.declared.SideSizes.{SideSizes}
use Rattle.base.specs.declared.Sizes.{Sizes}
use Rattle.fill.specs.Fill.{Pattern}
use Rattle.placement.specs.Placing.{run_of, same}
use Rattle.placement.specs.ListLaws.{part-append}
use Rattle.placement.specs.PlacingLaws.{plain-starts}
use Rattle.outcome.specs.Forms.{lists_of, rows_of, placed_to, index_need, value_need}
use Rattle.outcome.specs.Buffers.{SideBuffers, side_buffers, Buffers, buffers_of, side_sizes, sizes, side_of}
use Rattle.outcome.specs.Structure.{fits, ask_place, ask_places, runs_kept, side_placed}
use Rattle.outcome.specs.Placed.{lists-kept}
use Rattle.outcome.specs.Refactor.{same_run, same_at, passes, differs, ask_presented, revalued}
use Rattle.outcome.specs.Resolve.{runs_of}
use Rattle.outcome.proofs.Places.{Passes}
use Rattle.reuse.specs.Reuse.{Keeps}

-- ---- two lists are equal

same_self : (l : List ℕ) → same l l ≡ true
unfolding same
same_self [] = refl
same_self (x ∷ l) = rw (eq-eqb x x refl) (same_self l)

same-is : (a b : List ℕ) → same a b ≡ true → a ≡ b
unfolding same
same-is [] [] e = refl
same-is [] (y ∷ b) e = absurd (false≢true e)
same-is (x ∷ a) [] e = absurd (false≢true e)
same-is (x ∷ a) (y ∷ b) e =
    let p = and_cases (eqb x y) (same a b) e in
    let q = eqb-true x y p.0 in
    let r = same-is a b p.1 in
    cc

-- ---- place k of a side

-- its list starts, its run start and its list are those that the structure call places
pub record PlaceStands (f : Form) (side : Side) (P : Pattern) (n : ℕ) (b : SideBuffers) (k : ℕ) : Type 0 where
  pub start : get_or b.starts k 0 ≡ value_need f side P n k
  pub next : get_or b.starts (k + 1) 0 ≡ value_need f side P n (suc k)
  pub run : get_or (runs_of f b) k 0 ≡ run_of (placed_to f side P n n) k
  pub list : take (length (lists_of f side P n k)) (drop (run_of (placed_to f side P n n) k) b.index) ≡ lists_of f side P n k

same-run : (f : Form) (b : SideBuffers) (k run : ℕ) → get_or (runs_of f b) k 0 ≡ run → same_run f (get_or b.runs k 0) run ≡ true
same-run Plain b k run e = refl
same-run Shared b k run e = eq-eqb _ _ e
same-run ByRow b k run e = eq-eqb _ _ e

pub stands_same : (f : Form) (side : Side) (P : Pattern) (n : ℕ) (b : SideBuffers) (k : ℕ) → PlaceStands f side P n b k → same_at f side P n b k ≡ true
unfolding same_at
stands_same f side P n b k h =
    rw (eq-eqb _ _ h.start, eq-eqb _ _ h.next, same-run f b k _ h.run, h.list, same_self (lists_of f side P n k))

run_is : (f : Form) (side : Side) (P : Pattern) (n : ℕ) (b : SideBuffers) (k : ℕ) → k < n → get_or b.starts k 0 ≡ value_need f side P n k
    → same_run f (get_or b.runs k 0) (run_of (placed_to f side P n n) k) ≡ true → get_or (runs_of f b) k 0 ≡ run_of (placed_to f side P n n) k
unfolding placed_to value_need
run_is Plain side P n b k l s e = s ∙ sym ((plain-starts (lists_of Plain side P n) (rows_of side P) n).2 k l)
run_is Shared side P n b k l s e = eqb-true _ _ e
run_is ByRow side P n b k l s e = eqb-true _ _ e

pub same-stands : (f : Form) (side : Side) (P : Pattern) (n : ℕ) (b : SideBuffers) (k : ℕ) → k < n → same_at f side P n b k ≡ true → PlaceStands f side P n b k
unfolding same_at
same-stands f side P n b k l e =
    let r = and_cases _ _ e in
    let q = and_cases _ _ r.0 in
    let p = and_cases _ _ q.0 in
    let s = eqb-true _ _ p.0 in
    record { start = s; next = eqb-true _ _ p.1; run = run_is f side P n b k l s q.1; list = same-is _ _ r.1 }

-- ---- a whole side as a structure call or a solve leaves it

pub record Laid (f : Form) (side : Side) (P : Pattern) (n : ℕ) (b : SideBuffers) : Type 0 where
  pub starts : b.starts ≡ table (value_need f side P n) (n + 1)
  pub runs : b.runs ≡ runs_kept f (length b.runs) (placed_to f side P n n)
  pub index : b.index ≡ padded 0 (length b.index) (placed_to f side P n n).slots

padded-again : {A : Type 0} (v : A) (m : ℕ) (l : List A) → padded v m l ≡ padded v (length (padded v m l)) l
unfolding padded
padded-again v m l =
    let e : length (l ++ replicate (m - length l) v) - length l ≡ m - length l = omega (arith, length-append l (replicate (m - length l) v), length-replicate (m - length l) v) in
    rw e

pub padded-long : {A : Type 0} (v : A) (m : ℕ) (l : List A) → m ≤ length (padded v m l)
unfolding padded
padded-long v m l = omega (arith, length-append l (replicate (m - length l) v), length-replicate (m - length l) v)

runs-again : (f : Form) → Keeps f → (side : Side) (P : Pattern) (n m : ℕ)
    → runs_kept f m (placed_to f side P n n) ≡ runs_kept f (length (runs_kept f m (placed_to f side P n n))) (placed_to f side P n n)
runs-again Plain v side P n m = ap (λ (k : ℕ). replicate k 0) (sym (length-replicate m 0))
runs-again Shared v side P n m = refl
runs-again ByRow v side P n m = absurd (v refl)

pub placed-laid : (f : Form) → Keeps f → (side : Side) (P : Pattern) (n : ℕ) (z : SideSizes) (values : List Float) → Laid f side P n (side_placed f side P n z values)
unfolding side_placed
placed-laid f v side P n z values =
    record { starts = refl; runs = runs-again f v side P n z.runs; index = padded-again 0 z.index (placed_to f side P n n).slots }

run-laid : (f : Form) → Keeps f → (side : Side) (P : Pattern) (n : ℕ) (b : SideBuffers) (k : ℕ) → k < n → get_or b.starts k 0 ≡ value_need f side P n k → Laid f side P n b
    → get_or (runs_of f b) k 0 ≡ run_of (placed_to f side P n n) k
run-laid Plain v side P n b k l s h = run_is Plain side P n b k l s refl
run-laid Shared v side P n b k l s h = ap (λ (r : List ℕ). get_or r k 0) h.runs
run-laid ByRow v side P n b k l s h = absurd (v refl)

pub laid-stands : (f : Form) → Keeps f → (side : Side) (P : Pattern) (n : ℕ) (b : SideBuffers) → Laid f side P n b → (k : ℕ) → k < n → PlaceStands f side P n b k
unfolding padded
laid-stands f v side P n b h k l =
    let s : get_or b.starts k 0 ≡ value_need f side P n k = rw h.starts (get_or-table (value_need f side P n) (n + 1) 0 k (omega arith)) in
    let q = (lists-kept f side P n n (omega arith)).all k l in
    record {
      start = s;
      next = rw h.starts (get_or-table (value_need f side P n) (n + 1) 0 (k + 1) (omega arith) ∙ ap (value_need f side P n) (add-one k));
      run = run-laid f v side P n b k l s h;
      list =
          ap (λ (x : List ℕ). take (length (lists_of f side P n k)) (drop (run_of (placed_to f side P n n) k) x)) h.index
          ∙ part-append (run_of (placed_to f side P n n) k) (length (lists_of f side P n k)) (placed_to f side P n n).slots (replicate (length b.index - length (placed_to f side P n n).slots) 0) q.inside
          ∙ q.reads;
    }

side-is : (a a' b b' c c' : List ℕ) (d : List Float) → a ≡ a' → b ≡ b' → c ≡ c' → side_buffers a b c d ≡ side_buffers a' b' c' d
side-is a a' b b' c c' d e f g = rw (e, f, g)

-- other values over it are what a solve leaves
pub laid-revalued : (f : Form) (side : Side) (P : Pattern) (n : ℕ) (b : SideBuffers) (values : List Float) → Laid f side P n b → revalued b values ≡ side_placed f side P n (side_sizes b) values
unfolding revalued side_placed
laid-revalued f side P n b values h = side-is _ _ _ _ _ _ _ h.starts h.runs h.index

-- ---- questions 9 to 11 of place k

-- stores no shorter
fits_more : (f : Form) (side : Side) (P : Pattern) (n : ℕ) (y z : Sizes) (k : ℕ) → (side_of side y).index ≤ (side_of side z).index → (side_of side y).values ≤ (side_of side z).values
    → fits f side P n y k ≡ true → fits f side P n z k ≡ true
unfolding fits
fits_more f side P n y z k a b e =
    let p = and_cases _ _ e in
    let g : index_need f side P n (suc k) ≤ (side_of side y).index = leb-true _ _ p.0 in
    let h : value_need f side P n (suc k) ≤ (side_of side y).values = leb-true _ _ p.1 in
    let c : index_need f side P n (suc k) ≤ (side_of side z).index = omega arith in
    let d : value_need f side P n (suc k) ≤ (side_of side z).values = omega arith in
    rw (le-leb _ _ c, le-leb _ _ d)

pub place-more : (f : Form) (P : Pattern) (n : ℕ) (y z : Sizes) (k : ℕ)
    → ((side : Side) → ((side_of side y).index ≤ (side_of side z).index) × ((side_of side y).values ≤ (side_of side z).values))
    → Passes f P n y k → ask_place f P n z k ≡ Pass
unfolding ask_place
place-more f P n y z k h p =
    rw (p.filled, fits_more f Lower P n y z k (h Lower).0 (h Lower).1 (p.fit Lower), fits_more f Upper P n y z k (h Upper).0 (h Upper).1 (p.fit Upper))

pub places-all : (f : Form) (P : Pattern) (n : ℕ) (z : Sizes) (m : ℕ) → ((k : ℕ) → k < m → ask_place f P n z k ≡ Pass) → ask_places f P n z m ≡ Pass
unfolding ask_places
places-all f P n z zero h = refl
places-all f P n z (suc m) h = rw (places-all f P n z m (λ k l. h k (omega arith)), h m (omega arith))

-- ---- question 14

pub absent-pass : (o : Found) (g : ℕ → Refusal) → absent o g ≡ Pass → o ≡ None
absent-pass None g e = refl
absent-pass (Some k) g e = absurd (stop-pass (g k) e)

passes-pass : (a : Asked) → passes a ≡ true → a ≡ Pass
passes-pass (Ok _) e = refl
passes-pass (Err q) e = absurd (false≢true e)

module _ (f : Form) (P : Pattern) (n : ℕ) (t : Buffers) where
  pub presented-pass : ((k : ℕ) → k < n → ask_place f P n (sizes t) k ≡ Pass) → ((side : Side) (k : ℕ) → k < n → PlaceStands f side P n (buffers_of side t) k) → ask_presented f P n t ≡ Pass
  unfolding ask_presented differs
  presented-pass g h =
      let none : first (differs f P n t) n ≡ None =
      first-all (differs f P n t) n (λ k l. rw (g k l, stands_same f Lower P n t.lower k (h Lower k l), stands_same f Upper P n t.upper k (h Upper k l))) in
      rw none

  pub presented-at : ask_presented f P n t ≡ Pass → (k : ℕ) → k < n → (ask_place f P n (sizes t) k ≡ Pass) × ((side : Side) → PlaceStands f side P n (buffers_of side t) k)
  unfolding ask_presented differs
  presented-at e k l =
      let q = and_cases _ _ (not-false _ (first-none (differs f P n t) n (absent-pass _ _ e) k l)) in
      let p = and_cases _ _ q.0 in
      (passes-pass _ p.0, elim [ Lower ↦ same-stands f Lower P n t.lower k l p.1 | Upper ↦ same-stands f Upper P n t.upper k l q.1 ])
