-- Question 15 by the tests that the code makes, and what a pass of it settles.
use Rattle.std.specs.Prelude.{◌≡◌, Bool, ◌&&◌, ◌||◌, List, [], ◌∷◌, ℕ, zero, suc, ◌+◌, ◌-◌, ◌<◌, ◌≤◌, drop, leb, eqb, Float, Some, None}
use Rattle.std.proofs.Math.Path.{refl}
use Rattle.std.proofs.Common.{sym, ap, ◌∙◌, drop_of_length-le}
use Rattle.std.proofs.Math.Bool.{true, false, not, or-true}
use Rattle.std.proofs.Math.Bool as bools
use native.Mathlib.Omega.{arith}
use Rattle.std.proofs.Math.Numerals.{add-one}
use Rattle.std.proofs.Math.ListN.{length, get_or}
use Rattle.std.proofs.Math.Seq.{drop-cons}
use Rattle.std.proofs.Math.Dec.{ltb}
use Rattle.std.specs.Float.{nan}
use Rattle.std.specs.List.{list_all}
use Rattle.std.specs.Float.Ieee.Scale.{finite}
use borrow.Author.Tests.{lt-ltb, le-ltb, ltb-true, ltb-false, leb-true, not-true, not-false}
use Rattle.base.specs.Lists.{list_at, row_of}
use Rattle.base.specs.Answers.{absent, Pass, Found}
use Rattle.base.specs.FirstLaws.{first-none, stop-pass}
use Rattle.base.specs.Tests.{or-false, and_cases}
use Rattle.base.specs.declared.Form.{Form}
use Rattle.base.specs.declared.Form.TheVariants.{Plain, Shared, ByRow}
use Rattle.base.specs.declared.Side.{Side}
use Rattle.base.specs.declared.Side.TheVariants.{Lower, Upper}
use Rattle.base.specs.declared.Refusal.{Refusal}
use Rattle.lent.specs.Reading.{ListIn, Below}
use Rattle.numeric.specs.Stores.{Ascending}
use Rattle.arithmetic.specs.RowEnd.{finite_all}
use Rattle.outcome.specs.Buffers.{SideBuffers, side_buffers, Buffers}
use Rattle.outcome.specs.Resolve.{given_list, given_values, rises_in, right_side, misplaced, bad_list, bad_at, ask_factors}
use Rattle.factors.specs.Presented.{RunsLent, SideLent, presented, least_of, bound_of, Sound}

-- ---- a list: x is what stands at p, t whether it is in its range

module _ (lo hi : ℕ) (l : List ℕ) (p x : ℕ) (t : Bool) (e : x ≡ get_or l p 0) (b : t ≡ (leb lo x && ltb x hi)) where
  pub rises-more : p < length l → t ≡ true → rises_in (x + 1) hi (drop (p + 1) l) ≡ rises_in lo hi (drop p l)
  unfolding rises_in
  rises-more h g = let q : (leb lo (get_or l p 0) && ltb (get_or l p 0) hi) ≡ true = rw e at (sym b ∙ g) in rw (e, add-one, add-one, drop-cons l p 0, q)

  pub rises-stop : p < length l → t ≡ false → rises_in lo hi (drop p l) ≡ false
  unfolding rises_in
  rises-stop h g = let q : (leb lo (get_or l p 0) && ltb (get_or l p 0) hi) ≡ false = rw e at (sym b ∙ g) in rw (drop-cons l p 0, q)

pub rises-end : (lo hi : ℕ) (l : List ℕ) (p : ℕ) → length l ≤ p → rises_in lo hi (drop p l) ≡ true
unfolding rises_in
rises-end lo hi l p h = rw (drop_of_length-le l h)

module _ (l : List Float) (p : ℕ) where
  pub finite-more : p < length l → finite (get_or l p nan) ≡ true → finite_all (drop (p + 1) l) ≡ finite_all (drop p l)
  finite-more h f = rw (add-one, drop-cons l p nan, f)

  pub finite-stop : p < length l → finite (get_or l p nan) ≡ false → finite_all (drop p l) ≡ false
  finite-stop h f = rw (drop-cons l p nan, f)

  pub finite-end : length l ≤ p → finite_all (drop p l) ≡ true
  finite-end h = rw (drop_of_length-le l h)

pub finite-all : (l : List Float) → list_all finite l ≡ finite_all l
finite-all [] = refl
finite-all (x ∷ l) = ap (λ b. finite x && b) (finite-all l)

-- the range by form and side
pub side-is : (f : Form) (side : Side) (n k : ℕ) (l : List ℕ) → right_side f side n k l ≡ rises_in (least_of f side k) (bound_of f side n k) l
side-is f Upper n k l = refl
side-is Plain Lower n k l = refl
side-is Shared Lower n k l = refl
side-is ByRow Lower n k l = refl

-- g and s are what the form and the side are found to be
pub on-side : (f g : Form) (w s : Side) (n k lo hi : ℕ) (l : List ℕ) (t : Bool) → f ≡ g → w ≡ s → lo ≡ least_of g s k → hi ≡ bound_of g s n k → t ≡ rises_in lo hi l → t ≡ right_side f w n k l
on-side f g w s n k lo hi l t ef ew el eh e = rw (ef, ew, side-is g s n k l, ← el, ← eh) e

-- an ascending list in its range
record Rises (lo hi : ℕ) (l : List ℕ) : Type 0 where
  ascending : Ascending l
  from : (p : ℕ) → p < length l → lo ≤ get_or l p 0
  to : Below hi l

rises : (lo hi : ℕ) (l : List ℕ) → rises_in lo hi l ≡ true → Rises lo hi l
unfolding rises_in
rises lo hi [] e = record { ascending = λ p q l h. absurd (omega arith); from = λ p h. absurd (omega arith); to = λ p h. absurd (omega arith) }
rises lo hi (x ∷ l) e =
    let a = and_cases (leb lo x && ltb x hi) (rises_in (suc x) hi l) e in
    let b = and_cases (leb lo x) (ltb x hi) a.0 in
    let r = rises (suc x) hi l a.1 in
    let least = leb-true lo x b.0 in
    record {
      ascending = elim [
        | zero ↦ elim [ zero ↦ (λ h g. absurd (omega arith)) | suc q ↦ (λ h g. omega (arith, r.from q (omega arith))) ]
        | suc p ↦ elim [ zero ↦ (λ h g. absurd (omega arith)) | suc q ↦ (λ h g. r.ascending p q (omega arith) (omega arith)) ]
      ];
      from = elim [ zero ↦ (λ h. least) | suc p ↦ (λ h. omega (arith, r.from p (omega arith))) ];
      to = elim [ zero ↦ (λ h. ltb-true x hi b.1) | suc p ↦ (λ h. r.to p (omega arith)) ];
    }

-- ---- a side at place k

module _ (starts runs index : List ℕ) (values : List Float) (k : ℕ) where
  abbrev side : SideBuffers
  side = side_buffers starts runs index values

  module _ (begin lo hi : ℕ) (eb : begin ≡ get_or starts 0 0) (el : lo ≡ get_or starts k 0) (eh : hi ≡ get_or starts (k + 1) 0) where
    pub outside-falls : hi < lo → true ≡ misplaced Shared side k
    unfolding misplaced
    outside-falls h =
        let q : ltb (get_or starts (k + 1) 0) (get_or starts k 0) ≡ true = rw (el, eh) at (lt-ltb hi lo h) in
        rw (q, or-true)

    pub outside-else : (run : ℕ) → run ≡ get_or runs k 0 → lo ≤ hi
        → ((eqb k 0 && not (eqb begin 0)) || ltb (length index) (run + (hi - lo)) || ltb (length values) hi) ≡ misplaced Shared side k
    unfolding misplaced
    outside-else run er h =
        let q : ltb (get_or starts (k + 1) 0) (get_or starts k 0) ≡ false = rw (el, eh) at (le-ltb hi lo h) in
        rw (q, eb, er, el, eh, bools.or-false)

  -- the list and its values can be read
  pub inside : k < length runs → k + 1 < length starts → misplaced Shared side k ≡ false → ListIn starts runs (length index) k × ListIn starts starts (length values) k
  unfolding misplaced
  inside hr hs e =
      let a = or-false _ (ltb (length values) (get_or starts (k + 1) 0)) e in
      let b = or-false _ (ltb (length index) (get_or runs k 0 + (get_or starts (k + 1) 0 - get_or starts k 0))) a.0 in
      let c = or-false (eqb k 0 && not (eqb (get_or starts 0 0) 0)) (ltb (get_or starts (k + 1) 0) (get_or starts k 0)) b.0 in
      let rise : get_or starts k 0 ≤ get_or starts (k + 1) 0 = ltb-false _ _ c.1 in
      let last : get_or starts (k + 1) 0 ≤ length values = ltb-false _ _ a.1 in (
        record { has-run = hr; has-start = hs; rise = rise; inside = ltb-false _ _ b.1 },
        record { has-run = omega arith; has-start = hs; rise = rise; inside = omega arith },
      )

  module _ (f : Form) (w : Side) (n : ℕ) (r : RunsLent f starts runs) where
    pub bad-is : bad_list f w n side k ≡ (misplaced Shared side k || not (right_side f w n k (list_at starts runs index k)) || not (finite_all (row_of starts values k)))
    unfolding bad_list misplaced given_list given_values
    bad-is = by_form f w r
      where
        by_form : (f : Form) (w : Side) → RunsLent f starts runs → bad_list f w n side k ≡ (misplaced Shared side k || not (right_side f w n k (list_at starts runs index k)) || not (finite_all (row_of starts values k)))
        by_form Plain w r = rw r
        by_form Shared w r = refl
        by_form ByRow w r = refl

    -- t is whether the place is at fault, u whether the list js is on its side, v whether the values us are finite
    module _ (t : Bool) (et : t ≡ misplaced Shared side k) where
      pub good-outside : t ≡ true → false ≡ not (bad_list f w n side k)
      good-outside h = rw (bad-is, sym et ∙ h)

      module _ (js : List ℕ) (u : Bool) (ej : js ≡ list_at starts runs index k) (eu : u ≡ right_side f w n k js) (h : t ≡ false) where
        placed : right_side f w n k (list_at starts runs index k) ≡ u
        placed = ap (right_side f w n k) (sym ej) ∙ sym eu

        pub good-aside : u ≡ false → false ≡ not (bad_list f w n side k)
        good-aside g = rw (bad-is, sym et ∙ h, placed, g)

        pub good-values : (us : List Float) (v : Bool) → us ≡ row_of starts values k → v ≡ finite_all us → u ≡ true → v ≡ not (bad_list f w n side k)
        good-values us v es ev g = rw (bad-is, sym et ∙ h, placed, g, ← es, ← ev) (sym (bools.not-not v))

-- both sides of place k and d(k)
both-good : (a b c : Bool) → (not a && not b && c) ≡ not (a || b || not c)
both-good true b c = refl
both-good false true c = refl
both-good false false c = sym (bools.not-not c)

pub place-good : (f : Form) (n : ℕ) (s : Buffers) (k : ℕ) (x y z : Bool) → x ≡ not (bad_list f Lower n s.lower k) → y ≡ not (bad_list f Upper n s.upper k) → z ≡ finite (get_or s.d k nan)
    → (x && y && z) ≡ not (bad_at f n s k)
unfolding bad_at
place-good f n s k x y z ex ey ez = rw (ex, ey, ez) (both-good (bad_list f Lower n s.lower k) (bad_list f Upper n s.upper k) (finite (get_or s.d k nan)))

-- the test turned round
pub was-bad : (b t : Bool) → b ≡ not t → b ≡ false → t ≡ true
was-bad b t e h = not-false t (sym e ∙ h)

pub was-good : (b t : Bool) → b ≡ not t → b ≡ true → t ≡ false
was-good b t e h = not-true t (sym e ∙ h)

-- ---- what a pass settles

bound-below : (f : Form) (w : Side) (n k : ℕ) → k < n → bound_of f w n k ≤ n
bound-below f Upper n k l = omega arith
bound-below Plain Lower n k l = omega arith
bound-below Shared Lower n k l = omega arith
bound-below ByRow Lower n k l = omega arith

absent-pass : (o : Found) (g : ℕ → Refusal) → absent o g ≡ Pass → o ≡ None
absent-pass (Some k) g e = absurd (stop-pass (g k) e)
absent-pass None g e = refl

-- a list that is not bad, of what is lent
module _ (f : Form) (w : Side) (n : ℕ) (starts runs index : List ℕ) (values : List Float) (h : SideLent f n starts runs)
    (good : (k : ℕ) → k < n → bad_list f w n (side_buffers starts runs index values) k ≡ false) where
  parts : (k : ℕ) → k < n → (misplaced Shared (side_buffers starts runs index values) k ≡ false) × (right_side f w n k (list_at starts runs index k) ≡ true)
  parts k l =
      let a = or-false _ (not (finite_all (row_of starts values k))) (sym (bad-is starts runs index values k f w n h.runs-are) ∙ good k l) in
      let b = or-false _ (not (right_side f w n k (list_at starts runs index k))) a.0 in
      (b.0, not-false _ b.1)

  stands : (k : ℕ) → k < n → ListIn starts runs (length index) k × ListIn starts starts (length values) k
  stands k l = inside starts runs index values k (omega (arith, h.runs-size)) (omega (arith, h.starts-size)) (parts k l).0

  ranged : (k : ℕ) → k < n → Rises (least_of f w k) (bound_of f w n k) (list_at starts runs index k)
  ranged k l = rises _ _ _ (sym (side-is f w n k (list_at starts runs index k)) ∙ (parts k l).1)

  pub side-sound : Sound f w n starts runs index (length values)
  side-sound = record {
    shape = record {
      list = λ k l. (stands k l).0;
      values = λ k l. (stands k l).1;
      below = λ k l p g. omega (arith, bound-below f w n k l, (ranged k l).to p g);
    };
    ascending = λ k l. (ranged k l).ascending;
    from = λ k l. (ranged k l).from;
    to = λ k l. (ranged k l).to;
  }

-- both sides, of the buffers that 15 passes
module _ (f : Form) (n : ℕ) (ls lr li : List ℕ) (lv : List Float) (us ur ui : List ℕ) (uv d : List Float)
    (e : ask_factors f n (presented (side_buffers ls lr li lv) (side_buffers us ur ui uv) d) ≡ Pass) where
  good : (k : ℕ) → k < n → (bad_list f Lower n (side_buffers ls lr li lv) k ≡ false) × (bad_list f Upper n (side_buffers us ur ui uv) k ≡ false)
  unfolding ask_factors bad_at
  good k l =
      let a = or-false _ _ (first-none (bad_at f n (presented (side_buffers ls lr li lv) (side_buffers us ur ui uv) d)) n (absent-pass _ _ e) k l) in
      or-false _ _ a.0

  pub lower-sound : SideLent f n ls lr → Sound f Lower n ls lr li (length lv)
  lower-sound h = side-sound f Lower n ls lr li lv h (λ k l. (good k l).0)

  pub upper-sound : SideLent f n us ur → Sound f Upper n us ur ui (length uv)
  upper-sound h = side-sound f Upper n us ur ui uv h (λ k l. (good k l).1)
