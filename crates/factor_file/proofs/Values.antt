-- Lists that pass 15 and end at their stores' ends hold every value of the stores, so that all are finite.
use mathlib.Core.Path.{◌≡◌, sym, ap, ◌∙◌}
use mathlib.Core.Bool.{true, false, not, ◌&&◌, ◌||◌}
use mathlib.Core.List.{List, [], ◌∷◌, ◌++◌}
use Prim.Native.Nat.{ℕ, zero, suc, ◌+◌, ◌-◌, ◌<◌, ◌≤◌}
use native.Mathlib.Omega.{arith}
use native.Mathlib.Numerals.{add-one}
use lib.ListN.{length, get_or, take, drop}
use lib.Seq.{take-add, take-length}
use lib.Dec.{eqb, ltb}
use lib.Ieee.{Float, nan}
use lib.Ieee.Scale.{finite}
use borrow.Author.Tests.{eqb-true, ltb-false, not-false}
use Rattle.base.specs.Lists.{list_at}
use Rattle.base.specs.Tests.{or-false, and_cases}
use Rattle.base.specs.Answers.{spot, holds, Pass}
use Rattle.base.specs.FirstLaws.{first-none, absent-pass, both-pass, holds-pass}
use Rattle.base.specs.declared.Form.TheVariants.{Plain}
use Rattle.base.specs.declared.Side.{Side}
use Rattle.base.specs.declared.Side.TheVariants.{Lower, Upper}
use Rattle.base.specs.declared.Refusal.TheVariants.{BadFactors}
use Rattle.arithmetic.specs.RowEnd.{finite_all}
use Rattle.outcome.specs.Buffers.{SideBuffers}
use Rattle.outcome.specs.Resolve.{given_list, given_values, right_side, misplaced, bad_list, bad_at, ask_factors}
use Rattle.factor_contents.specs.FactorFile.{FactorLists, lower_of, upper_of, starts_end, ask15}
use Rattle.factor_contents.specs.Judging.{presented_lists}

finite-append : (a b : List Float) → finite_all a ≡ true → finite_all b ≡ true → finite_all (a ++ b) ≡ true
finite-append [] b ea eb = eb
finite-append (x ∷ a) b ea eb =
    let h = and_cases (finite x) (finite_all a) ea in rw (h.0, finite-append a b h.1 eb)

-- ---- a side whose lists are good

module _ (w : Side) (n : ℕ) (b : SideBuffers) (good : (k : ℕ) → k < n → bad_list Plain w n b k ≡ false) where
  abbrev start : ℕ → ℕ
  start k = get_or b.starts k 0

  pub placed : (k : ℕ) → k < n → (misplaced Plain b k ≡ false) × (finite_all (given_values b k) ≡ true) × (right_side Plain w n k (given_list Plain b k) ≡ true)
  unfolding bad_list
  placed k l =
      let a = or-false (misplaced Plain b k || not (right_side Plain w n k (given_list Plain b k))) (not (finite_all (given_values b k))) (good k l) in
      let c = or-false (misplaced Plain b k) (not (right_side Plain w n k (given_list Plain b k))) a.0 in
      (c.0, not-false (finite_all (given_values b k)) a.1, not-false (right_side Plain w n k (given_list Plain b k)) c.1)

  -- starts k and k + 1
  pub rises : (k : ℕ) → k < n → (start k ≤ start (k + 1)) × (start (k + 1) ≤ length b.index) × (start (k + 1) ≤ length b.values) × ((eqb k 0 && not (eqb (start 0) 0)) ≡ false)
  unfolding misplaced
  rises k l =
      let begins = (eqb k 0 && not (eqb (start 0) 0)) in
      let a = or-false (begins || ltb (start (k + 1)) (start k) || ltb (length b.index) (start k + (start (k + 1) - start k))) (ltb (length b.values) (start (k + 1))) (placed k l).0 in
      let c = or-false (begins || ltb (start (k + 1)) (start k)) (ltb (length b.index) (start k + (start (k + 1) - start k))) a.0 in
      let d = or-false begins (ltb (start (k + 1)) (start k)) c.0 in
      let up : start k ≤ start (k + 1) = ltb-false (start (k + 1)) (start k) d.1 in
      let fit : start k + (start (k + 1) - start k) ≤ length b.index = ltb-false _ _ c.1 in
      (up, omega arith, ltb-false _ _ a.1, d.0)

  pub begins-at : 0 < n → start 0 ≡ 0
  begins-at l = eqb-true (start 0) 0 (not-false (eqb (start 0) 0) (rises 0 l).3)

  finite-upto : (k : ℕ) → 0 < n → k ≤ n → finite_all (take (start k) b.values) ≡ true
  unfolding given_values list_at
  finite-upto zero s h = rw (begins-at s)
  finite-upto (suc k) s h =
      let r = rises k (omega arith) in
      let e : start (suc k) ≡ start k + (start (k + 1) - start k) = ap start (sym (add-one k)) ∙ omega (arith, r.0) in
      rw (e, take-add (start k) (start (k + 1) - start k) b.values) (finite-append (take (start k) b.values) (take (start (k + 1) - start k) (drop (start k) b.values)) (finite-upto k s (omega arith)) (placed k (omega arith)).1)

  -- all values, where the starts end at the store's end
  pub all-finite : 0 < n → start n ≡ length b.values → finite_all b.values ≡ true
  all-finite s e = ap finite_all (sym (take-length b.values)) ∙ (ap (λ (m : ℕ). finite_all (take m b.values)) (sym e) ∙ finite-upto n s (omega arith))

-- ---- factors that pass 15

module _ (n lower upper : ℕ) (l : FactorLists) (p : ask15 n lower upper l ≡ Pass) where
  both : (ask_factors Plain n (presented_lists l) ≡ Pass) × (holds (starts_end n lower upper l) (BadFactors (spot (n - 1))) ≡ Pass)
  unfolding ask15
  both = both-pass (ask_factors Plain n (presented_lists l)) (holds (starts_end n lower upper l) (BadFactors (spot (n - 1)))) p

  pub ends : (get_or l.lower-starts n 0 ≡ lower) × (get_or l.upper-starts n 0 ≡ upper)
  ends =
      let t = and_cases (eqb (get_or l.lower-starts n 0) lower) (eqb (get_or l.upper-starts n 0) upper) (holds-pass (starts_end n lower upper l) _ both.1) in
      (eqb-true _ _ t.0, eqb-true _ _ t.1)

  good : (k : ℕ) → k < n → (bad_list Plain Lower n (lower_of l) k ≡ false) × (bad_list Plain Upper n (upper_of l) k ≡ false) × (finite (get_or l.d k nan) ≡ true)
  unfolding ask_factors bad_at
  good k h =
      let a = or-false (bad_list Plain Lower n (lower_of l) k || bad_list Plain Upper n (upper_of l) k) (not (finite (get_or l.d k nan)))
      (first-none (bad_at Plain n (presented_lists l)) n (absent-pass _ _ both.0) k h) in
      let c = or-false (bad_list Plain Lower n (lower_of l) k) (bad_list Plain Upper n (upper_of l) k) a.0 in
      (c.0, c.1, not-false _ a.1)

  pub lower-good : (k : ℕ) → k < n → bad_list Plain Lower n (lower_of l) k ≡ false
  lower-good k h = (good k h).0

  pub upper-good : (k : ℕ) → k < n → bad_list Plain Upper n (upper_of l) k ≡ false
  upper-good k h = (good k h).1

  pub d-good : (k : ℕ) → k < n → finite (get_or l.d k nan) ≡ true
  d-good k h = (good k h).2

  pub lower-finite : 0 < n → length l.lower-values ≡ lower → finite_all l.lower-values ≡ true
  lower-finite s e = all-finite Lower n (lower_of l) lower-good s (ends.0 ∙ sym e)

  pub upper-finite : 0 < n → length l.upper-values ≡ upper → finite_all l.upper-values ≡ true
  upper-finite s e = all-finite Upper n (upper_of l) upper-good s (ends.1 ∙ sym e)
