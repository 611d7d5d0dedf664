-- Lists that pass 15 in whole stores pass it in stores that end where the lists end.
use mathlib.Core.Path.{◌≡◌, ap}
use mathlib.Core.Bool.{false}
use mathlib.Core.List.{List, []}
use Prim.Native.Nat.{ℕ, zero, suc, ◌+◌, ◌-◌, ◌<◌, ◌≤◌}
use native.Mathlib.Omega.{arith}
use native.Mathlib.Decide.{ℕ_discrete}
use native.Mathlib.Numerals.{add-one}
use lib.ListN.{length, get_or, take}
use lib.Seq.{length-take-le}
use lib.Ieee.{Float}
use borrow.Author.Tests.{le-ltb}
use Rattle.base.specs.declared.Form.TheVariants.{Plain}
use Rattle.base.specs.declared.Side.{Side}
use Rattle.outcome.specs.Buffers.{SideBuffers, side_buffers}
use Rattle.outcome.specs.Resolve.{given_list, given_values, misplaced, bad_list}
use Rattle.factor_file.proofs.Values.{placed, rises}
use Rattle.factor_file.proofs.OtherRight.{lists-cut}

module _ (w : Side) (n : ℕ) (starts index : List ℕ) (values : List Float) (long : length starts ≡ n + 1)
    (good : (k : ℕ) → k < n → bad_list Plain w n (side_buffers starts [] index values) k ≡ false) where
  abbrev whole : SideBuffers
  whole = side_buffers starts [] index values

  abbrev start : ℕ → ℕ
  start j = get_or starts j 0

  grows : (j m : ℕ) → j ≤ m → m ≤ n → start j ≤ start m
  grows j zero h l = let e : j ≡ 0 = omega arith in rw e (omega arith)
  grows j (suc m) h l = elim (ℕ_discrete j (suc m)) [
    | yes e ↦ rw e (omega arith)
    | no q ↦ (let r = rises w n whole good m (omega arith) in omega (arith, grows j m (omega arith) (omega arith), r.0, ap start (add-one m)))
  ]

  module _ (c : ℕ) (s : 0 < n) (ends : start n ≡ c) where
    pub enough : (c ≤ length index) × (c ≤ length values)
    enough =
        let r = rises w n whole good (n - 1) (omega arith) in
        let e : n - 1 + 1 ≡ n = omega arith in
        let a : start n ≤ length index = rw e at r.1 in
        let b : start n ≤ length values = rw e at r.2 in
        (omega arith, omega arith)

    abbrev used : SideBuffers
    used = side_buffers starts [] (take c index) (take c values)

    inside : (j : ℕ) → j < n → (start j ≤ start (j + 1)) × (start (j + 1) ≤ c)
    inside j l = ((rises w n whole good j l).0, omega (arith, grows (j + 1) n (omega arith) (omega arith), ends))

    pub list-used : (j : ℕ) → given_list Plain whole j ≡ given_list Plain used j
    unfolding given_list
    list-used j = lists-cut starts index n c long enough.0 inside j

    values-used : (j : ℕ) → given_values whole j ≡ given_values used j
    unfolding given_values
    values-used j = lists-cut starts values n c long enough.1 inside j

    pub used-good : (j : ℕ) → j < n → bad_list Plain w n used j ≡ false
    unfolding bad_list misplaced
    used-good j l =
        let g = placed w n whole good j l in
        let r = rises w n whole good j l in
        let i = inside j l in
        rw (
          r.3,
          le-ltb (start (j + 1)) (start j) i.0,
          length-take-le c index enough.0,
          length-take-le c values enough.1,
          le-ltb c (start j + (start (j + 1) - start j)) (omega arith),
          le-ltb c (start (j + 1)) i.1,
          ← list-used j,
          ← values-used j,
          g.2,
          g.1,
        )
