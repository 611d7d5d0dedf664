-- Steps 1 to 3, by what the code finds.
use Rattle.std.specs.Prelude.{ℕ, ◌+◌, ◌-◌, ◌≤◌, ◌<◌, ◌≡◌, refl, List, [], get_or, eqb, Some, None}
use Rattle.std.proofs.Common.{ap}
use native.Mathlib.Omega.{arith}
use Rattle.std.proofs.Math.ListN.{length}
use borrow.Author.Tests.{eq-eqb, ne_eqb, eqb-true, eqb-false}
use Rattle.base.specs.Lists.{list_at}
use Rattle.base.specs.Tests.{by-test}
use Rattle.lent.specs.ReadingLaws.{list_length}
use Rattle.placement.specs.Placing.{count_above, tails, best, meets, overlap, tail_or, shared, plain, append_all}
use Rattle.placement.specs.ListLaws.{count-le}
use Rattle.placement.proofs.PlacingLaws.{best-at}
use Rattle.storing.specs.Slices.{AllTailed, full_at, IsTail, TailIn, as_plan, held, plan_over, Planning, Planned}
use Rattle.storing.specs.LoopLaws.{overlap-within}
use Rattle.storing.specs.TailLaws.{found-tail, found_none}
use Rattle.base.specs.First.{first}
use Rattle.storing.specs.declared.Way.{Way}
use Rattle.storing.specs.declared.Way.TheVariants.{OneAfterAnother, Sharing}
use Rattle.storing.specs.declared.Plan.{Plan}

module _ (starts runs slots : List ℕ) (last k : ℕ) (row list : List ℕ) where
  pub plan-empty : length list ≡ 0 → record { start = length slots; have = 0 } ≡ as_plan (plan_over Sharing starts runs slots last k row list)
  unfolding plan_over shared append_all
  plan-empty h = rw (eq-eqb (length list) 0 h)

  module _ (ne : length list ≡ 0 → ⊥) (at most : ℕ) (is : IsTail (best (tails (list_at starts runs slots) k) row) at most) where
    plan-over : (most ≡ length list → ⊥) → plan_over Sharing starts runs slots last k row list ≡ overlap (held slots [] last) list
    unfolding plan_over shared tail_or overlap meets
    plan-over h = rw (ne_eqb (length list) 0 ne, ← is.most-is, ne_eqb most (length list) h)

    -- the best place is one of the row, and its list has that many entries
    tail_at : most ≡ length list → AllTailed starts runs slots k (length list) row → TailIn starts runs slots at most
    unfolding tails
    tail_at h all =
        let b = best (tails (list_at starts runs slots) k) row in
        let pos : 0 < b.most = omega (arith, ne, is.most-is) in
        let m = best-at (tails (list_at starts runs slots) k) row pos in
        let e : count_above k (list_at starts runs slots at) ≡ most = rw (is.at-is, is.most-is) m.1 in
        record { readable = rw is.at-is (all b.at m.0).readable; fits = omega (arith, count-le k (list_at starts runs slots at)) }

    plan-tail : most ≡ length list → (start : ℕ) → start ≡ get_or runs at 0 + (length (list_at starts runs slots at) - most)
        → record { start = start; have = most } ≡ as_plan (plan_over Sharing starts runs slots last k row list)
    unfolding plan_over shared tail_or
    plan-tail h start e = rw (ne_eqb (length list) 0 ne, ← is.most-is, ← is.at-is, eq-eqb most (length list) h, e, h)

  module _ (ne : length list ≡ 0 → ⊥) (all : AllTailed starts runs slots k (length list) row) where
    -- step 2, by the index of the first place whose list is long enough
    pub tail-found : (j : ℕ) → first (full_at starts runs slots k (length list) row) (length row) ≡ Some j → (j < length row) × TailIn starts runs slots (get_or row j 0) (length list)
    tail-found j e =
        let q = found-tail starts runs slots k (length list) row all (omega (arith, ne)) j e in
        (q.0, tail_at ne (get_or row j 0) (length list) q.1 refl all)

    pub plan-found : (j : ℕ) → first (full_at starts runs slots k (length list) row) (length row) ≡ Some j
        → (start : ℕ) → start ≡ get_or runs (get_or row j 0) 0 + (length (list_at starts runs slots (get_or row j 0)) - length list)
        → record { start = start; have = length list } ≡ as_plan (plan_over Sharing starts runs slots last k row list)
    plan-found j e start h =
        let q = found-tail starts runs slots k (length list) row all (omega (arith, ne)) j e in
        plan-tail ne (get_or row j 0) (length list) q.1 refl start h

    pub plan-none : first (full_at starts runs slots k (length list) row) (length row) ≡ None → plan_over Sharing starts runs slots last k row list ≡ overlap (held slots [] last) list
    plan-none e =
        let b = best (tails (list_at starts runs slots) k) row in
        plan-over ne b.at b.most (record { at-is = refl; most-is = refl }) (λ q. absurd (omega (arith, found_none starts runs slots k (length list) row all (omega (arith, ne)) e)))

  shared-within : Planning Sharing starts runs slots last k row list
      → ((plan_over Sharing starts runs slots last k row list).start ≤ length slots) × ((plan_over Sharing starts runs slots last k row list).have ≤ length list)
  shared-within p =
      by-test (eqb (length list) 0)
      (λ e. let q = plan-empty (eqb-true (length list) 0 e) in (omega (arith, ap (λ x. x.start) q), omega (arith, ap (λ x. x.have) q)))
      (λ e.
      let b = best (tails (list_at starts runs slots) k) row in
      let ne = eqb-false (length list) 0 e in
      let is : IsTail b b.at b.most = record { at-is = refl; most-is = refl } in
      by-test (eqb b.most (length list))
      (λ t.
      let h = eqb-true b.most (length list) t in
      let r = (tail_at ne b.at b.most is h p.readable).readable in
      let q = plan-tail ne b.at b.most is h _ refl in
      (omega (arith, ap (λ x. x.start) q, r.inside, list_length starts runs slots b.at r), omega (arith, ap (λ x. x.have) q)))
      (λ t. rw (plan-over ne b.at b.most is (eqb-false b.most (length list) t)) (overlap-within slots last list p.last-in)))

  pub plan-within : (way : Way) → Planning way starts runs slots last k row list
      → ((plan_over way starts runs slots last k row list).start ≤ length slots) × ((plan_over way starts runs slots last k row list).have ≤ length list)
  unfolding plan_over plain append_all
  plan-within OneAfterAnother p = (omega arith, omega arith)
  plan-within Sharing p = shared-within p

  pub planned : (way : Way) (r : Plan) → Planning way starts runs slots last k row list → r ≡ as_plan (plan_over way starts runs slots last k row list)
      → Planned slots list (plan_over way starts runs slots last k row list) r
  planned way r p e =
      let w = plan-within way p in
      record { is = e; start-in = omega (arith, ap (λ x. x.start) e, w.0); have-in = omega (arith, ap (λ x. x.have) e, w.1) }

  -- the plans of the two ways, by the case that the code meets
  pub planned-plain : (way : Way) → way ≡ OneAfterAnother → Planning way starts runs slots last k row list
      → Planned slots list (plan_over way starts runs slots last k row list) (record { start = length slots; have = 0 })
  unfolding plan_over plain append_all
  planned-plain way e p = planned way (record { start = length slots; have = 0 }) p (rw e refl)

  pub planned-shared : (way : Way) (r : Plan) → way ≡ Sharing → Planning way starts runs slots last k row list → r ≡ as_plan (plan_over Sharing starts runs slots last k row list)
      → Planned slots list (plan_over way starts runs slots last k row list) r
  planned-shared way r e p q = planned way r p (rw e q)

pub planning-shared : (way : Way) (starts runs slots : List ℕ) (last k : ℕ) (row list : List ℕ) → way ≡ Sharing → Planning way starts runs slots last k row list → Planning Sharing starts runs slots last k row list
planning-shared way starts runs slots last k row list e p = rw e at p
