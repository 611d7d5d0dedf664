-- Where a list would go and whether it fits, by what the code finds.
use Rattle.std.specs.Prelude.{ℕ, ◌+◌, ◌-◌, ◌≤◌, ◌<◌, true, false, cond, List, take, ltb, leb, Some, None}
use Rattle.std.proofs.Math.Path.{◌≡◌, sym, ap}
use Rattle.std.proofs.Math.Bool.{and-false}
use Rattle.std.proofs.Common.{arith}
use Rattle.std.proofs.Math.ListN.{length}
use Rattle.std.proofs.Math.Seq.{length-take-le}
use borrow.Author.Tests.{le-leb, lt-leb, leb-true}
use Rattle.base.specs.Tests.{by-test, and_cases}
use Rattle.storing.specs.Slices.{as_plan, plan_over, Planning, Ready, plan_of, fits_of, extent_of, look_of}
use Rattle.storing.specs.PlanLaws.{plan-within}
use Rattle.storing.specs.declared.Way.{Way}
use Rattle.storing.specs.declared.Plan.{Plan}
use Rattle.storing.specs.declared.Extent.{Extent}

module _ (way : Way) (starts runs index : List ℕ) (values : ℕ) (row list : List ℕ) (k : ℕ) (s : Extent) where
  pub ready-planning : Ready way starts runs index values row list k s → Planning way starts runs (take s.used index) s.last k row list
  ready-planning y = record { readable = y.readable; last-in = omega (arith, length-take-le s.used index y.used-in, y.last-in) }

  within-used : Ready way starts runs index values row list k s
      → ((plan_of way starts runs index values row list k s).start ≤ s.used) × ((plan_of way starts runs index values row list k s).have ≤ length list)
  unfolding plan_of
  within-used y =
      let w = plan-within starts runs (take s.used index) s.last k row list way (ready-planning y) in
      (omega (arith, w.0, length-take-le s.used index y.used-in), w.1)

  -- what the test says
  pub fits-room : fits_of way starts runs index values row list k s ≡ true
      → (s.used + (length list - (plan_of way starts runs index values row list k s).have) ≤ length index) × (s.entries + length list ≤ values)
  unfolding fits_of
  fits-room t =
      let q = plan_of way starts runs index values row list k s in
      let r = and_cases (leb (s.used + (length list - q.have)) (length index)) (leb (s.entries + length list) values) t in
      (leb-true (s.used + (length list - q.have)) (length index) r.0, leb-true (s.entries + length list) values r.1)

  module _ (y : Ready way starts runs index values row list k s) (p : Plan) (is : p ≡ as_plan (plan_over way starts runs (take s.used index) s.last k row list)) where
    have-is : p.have ≡ (plan_of way starts runs index values row list k s).have
    unfolding plan_of
    have-is = ap (λ x. x.have) is

    pub no_index : length index - s.used < length list - p.have → None ≡ look_of way starts runs index values row list k s
    unfolding fits_of look_of
    no_index h = rw (← have-is, lt-leb (s.used + (length list - p.have)) (length index) (omega (arith, y.used-in)))

    pub no-values : values - s.entries < length list → None ≡ look_of way starts runs index values row list k s
    unfolding fits_of look_of
    no-values h =
        rw (lt-leb (s.entries + length list) values (omega (arith, y.entries-in)), and-false)

    pub looked-fits : length list - p.have ≤ length index - s.used → length list ≤ values - s.entries
        → (last : ℕ) → last ≡ cond (ltb p.have (length list)) p.start s.last
        → Some (p, record { used = s.used + (length list - p.have); last = last; entries = s.entries + length list }) ≡ look_of way starts runs index values row list k s
    unfolding plan_of fits_of look_of extent_of
    looked-fits h g last e =
        let q = plan_over way starts runs (take s.used index) s.last k row list in
        let i : p.have ≡ q.have = ap (λ x. x.have) is in
        rw (e, is, le-leb (s.used + (length list - q.have)) (length index) (omega (arith, y.used-in)), le-leb (s.entries + length list) values (omega (arith, y.entries-in)))

  -- a look that fits: what it found, and what that keeps to
  pub record Looked (p : Plan) (next : Extent) : Type 0 where
    pub fits : fits_of way starts runs index values row list k s ≡ true
    pub is : p ≡ as_plan (plan_of way starts runs index values row list k s)
    pub next-is : next ≡ extent_of way starts runs index values row list k s
    pub start-in : p.start ≤ s.used
    pub have-in : p.have ≤ length list
    pub index-room : s.used + (length list - p.have) ≤ length index
    pub values-room : s.entries + length list ≤ values

  pub looked : Ready way starts runs index values row list k s → (p : Plan) (next : Extent) → look_of way starts runs index values row list k s ≡ Some (p, next) → Looked p next
  unfolding look_of
  looked y p next e =
      by-test (fits_of way starts runs index values row list k s)
      (λ t.
      let q = plan_of way starts runs index values row list k s in
      let f : Some (as_plan q, extent_of way starts runs index values row list k s) ≡ Some (p, next) = rw t at e in
      let g : ◌≡◌ {A = Plan × Extent} (as_plan q, extent_of way starts runs index values row list k s) (p, next) = cc in
      let i : p ≡ as_plan q = sym (ap (λ x. x.0) g) in
      let w = within-used y in
      let r = fits-room t in
      record {
        fits = t;
        is = i;
        next-is = sym (ap (λ x. x.1) g);
        start-in = omega (arith, ap (λ x. x.start) i, w.0);
        have-in = omega (arith, ap (λ x. x.have) i, w.1);
        index-room = omega (arith, ap (λ x. x.have) i, r.0);
        values-room = r.1;
      })
      (λ t. let f : None ≡ Some (p, next) = rw t at e in let z : ◌≡◌ {A = ℕ} 0 1 = cc in absurd (omega arith))

  pub not-looked : look_of way starts runs index values row list k s ≡ None → fits_of way starts runs index values row list k s ≡ false
  unfolding look_of
  not-looked e =
      by-test (fits_of way starts runs index values row list k s)
      (λ t. let f : Some _ ≡ None = rw t at e in let z : ◌≡◌ {A = ℕ} 0 1 = cc in absurd (omega arith))
      (λ t. t)
