-- Before place 0 and after the last place, or the first that differs: the answer, and what stands in the presented stores.
use Rattle.std.specs.Prelude.{Err}
use mathlib.Core.Path.{◌≡◌, ◌∙◌}
use mathlib.Core.Bool.{Bool, true, false, not, ◌&&◌}
use mathlib.Core.Logic.{⊎_elim}
use mathlib.Core.List.{List}
use Prim.Native.Nat.{ℕ, ◌<◌, ◌≤◌}
use native.Mathlib.Omega.{arith}
use lib.ListN.{length, get_or}
use lib.Dec.{eqb}
use borrow.Author.Tests.{eqb-true, not-true, not-false}
use Rattle.base.specs.Lists.{blank}
use Rattle.base.specs.Tests.{and_cases, and_split, and_right}
use Rattle.base.specs.Answers.{spot, Pass}
use Rattle.base.specs.FirstLaws.{first-zero, first-at, first-all, first-none, stop-pass}
use Rattle.base.specs.Scratch.{upper_cuts, lower_cuts}
use Rattle.base.specs.declared.Form.{Form}
use Rattle.base.specs.declared.Form.TheVariants.{Plain, Shared}
use Rattle.base.specs.declared.Side.TheVariants.{Lower, Upper}
use Rattle.base.specs.declared.Refusal.TheVariants.{OtherStructure}
use Rattle.fill.specs.Fill.{Pattern, filled, upper_row, lower_row, flip}
use Rattle.matrix.specs.Input.{Input, stored}
use Rattle.placement.specs.Placing.{start_of}
use Rattle.placement.specs.PlacingLaws.{room}
use Rattle.marks.specs.Marks.{Fresh}
use Rattle.questions.specs.Lent.{inverted_at}
use Rattle.outcome.specs.Buffers.{Buffers}
use Rattle.outcome.specs.Refactor.{differs, ask_presented}
use Rattle.storing.specs.Ways.{way_of}
use Rattle.storing.specs.Held.{presented}
use Rattle.storing.specs.HeldLaws.{holding-none}
use Rattle.storing.specs.declared.Way.{Way}
use Rattle.storing.specs.declared.Way.TheVariants.{OneAfterAnother, Sharing}
use Rattle.symbolic.specs.Places.{Stores, ListsAt}
use Rattle.symbolic.specs.Pass.{nothing, stamp_at, LowerAt, MatrixLent, ColumnsBegun}
use Rattle.symbolic.proofs.Starts.{begun-of, fresh-of}
use Rattle.symbolic.proofs.Ends.{side-end}
use Rattle.comparison.specs.Comparing.{form_of, presented_lower, presented_side, other_at, Met, nothing_met, ColumnsBy, BegunBy, RunsBy, Presenting, Standing, Compared}
use Rattle.comparison.specs.declared.Reached.{Reached}
use Rattle.comparison.proofs.Places.{lower-fault, upper-fault}
use Rattle.comparison.proofs.Question.{differs-is}

-- ---- scratch

pub begun-plain : (way : Way) (i : Input) (s₀ s : List ℕ) → way ≡ OneAfterAnother → MatrixLent i (length s₀) → s ≡ inverted_at i.c i.n (blank 0 s₀) → BegunBy way i s
begun-plain way i s₀ s w l e = rw w (record { begun = begun-of i s₀ s l e; fresh = fresh-of i s₀ s l e; columns = tt })

pub begun-shared : (way : Way) (i : Input) (s : List ℕ) → way ≡ Sharing → ColumnsBegun i s → BegunBy way i s
begun-shared way i s w c = rw w (record { begun = c.begun; fresh = c.fresh; columns = c.ready })

-- ---- list start 0

start-differs : (way : Way) (T R : ℕ → List ℕ) (values : ℕ) (starts runs index : List ℕ) → eqb (get_or starts 0 0) 0 ≡ false → presented way T R values 0 starts runs index ≡ false
unfolding presented start_of
start-differs way T R values starts runs index e = and_right (room (way_of way) T R (length index) values 0) _ (rw e)

start-other : (way : Way) (i : Input) (lv uv : ℕ) (ls lr li us ur ui : List ℕ) → (eqb (get_or ls 0 0) 0 && eqb (get_or us 0 0) 0) ≡ false → other_at way i lv uv ls lr li us ur ui 0 ≡ true
unfolding other_at
start-other OneAfterAnother i lv uv ls lr li us ur ui e =
    let a = filled (stored i) 0 0 in
    let l = presented_lower (stored i) lv 0 ls li in
    let u = presented_side OneAfterAnother Upper i uv 0 us ur ui in
    ⊎_elim (λ x. lower-fault a l u (and_right a l (start-differs OneAfterAnother _ _ lv ls ls li x))) (λ x. upper-fault a l u (and_right a u (start-differs OneAfterAnother _ _ uv us ur ui x)))
    (and_split (eqb (get_or ls 0 0) 0) (eqb (get_or us 0 0) 0) e)
start-other Sharing i lv uv ls lr li us ur ui e =
    let a = filled (stored i) 0 0 in
    let l = presented_side Sharing Lower i lv 0 ls lr li in
    let u = presented_side Sharing Upper i uv 0 us ur ui in
    ⊎_elim (λ x. lower-fault a l u (and_right a l (start-differs Sharing _ _ lv ls lr li x))) (λ x. upper-fault a l u (and_right a u (start-differs Sharing _ _ uv us ur ui x)))
    (and_split (eqb (get_or ls 0 0) 0) (eqb (get_or us 0 0) 0) e)

-- ---- before place 0

fresh-by : (way : Way) (n : ℕ) (s : List ℕ) → Fresh n 1 s → Fresh n (stamp_at (form_of way) 0) s
fresh-by OneAfterAnother n s h = h
fresh-by Sharing n s h = h

lists-start : (way : Way) (P : Pattern) (n cuts values : ℕ) (starts runs index s : List ℕ) → Stores way n index values starts runs → get_or starts 0 0 ≡ 0 → ListsAt way P n 0 cuts index values starts runs index s nothing
lists-start way P n cuts values starts runs index s z e = record {
  held = holding-none way (upper_row P n) (lower_row P) values starts runs index (omega (arith, z.starts-size)) e;
  cut = λ j l. absurd (omega arith);
  stores = z;
}

lower-start : (way : Way) (i : Input) (lv : ℕ) (ls lr li s : List ℕ) → Stores way i.n li lv ls lr → get_or ls 0 0 ≡ 0 → ColumnsBy way i s → LowerAt (form_of way) i li lv 0 ls lr li s nothing 0
lower-start OneAfterAnother i lv ls lr li s z e c = (
  holding-none OneAfterAnother (lower_row (stored i)) (lower_row (flip (stored i))) lv ls ls li (omega (arith, z.starts-size)) e,
  record { starts-size = z.starts-size; runs-size = z.starts-size; slots-fit = z.slots-fit; values-fit = z.values-fit },
)
lower-start Sharing i lv ls lr li s z e c = (lists-start Sharing (flip (stored i)) i.n (lower_cuts i.n) lv ls lr li s z e, c)

module _ {way : Way} {i : Input} {ls lr li : List ℕ} {lv : ℕ} {us ur ui : List ℕ} {uv marks : ℕ} (p : Presenting way i ls lr li lv us ur ui uv marks) where
  pub met_start : (b : Bool) → b ≡ (eqb (get_or ls 0 0) 0 && eqb (get_or us 0 0) 0) → not b ≡ false → (s : List ℕ) → BegunBy way i s → (g : Reached) → g ≡ nothing_met → Met way i lv uv 0 ls lr li us ur ui s g
  met_start b e f s c g q =
      let r = and_cases (eqb (get_or ls 0 0) 0) (eqb (get_or us 0 0) 0) (rw e at (not-false b f)) in
      rw q (record {
        same = first-zero (other_at way i lv uv ls lr li us ur ui);
        most = omega arith;
        begun = c.begun;
        fresh = fresh-by way i.n s c.fresh;
        lower = lower-start way i lv ls lr li s p.lower (eqb-true _ _ r.0) c.columns;
        upper = lists-start way (stored i) i.n (upper_cuts i.n) uv us ur ui s p.upper (eqb-true _ _ r.1);
      })

-- ---- the answer

asked-at : (f : Form) (P : Pattern) (n : ℕ) (b : Buffers) (k : ℕ) → k < n → ((j : ℕ) → j < k → differs f P n b j ≡ false) → differs f P n b k ≡ true → Err (OtherStructure (spot k)) ≡ ask_presented f P n b
unfolding ask_presented
asked-at f P n b k l before here = let e = first-at (differs f P n b) k n l (first-all (differs f P n b) k before) here in rw e

asked-none : (f : Form) (P : Pattern) (n : ℕ) (b : Buffers) → ((j : ℕ) → j < n → differs f P n b j ≡ false) → Pass ≡ ask_presented f P n b
unfolding ask_presented
asked-none f P n b all = let e = first-all (differs f P n b) n all in rw e

module _ {way : Way} {i : Input} {ls lr li : List ℕ} {lv : ℕ} {us ur ui : List ℕ} {uv marks : ℕ} (p : Presenting way i ls lr li lv us ur ui uv marks) where
  stop-at : (k : ℕ) → k < i.n → ((j : ℕ) → j < k → other_at way i lv uv ls lr li us ur ui j ≡ false) → other_at way i lv uv ls lr li us ur ui k ≡ true → (s : List ℕ)
      → Compared way i ls lr li lv us ur ui uv s (Err (OtherStructure (spot k)))
  stop-at k l before here s = record {
    answer = λ lower upper d x w m ea eb.
        let is = differs-is way i lv uv ls lr li us ur ui p.upper-runs lower upper d x w m ea eb in
        asked-at (form_of way) (stored i) i.n _ k l (λ j b. is j (omega arith) ∙ before j b) (is k l ∙ here);
    standing = λ e. absurd (stop-pass _ e);
  }

  -- list start 0 of a side is wrong
  pub compared-first : (b : Bool) → b ≡ (eqb (get_or ls 0 0) 0 && eqb (get_or us 0 0) 0) → not b ≡ true → (s : List ℕ) → Compared way i ls lr li lv us ur ui uv s (Err (OtherStructure (spot 0)))
  compared-first b e f s = stop-at 0 (omega (arith, p.matrix.some)) (λ j l. absurd (omega arith)) (start-other way i lv uv ls lr li us ur ui (rw e at (not-true b f))) s

  -- place k differs
  pub compared-stop : (k : ℕ) (s₀ : List ℕ) (g : Reached) → Met way i lv uv k ls lr li us ur ui s₀ g → k < i.n → other_at way i lv uv ls lr li us ur ui k ≡ true → (s : List ℕ)
      → Compared way i ls lr li lv us ur ui uv s (Err (OtherStructure (spot k)))
  compared-stop k s₀ g h l e s = stop-at k l (first-none (other_at way i lv uv ls lr li us ur ui) k h.same) e s

standing-end : (way : Way) (i : Input) (lv uv : ℕ) (ls lr li us ur ui s : List ℕ) (g : Reached) → RunsBy way ls lr → RunsBy way us ur → Met way i lv uv i.n ls lr li us ur ui s g
    → Standing way i ls lr li lv us ur ui uv s
standing-end OneAfterAnother i lv uv ls lr li us ur ui s g rl ru h = record {
  lower = side-end Plain Lower (stored i) i.n li lv ls lr li g.lower (rw rl h.lower.0) (rw rl h.lower.1) rl;
  upper = side-end Plain Upper (stored i) i.n ui uv us ur ui g.upper h.upper.held h.upper.stores ru;
  inverse = h.begun.inverse;
}
standing-end Sharing i lv uv ls lr li us ur ui s g rl ru h = record {
  lower = side-end Shared Lower (stored i) i.n li lv ls lr li g.lower h.lower.0.held h.lower.0.stores tt;
  upper = side-end Shared Upper (stored i) i.n ui uv us ur ui g.upper h.upper.held h.upper.stores tt;
  inverse = h.begun.inverse;
}

-- no place differs
pub compared-pass : {way : Way} {i : Input} {ls lr li : List ℕ} {lv : ℕ} {us ur ui : List ℕ} {uv marks : ℕ} → Presenting way i ls lr li lv us ur ui uv marks → {k : ℕ} {s : List ℕ} {g : Reached}
    → Met way i lv uv k ls lr li us ur ui s g → i.n ≤ k → Compared way i ls lr li lv us ur ui uv s Pass
compared-pass {way} {i} {ls} {lr} {li} {lv} {us} {ur} {ui} {uv} p {k} {s} {g} at most =
    let q : k ≡ i.n = omega (arith, at.most) in
    let h = rw q at at in
    record {
      answer = λ lower upper d x w m ea eb.
          asked-none (form_of way) (stored i) i.n _ (λ j b. differs-is way i lv uv ls lr li us ur ui p.upper-runs lower upper d x w m ea eb j b ∙ first-none (other_at way i lv uv ls lr li us ur ui) i.n h.same j b);
      standing = λ e. standing-end way i lv uv ls lr li us ur ui s g p.lower-runs p.upper-runs h;
    }

-- the default of each part is 0
all-zero : (a b c d e f w : ℕ) → ((a ≡ 0) × ((b ≡ 0) × (c ≡ 0))) × (((d ≡ 0) × ((e ≡ 0) × (f ≡ 0))) × (w ≡ 0))
    → ◌≡◌ {A = Reached} (record { lower = record { used = a; last = b; entries = c }; upper = record { used = d; last = e; entries = f }; window = w }) nothing_met
all-zero a b c d e f w h = rw (h.0.0, h.0.1.0, h.0.1.1, h.1.0.0, h.1.0.1.0, h.1.0.1.1, h.1.1)

pub default-is : (g : Reached)
    → ((g.lower.used ≡ 0) × ((g.lower.last ≡ 0) × (g.lower.entries ≡ 0))) × (((g.upper.used ≡ 0) × ((g.upper.last ≡ 0) × (g.upper.entries ≡ 0))) × (g.window ≡ 0)) → g ≡ nothing_met
default-is g h = all-zero g.lower.used g.lower.last g.lower.entries g.upper.used g.upper.last g.upper.entries g.window h
