-- After the last place, and after a refusal: the answer, and what the stores hold.
use Rattle.base.specs.Answers.{Asked}
use Rattle.std.specs.Prelude.{Ok, Err}
use mathlib.Core.Path.{◌≡◌, refl, sym, ap, ◌∙◌}
use mathlib.Core.List.{List}
use Prim.Native.Nat.{ℕ, zero, suc, ◌+◌, ◌≤◌}
use native.Mathlib.Omega.{arith}
use lib.ListN.{length}
use Rattle.base.specs.Lists.{blank, padded, sum}
use Rattle.base.specs.TableLaws.{table-ext}
use Rattle.base.specs.ZerosLaws.{blank-length}
use Rattle.base.specs.AscLaws.{sum-ext}
use Rattle.base.specs.declared.Form.{Form}
use Rattle.base.specs.declared.Form.TheVariants.{Plain, Shared, ByRow}
use Rattle.base.specs.declared.Side.{Side}
use Rattle.base.specs.declared.Side.TheVariants.{Lower, Upper}
use Rattle.base.specs.declared.Counts.{Counts}
use Rattle.base.specs.declared.Refusal.{Refusal}
use Rattle.fill.specs.Fill.{Pattern, upper_row, lower_row, flip}
use Rattle.fill.specs.ListLaws.{lower-rows-columns}
use Rattle.fill.proofs.ListLaws.{lower-is-upper}
use Rattle.matrix.specs.Input.{Input, stored}
use Rattle.placement.specs.Placing.{placed, start_of}
use Rattle.marks.specs.Rows.{row_steps}
use Rattle.marks.specs.ListLaws.{products-rows}
use Rattle.outcome.specs.Forms.{way_of, lists_of, rows_of, placed_to, index_need, value_need}
use Rattle.outcome.specs.Structure.{ask_places, counts}
use Rattle.outcome.specs.Placed.{RunsAre, PlacedSide, WrittenSide}
use Rattle.base.specs.FirstLaws.{stop-pass}
use Rattle.storing.specs.Ways as ways
use Rattle.storing.specs.Held.{Holding}
use Rattle.storing.specs.HeldLaws.{slots_same, index-long, starts-whole, runs-whole, padded-held}
use Rattle.storing.specs.declared.Extent.{Extent}
use Rattle.symbolic.specs.Places.{run_count, Stores}
use Rattle.symbolic.specs.Pass.{slots_of, Analyzed, AnalyzedBoth, placing_of, counts_at, LowerAt, At}
use Rattle.symbolic.specs.declared.Progress.{Progress}

-- ---- a side after the last place

-- the plain form's run starts are its list starts
abbrev pub RunsIn : Form → List ℕ → List ℕ → Type 0
RunsIn Plain starts runs = runs ≡ starts
RunsIn Shared starts runs = Unit {0}
RunsIn ByRow starts runs = Unit {0}

way-is : (f : Form) → ways.way_of (placing_of f) ≡ way_of f
way-is Plain = refl
way-is Shared = refl
way-is ByRow = refl

module _ (f : Form) (side : Side) (P : Pattern) (n : ℕ) (store : List ℕ) (values : ℕ) (starts runs index : List ℕ) (e : Extent)
    (h : Holding (placing_of f) (lists_of f side P n) (rows_of side P) values n store starts runs index e) (z : Stores (placing_of f) n store values starts runs) (r : RunsIn f starts runs) where
  runs-end : RunsAre f side P n starts runs
  unfolding placed_to
  runs-end = go f h z.runs-size r
    where
      go : (f : Form) → Holding (placing_of f) (lists_of f side P n) (rows_of side P) values n store starts runs index e → length runs ≡ run_count (placing_of f) n → RunsIn f starts runs
          → RunsAre f side P n starts runs
      go Plain h l r = r
      go Shared h l r = runs-whole h l
      go ByRow h l r = runs-whole h l

  state-is : placed (ways.way_of (placing_of f)) (lists_of f side P n) (rows_of side P) n ≡ placed_to f side P n n
  unfolding placed_to
  state-is = rw (way-is f)

  pub side-end : PlacedSide f side P n starts runs index values
  unfolding index_need value_need
  side-end =
      record {
        starts-are = starts-whole h z.starts-size ∙ table-ext (start_of (lists_of f side P n)) (value_need f side P n) (n + 1) (λ j b. refl);
        runs-are = runs-end;
        slots-are = rw (← state-is, ← h.used-is) (slots_same h);
        index_in = omega (arith, ap (λ x. length x.slots) state-is, h.used-is, h.used-in, index-long h);
        values-in = omega (arith, h.entries-are, h.entries-in);
      }

  -- the store was cleared before the first place
  side-written : (lent : List ℕ) → store ≡ blank 0 lent → WrittenSide f side P n starts runs index values
  side-written lent b =
      let long : length index ≡ length lent = index-long h ∙ ap length b ∙ blank-length 0 lent in
      record { placed = side-end; index_is = rw long (padded-held lent (rw b at h) ∙ ap (λ x. padded 0 (length lent) x.slots) state-is) }

-- the forms that keep lower lists
abbrev Keeps : Form → Type 0
Keeps Plain = Unit {0}
Keeps Shared = Unit {0}
Keeps ByRow = ⊥

lower-end : (f : Form) (i : Input) (low : List ℕ) (lv : ℕ) (ls lr li s : List ℕ) (e : Extent) (window : ℕ) → Keeps f → RunsIn f ls lr → LowerAt f i low lv i.n ls lr li s e window
    → (lent : List ℕ) → low ≡ blank 0 lent → WrittenSide f Lower (stored i) i.n ls lr li lv
lower-end Plain i low lv ls lr li s e window x r h = side-written Plain Lower (stored i) i.n low lv ls lr li e (rw r h.0) (rw r h.1) r
lower-end Shared i low lv ls lr li s e window x r h = side-written Shared Lower (stored i) i.n low lv ls lr li e h.0.held h.0.stores r
lower-end ByRow i low lv ls lr li s e window x r h = absurd x

-- ---- the counts

start-sum : (T : ℕ → List ℕ) (k : ℕ) → start_of T k ≡ sum k (λ j. length (T j))
unfolding start_of sum
start-sum T zero = refl
start-sum T (suc k) = rw (start-sum T k)

counts_of : (i : Input) (g : Progress) → g.lower.entries ≡ sum i.n (λ j. length (lower_row (stored i) j)) → g.upper.entries ≡ start_of (upper_row (stored i) i.n) i.n
    → g.products ≡ sum i.n (row_steps (stored i) i.n) → counts_at g ≡ counts i
unfolding counts
counts_of i g a b c = rw (a, b, c, start-sum (upper_row (stored i) i.n) i.n, products-rows (stored i) i.n)

-- those of the sides
lower-count : (f : Form) (i : Input) (low : List ℕ) (lv : ℕ) (ls lr li s : List ℕ) (e : Extent) (window : ℕ) → LowerAt f i low lv i.n ls lr li s e window
    → e.entries ≡ sum i.n (λ j. length (lower_row (stored i) j))
lower-count Plain i low lv ls lr li s e window h = h.0.entries-are ∙ start-sum (lower_row (stored i)) i.n
lower-count Shared i low lv ls lr li s e window h =
    h.0.held.entries-are ∙ start-sum (upper_row (flip (stored i)) i.n) i.n
    ∙ sum-ext i.n _ _ (λ k l. ap length (sym (lower-is-upper (stored i) i.n k))) ∙ sym (lower-rows-columns (stored i) i.n)
lower-count ByRow i low lv ls lr li s e window h = h

-- ---- the answer: low and up are the cleared index stores, as long as those that were lent

module _ (f : Form) (i : Input) (low : List ℕ) (lv : ℕ) (up : List ℕ) (uv a b : ℕ) (ea : length low ≡ a) (eb : length up ≡ b) where
  abbrev asked : Asked
  asked = ask_places f (stored i) i.n (slots_of (length low) lv (length up) uv) i.n

  stops : (q : Refusal) → asked ≡ Err q → ask_places f (stored i) i.n (slots_of a lv b uv) i.n ≡ Err q
  stops q e = rw (← ea, ← eb) e

  pub found-stop : (q : Refusal) → asked ≡ Err q → (us ur ui s : List ℕ) → Analyzed f i (slots_of a lv b uv) us ur ui uv s (Err q)
  found-stop q e us ur ui s = record {
    answer = rw (stops q e);
    upper = λ p. absurd (stop-pass q (sym (stops q e) ∙ p));
    inverse = λ p. absurd (stop-pass q (sym (stops q e) ∙ p));
  }

  pub both-stop : (q : Refusal) → asked ≡ Err q → (ls lr li us ur ui s : List ℕ) → AnalyzedBoth f i (slots_of a lv b uv) ls lr li lv us ur ui uv s (Err q)
  both-stop q e ls lr li us ur ui s = record { found = found-stop q e us ur ui s; lower = λ p. absurd (stop-pass q (sym (stops q e) ∙ p)) }

-- after the last place; the index stores were lent and cleared
blank-long : (l lent : List ℕ) → l ≡ blank 0 lent → length l ≡ length lent
blank-long l lent e = ap length e ∙ blank-length 0 lent

at_last : (f : Form) (i : Input) (low : List ℕ) (lv : ℕ) (up : List ℕ) (uv k : ℕ) (ls lr li us ur ui s : List ℕ) (g : Progress)
    → At f i low lv up uv k ls lr li us ur ui s g → i.n ≤ k → At f i low lv up uv i.n ls lr li us ur ui s g
at_last f i low lv up uv k ls lr li us ur ui s g at most = let e : k ≡ i.n = omega (arith, at.most) in rw e at at

pub found-end : (f : Form) (i : Input) (low : List ℕ) (lv : ℕ) (up : List ℕ) (uv a : ℕ) (above : List ℕ) (k : ℕ) (ls lr li us ur ui s : List ℕ) (g : Progress) (c : Counts) → length low ≡ a → up ≡ blank 0 above
    → At f i low lv up uv k ls lr li us ur ui s g → i.n ≤ k → c ≡ counts_at g → RunsIn f us ur → Analyzed f i (slots_of a lv (length above) uv) us ur ui uv s (Ok c)
found-end f i low lv up uv a above k ls lr li us ur ui s g c ea eb at most q r =
    let h = at_last f i low lv up uv k ls lr li us ur ui s g at most in
    rw (q, ← ea, ← blank-long up above eb) (record {
      answer = rw (h.passed, counts_of i g (lower-count f i low lv ls lr li s g.lower g.window h.lower) h.upper.held.entries-are h.products-are);
      upper = λ x. side-written f Upper (stored i) i.n up uv us ur ui g.upper h.upper.held h.upper.stores r above eb;
      inverse = λ x. h.begun.inverse;
    })

pub both_end : (f : Form) (i : Input) (low : List ℕ) (lv : ℕ) (up : List ℕ) (uv : ℕ) (below above : List ℕ) (k : ℕ) (ls lr li us ur ui s : List ℕ) (g : Progress) (c : Counts) → low ≡ blank 0 below → up ≡ blank 0 above
    → At f i low lv up uv k ls lr li us ur ui s g → i.n ≤ k → c ≡ counts_at g → RunsIn f us ur → RunsIn f ls lr → Keeps f
    → AnalyzedBoth f i (slots_of (length below) lv (length above) uv) ls lr li lv us ur ui uv s (Ok c)
both_end f i low lv up uv below above k ls lr li us ur ui s g c ea eb at most q r e x = record {
  found = found-end f i low lv up uv (length below) above k ls lr li us ur ui s g c (blank-long low below ea) eb at most q r;
  lower = λ p. lower-end f i low lv ls lr li s g.lower g.window x e (at_last f i low lv up uv k ls lr li us ur ui s g at most).lower below ea;
}
