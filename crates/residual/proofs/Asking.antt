-- Laws of the call's questions: each from the tests that the code makes, and what they settle when they are passed.
use Rattle.std.specs.Prelude.{Err}
use mathlib.Core.Path.{◌≡◌, refl, sym, ◌∙◌}
use mathlib.Core.Bool.{Bool, true, false, not, ◌&&◌}
use mathlib.Core.List.{List, [], ◌∷◌}
use Prim.Native.Nat.{ℕ, ◌+◌, ◌≤◌, ◌<◌}
use native.Mathlib.Omega.{arith}
use borrow.Author.Tests.{le-ltb, lt-ltb, ltb-true, eqb-true, leb-true, not-true}
use lib.Dec.{ltb, leb, eqb}
use lib.ListN.{length}
use lib.Ieee.{Float}
use Rattle.base.specs.All.{all}
use Rattle.base.specs.AllLaws.{all_true}
use Rattle.base.specs.Tests.{and_cases}
use Rattle.base.specs.Limits.{max_rows, max_entries}
use Rattle.base.specs.Answers.{holds, and_then, Pass, Asked}
use Rattle.base.specs.FirstLaws.{both-pass, holds-pass}
use Rattle.base.specs.declared.OwnNumber.{OwnNumber}
use Rattle.base.specs.declared.Refusal.{Refusal}
use Rattle.base.specs.declared.Refusal.TheVariants.{Order, EmptyRow}
use Rattle.matrix.specs.Input.{Input, input_of}
use Rattle.matrix.specs.Questions.{no_entry, ask3, ask4, ask6, ask_finite}
use Rattle.questions.specs.Settled.{Finite}
use Rattle.questions.specs.SettledLaws.{settled3, settled4, settled_finite}
use Rattle.outcome.proofs.Making as making
use Rattle.residual.specs.Answer.{size_tests, ask_sizes, ask_entries, ask_row}
use Rattle.residual.specs.Lent.{Sized, Readable}

-- ---- 1 and 2

-- the test of e in front
pub e-first : (n s j v b x : ℕ) → all (size_tests n s j v b x) ≡ (leb j max_entries && (eqb s (n + 1) && eqb v j && eqb b n && eqb x n))
e-first n s j v b x = by_cases (leb j max_entries)
  where
    by_cases : (l : Bool) → all (l ∷ eqb s (n + 1) ∷ eqb v j ∷ eqb b n ∷ eqb x n ∷ []) ≡ (l && (eqb s (n + 1) && eqb v j && eqb b n && eqb x n))
    by_cases true = refl
    by_cases false = refl

-- ---- 5 and 7, of the own row

pub out-stop : (n i : ℕ) (next r : Asked) (q : Refusal) → n ≤ i → r ≡ Err q → r ≡ and_then (holds (ltb i n) q) next
out-stop n i next r q h e = rw (le-ltb i n h) e

pub out-pass : (n i : ℕ) (next r : Asked) (q : Refusal) → i < n → r ≡ next → r ≡ and_then (holds (ltb i n) q) next
out-pass n i next r q h e = rw (lt-ltb i n h) e

pub entry-stop : (s : List ℕ) (i : ℕ) (b : Bool) (r : Asked) (q : Refusal) → b ≡ no_entry s i → b ≡ true → r ≡ Err q → r ≡ holds (not (no_entry s i)) q
entry-stop s i b r q e h g = rw (← e, h) g

pub entry-pass : (s : List ℕ) (i : ℕ) (b : Bool) (r : Asked) (q : Refusal) → b ≡ no_entry s i → b ≡ false → r ≡ Pass → r ≡ holds (not (no_entry s i)) q
entry-pass s i b r q e h g = rw (← e, h) g

-- ---- what they settle

pub sized : (i : Input) (x : List Float) → ask_sizes i.n (length i.starts) (length i.columns) (length i.values) (length i.b) (length x) ≡ Pass → Sized i x
unfolding ask_sizes
sized i x h =
    let tests = size_tests i.n (length i.starts) (length i.columns) (length i.values) (length i.b) (length x) in
    let a = making.passed i.n tests h in
    let t = all_true tests a.1 in
    record {
      few = leb-true _ max_rows (and_cases (leb 1 i.n) (leb i.n max_rows) a.0).1;
      columns = leb-true _ _ (t 0);
      starts = eqb-true _ _ (t 1);
      values = eqb-true _ _ (t 2);
      right = eqb-true _ _ (t 3);
      scores = eqb-true _ _ (t 4);
    }

-- the same of what the first question answered
pub sized-by : (n : ℕ) (s j : List ℕ) (v b x : List Float) (o : Asked) → o ≡ ask_sizes n (length s) (length j) (length v) (length b) (length x) → o ≡ Pass
    → Sized (input_of n s j v [] [] b) x
sized-by n s j v b x o e h = sized (input_of n s j v [] [] b) x (sym e ∙ h)

pub record Passed (i : Input) (x : List Float) (k : OwnNumber) : Type 0 where
  pub sizes : Sized i x
  pub readable : Readable i x k
  pub values : Finite i.values
  pub scores : Finite x
  pub entry : no_entry i.starts k.0 ≡ false

pub passed : (i : Input) (x : List Float) (k : OwnNumber) → ask_row i x k ≡ Pass → Passed i x k
unfolding ask_row ask_entries ask6 Finite
passed i x k h =
    let a = both-pass (ask_sizes i.n (length i.starts) (length i.columns) (length i.values) (length i.b) (length x)) _ h in
    let z = sized i x a.0 in
    let a3 = both-pass (ask3 i.n (length i.columns) i.starts) _ a.1 in
    let a4 = both-pass (ask4 i.n i.columns) _ a3.1 in
    let a5 = both-pass (holds (ltb k.0 i.n) (Order k.0)) _ a4.1 in
    let a6 = both-pass (ask6 i.values i.b) _ a5.1 in
    let av = both-pass (ask_finite i.values 0) (ask_finite i.b (length i.values)) a6.0 in
    let ax = both-pass (ask_finite x (length i.columns + i.n)) (holds (not (no_entry i.starts k.0)) (EmptyRow k)) a6.1 in
    let below : k.0 < i.n = ltb-true k.0 i.n (holds-pass _ (Order k.0) a5.0) in
    record {
      sizes = z;
      readable = record {
        row = omega arith;
        columns = z.columns;
        values = z.values;
        within = settled3 i.n (length i.columns) i.starts a3.0 z.starts k.0 below;
        ends = settled_finite i.b (length i.values) av.1 k.0 (omega arith);
        under = rw z.scores (settled4 i.n i.columns a4.0);
      };
      values = settled_finite i.values 0 av.0;
      scores = settled_finite x (length i.columns + i.n) ax.0;
      entry = not-true _ (holds-pass (not (no_entry i.starts k.0)) (EmptyRow k) ax.1);
    }
