-- The ways through the shape of a file, and what a file that opens has settled.
use Rattle.std.specs.Prelude.{Ok, Err}
use mathlib.Core.Path.{◌≡◌, refl, sym, ap, ◌∙◌}
use mathlib.Core.Bool.{true}
use mathlib.Core.List.{List}
use Prim.Native.Nat.{ℕ, ◌/◌, ◌≤◌}
use native.Mathlib.Omega.{arith}
use borrow.Author.Tests.{eqb-true}
use lib.Dec.{eqb}
use lib.ListN.{length}
use Rattle.base.specs.Tests.{and_cases}
use Rattle.base.specs.FirstLaws.{both-pass, holds-pass}
use Rattle.base.specs.Answers.{holds, and_then, Pass, Kept, Asked}
use Rattle.base.specs.declared.FactorSizes.{FactorSizes}
use Rattle.base.specs.declared.Refusal.{Refusal}
use Rattle.base.specs.declared.Refusal.TheVariants.{Rows, FactorShape}
use Rattle.base.specs.Limits.{max_rows, rows_within}
use Rattle.matrix.specs.ListsLaws.{rows-range}
use Rattle.fields.specs.Payload.{room}
use Rattle.blocks.specs.Blocks.{blocks_for, ends_at, ask_blocks}
use Rattle.blocks.proofs.FileLaws.{asked-whole}
use Rattle.factor_contents.specs.FactorFile.{size_of, n_of, counts_in, sizes_in, ask_head, ask_file, shaped, opened}

-- 512 bytes hold n and the counts
pub head-room : (file : List ℕ) (a : Asked) → a ≡ ask_blocks file → a ≡ Pass → 20 ≤ room file
head-room file a e p = let w = asked-whole file (sym e ∙ p) in omega arith

-- ---- the shape of a file

module _ (file : List ℕ) (s : FactorSizes) (en : s.n ≡ n_of file) (el : s.lower ≡ (counts_in file).lower) (eu : s.upper ≡ (counts_in file).upper)
    (a : Asked) (ask : a ≡ ask_head file s.n s.lower s.upper) where
  head-is : ask_head file (n_of file) (counts_in file).lower (counts_in file).upper ≡ a
  head-is = sym (ask ∙ rw (en, el, eu))

  sizes-are : s ≡ sizes_in file
  sizes-are = λ t. record { n = en t; lower = el t; upper = eu t }

  pub head-pass : a ≡ Pass → Ok s ≡ shaped (ask_head file (n_of file) (counts_in file).lower (counts_in file).upper) (sizes_in file)
  head-pass p = rw (head-is, p) (ap Ok sizes-are)

  pub head-stop : (q : Refusal) → a ≡ Err q → Err q ≡ shaped (ask_head file (n_of file) (counts_in file).lower (counts_in file).upper) (sizes_in file)
  head-stop q p = rw (head-is, p)

module _ (file : List ℕ) (a : Asked) (ask : a ≡ ask_blocks file) where
  pub shape-stop : (q : Refusal) → a ≡ Err q → Err q ≡ opened file
  unfolding opened ask_file
  shape-stop q p = rw (← ask, p)

  pub shape-head : (x : Kept) → a ≡ Pass → x ≡ shaped (ask_head file (n_of file) (counts_in file).lower (counts_in file).upper) (sizes_in file) → x ≡ opened file
  unfolding opened ask_file
  shape-head x p h = rw (← ask, p, h)

-- ---- a file that opens

shaped-pass : (a : Asked) (s t : FactorSizes) → Ok s ≡ shaped a t → (a ≡ Pass) × (s ≡ t)
shaped-pass (Ok _) s t e = (refl, cc)
shaped-pass (Err q) s t e = let z : ◌≡◌ {A = ℕ} 0 1 = cc in absurd (omega arith)

shaped-stop : (a : Asked) (q : Refusal) (s : FactorSizes) → Err q ≡ shaped a s → a ≡ Err q
shaped-stop (Err p) q s e = cc
shaped-stop (Ok _) q s e = let z : ◌≡◌ {A = ℕ} 0 1 = cc in absurd (omega arith)

pub opened-pass : (file : List ℕ) (s : FactorSizes) → Ok s ≡ opened file → (ask_file file ≡ Pass) × (s ≡ sizes_in file)
unfolding opened
opened-pass file s e = shaped-pass (ask_file file) s (sizes_in file) e

pub opened-stop : (file : List ℕ) (q : Refusal) → Err q ≡ opened file → ask_file file ≡ Err q
unfolding opened
opened-stop file q e = shaped-stop (ask_file file) q (sizes_in file) e

pub record Fitting (file : List ℕ) (n lower upper : ℕ) : Type 0 where
  pub asked : ask_blocks file ≡ Pass
  pub n-some : 1 ≤ n
  pub n-most : n ≤ max_rows
  pub ends : ends_at file (size_of n lower upper) ≡ true
  pub count : length file / 512 ≡ blocks_for (size_of n lower upper)

pub fitting : (file : List ℕ) → ask_file file ≡ Pass → Fitting file (n_of file) (counts_in file).lower (counts_in file).upper
unfolding ask_file ask_head
fitting file p =
    let n = n_of file in
    let k = counts_in file in
    let size = size_of n k.lower k.upper in
    let both = both-pass (ask_blocks file) (and_then (holds (rows_within n) Rows) (holds (ends_at file size) FactorShape)) p in
    let head = both-pass (holds (rows_within n) Rows) (holds (ends_at file size) FactorShape) both.1 in
    let rows = rows-range n (holds-pass (rows_within n) Rows head.0) in
    let ends = holds-pass (ends_at file size) FactorShape head.1 in
    record {
      asked = both.0;
      n-some = rows.0;
      n-most = rows.1;
      ends = ends;
      count = eqb-true (length file / 512) (blocks_for size) (and_cases (eqb (length file / 512) (blocks_for size)) _ ends).0;
    }
