-- The ways through the questions of the contents.
use Rattle.std.specs.Prelude.{Err}
use mathlib.Core.Path.{◌≡◌, sym, ap₂, ◌∙◌}
use mathlib.Core.Bool.{true, false, not, ◌&&◌}
use mathlib.Core.List.{List}
use Prim.Native.Nat.{ℕ, ◌+◌, ◌-◌, ◌≤◌}
use lib.ListN.{length, get_or, take}
use lib.Seq.{length-take-le}
use lib.Dec.{eqb}
use borrow.Author.Tests.{not-true, not-false}
use Rattle.base.specs.Answers.{spot, Pass, Asked}
use Rattle.base.specs.declared.Counts.{Counts}
use Rattle.base.specs.declared.Form.TheVariants.{Plain}
use Rattle.base.specs.declared.Refusal.{Refusal}
use Rattle.base.specs.declared.Refusal.TheVariants.{BadFactors, Products}
use Rattle.outcome.specs.Resolve.{ask_factors}
use Rattle.matrix.specs.Questions.{ask5}
use Rattle.fields.specs.Payload.{fields_at}
use Rattle.factor_contents.specs.FactorFile.{FactorLists, ask15, products_of, ask_contents}
use Rattle.factor_contents.specs.Judging.{presented_lists}

-- a is what 15 answers wherever the starts end
module _ (n lower upper : ℕ) (l : FactorLists) (a : Asked) (e : a ≡ ask_factors Plain n (presented_lists l)) where
  pub ask15-stop : (q : Refusal) → a ≡ Err q → Err q ≡ ask15 n lower upper l
  unfolding ask15
  ask15-stop q p = rw (← e, p)

  -- x and y are where they end
  module _ (p : a ≡ Pass) (x y : ℕ) (ex : get_or l.lower-starts n 0 ≡ x) (ey : get_or l.upper-starts n 0 ≡ y) where
    pub ask15-end : not (eqb x lower && eqb y upper) ≡ true → Err (BadFactors (spot (n - 1))) ≡ ask15 n lower upper l
    unfolding ask15
    ask15-end h = rw (← e, p, ex, ey, not-true (eqb x lower && eqb y upper) h)

    pub ask15-pass : not (eqb x lower && eqb y upper) ≡ false → Pass ≡ ask15 n lower upper l
    unfolding ask15
    ask15-pass h = rw (← e, p, ex, ey, not-false (eqb x lower && eqb y upper) h)

-- ---- 5 of copies

pub part-long : {A : Type 0} (m : ℕ) (l : List A) (k : ℕ) → k ≡ length l → m ≤ k → m ≡ length (take m l)
part-long m l k e h = sym (length-take-le m l (rw (← e) h))

pub asked-copies : (file : List ℕ) (n r c i j : ℕ) (x y : List ℕ) (a : Asked) → i ≡ n → j ≡ n → x ≡ fields_at 2 file r i → y ≡ fields_at 2 file c j → a ≡ ask5 n x y
    → a ≡ ask5 n (fields_at 2 file r n) (fields_at 2 file c n)
asked-copies file n r c i j x y a ei ej ex ey e = e ∙ rw (ex, ey, ei, ej)

-- what is asked where the parts stand, spelt otherwise
pub orders-there : (file : List ℕ) (n r c r' c' : ℕ) (a : Asked) → r ≡ r' → c ≡ c' → a ≡ ask5 n (fields_at 2 file r n) (fields_at 2 file c n) → a ≡ ask5 n (fields_at 2 file r' n) (fields_at 2 file c' n)
orders-there file n r c r' c' a er ec e = e ∙ ap₂ (λ (r : ℕ) (c : ℕ). ask5 n (fields_at 2 file r n) (fields_at 2 file c n)) er ec

pub products-there : (file : List ℕ) (n lower i t i' t' s : ℕ) → i ≡ i' → t ≡ t' → s ≡ products_of (fields_at 2 file i lower) (fields_at 4 file t (n + 1))
    → s ≡ products_of (fields_at 2 file i' lower) (fields_at 4 file t' (n + 1))
products-there file n lower i t i' t' s ei et e = e ∙ ap₂ (λ (i : ℕ) (t : ℕ). products_of (fields_at 2 file i lower) (fields_at 4 file t (n + 1))) ei et

-- ---- 5, 15 and 21

module _ (n : ℕ) (k : Counts) (l : FactorLists) (a : Asked) (e : a ≡ ask5 n l.r l.c) where
  pub contents-5 : (q : Refusal) → a ≡ Err q → Err q ≡ ask_contents n k l
  unfolding ask_contents
  contents-5 q p = rw (← e, p)

  module _ (p : a ≡ Pass) (b : Asked) (f : b ≡ ask15 n k.lower k.upper l) where
    pub contents-15 : (q : Refusal) → b ≡ Err q → Err q ≡ ask_contents n k l
    unfolding ask_contents
    contents-15 q h = rw (← e, p, ← f, h)

    module _ (h : b ≡ Pass) (s : ℕ) (g : s ≡ products_of l.lower-index l.upper-starts) where
      pub contents-21 : not (eqb k.products s) ≡ true → Err Products ≡ ask_contents n k l
      unfolding ask_contents
      contents-21 t = rw (← e, p, ← f, h, ← g, not-true (eqb k.products s) t)

      pub contents-pass : not (eqb k.products s) ≡ false → Pass ≡ ask_contents n k l
      unfolding ask_contents
      contents-pass t = rw (← e, p, ← f, h, ← g, not-false (eqb k.products s) t)
