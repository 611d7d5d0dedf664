-- A row as it is read from the stores, and its answer from the sums and the two tests of the code.
use mathlib.Core.Path.{◌≡◌, refl, sym, ap, ◌∙◌}
use mathlib.Core.Bool.{Bool, true, ◌&&◌, cond}
use mathlib.Core.List.{List, [], ◌∷◌}
use Prim.Native.Nat.{ℕ, suc, ◌≤◌}
use native.Mathlib.Omega.{arith}
use lib.ListN.{length, length-map}
use lib.Ieee.{Float}
use lib.Ieee.Scale.{finite}
use Rattle.base.specs.Lists.{row_of, pairs}
use Rattle.base.specs.declared.OwnNumber.{OwnNumber}
use Rattle.lent.specs.Reading.{length_in}
use Rattle.lent.specs.ReadingLaws.{list_length, list-below}
use Rattle.matrix.specs.Input.{Input}
use Rattle.residual.specs.Residual.{Entry, longest_row, residual_from, total_of, width_from}
use Rattle.residual.specs.Answer.{scores, entries_of, right_of, row_answer}
use Rattle.residual.specs.Lent.{RowLent, Readable}
use Rattle.residual.specs.declared.Checked.TheVariants.{Pair, Refused}
use Rattle.residual.proofs.Finite.{results-finite}

pairs-length : (v u : List Float) → length v ≡ length u → length (pairs v u) ≡ length u
unfolding pairs
pairs-length [] u e = e
pairs-length (v ∷ vs) [] e = refl
pairs-length (v ∷ vs) (u ∷ us) e = ap suc (pairs-length vs us (cc))

scores-length : (x : List Float) (j : List ℕ) → length (scores x j) ≡ length j
unfolding scores
scores-length x j = simp length-map

pub entries-length : (v x : List Float) (j : List ℕ) → length v ≡ length j → length (pairs v (scores x j)) ≡ length j
entries-length v x j e = let s = scores-length x j in pairs-length v (scores x j) (e ∙ sym s) ∙ s

answer-is : (b : Float) (l : List Entry) (k : OwnNumber) (q : ℕ) (r t w : Float) (f g : Bool) → finite b ≡ true → length l ≡ q → r ≡ residual_from b l → t ≡ total_of b l → w ≡ width_from t q
    → f ≡ finite r → g ≡ finite w → cond (f && g) (Pair r w) (Refused 22 k.0) ≡ row_answer b l k
unfolding row_answer
answer-is b l k q r t w f g h e er et ew ef eg = sym (rw (results-finite b l h, ef, eg, ew, ← e, et, er))

module _ (i : Input) (x : List Float) (k : OwnNumber) (h : Readable i x k) where
  same_length : length (row_of i.starts i.values k.0) ≡ length (row_of i.starts i.columns k.0)
  same_length = list_length i.starts i.starts i.values k.0 (rw h.values h.within) ∙ sym (list_length i.starts i.starts i.columns k.0 h.within)

  -- q, and that it is within the limit of e
  row-length : length (row_of i.starts i.columns k.0) ≡ length_in i.starts k.0
  row-length = list_length i.starts i.starts i.columns k.0 h.within

  pub count : length (entries_of i x k) ≡ length_in i.starts k.0
  count = entries-length _ x _ same_length ∙ row-length

  module _ (own : List ℕ) (eo : own ≡ row_of i.starts i.columns k.0) where
    pub few : length own ≤ longest_row
    few = let l = row-length in let c = h.columns in let s = h.within.inside in rw eo (omega arith)

    module _ (entries : List Float) (ee : entries ≡ row_of i.starts i.values k.0) where
      pub row-lent : RowLent own entries x
      row-lent = rw (eo, ee) (record { same = same_length; under = list-below (length x) i.starts i.starts i.columns k.0 h.under })

      -- the answer by the two tests
      pub row_is : (b r t w : Float) (f g : Bool) → b ≡ right_of i k → r ≡ residual_from b (pairs entries (scores x own)) → t ≡ total_of b (pairs entries (scores x own)) → w ≡ width_from t (length own)
          → f ≡ finite r → g ≡ finite w → (y : Bool) → (f && g) ≡ y → cond y (Pair r w) (Refused 22 k.0) ≡ row_answer (right_of i k) (entries_of i x k) k
      row_is b r t w f g eb er et ew ef eg y ey =
          rw (← ey, ← eb, ← eo, ← ee) (answer-is b _ k (length own) r t w f g (rw eb h.ends) (entries-length entries x own row-lent.same) er et ew ef eg)
