-- L by columns: what the cursors leave is the paper's L along column k.
use Rattle.std.specs.Prelude.{◌≡◌, refl, Bool, true, false, ◌&&◌, List, [], ◌∷◌, ◌++◌, map, ℕ, zero, suc, ◌+◌, get_or, eqb, ltb, Float}
use Rattle.std.proofs.Common.{sym, ap, ap₂, ◌∙◌, true≢false, arith}
use Rattle.std.proofs.lemmas.List.{map-append}
use Rattle.std.proofs.Math.Seq.{take-length}
use Rattle.std.specs.Float.{nan}
use Rattle.base.specs.Lists.{has, asc, keep}
use Rattle.base.specs.Tests.{by-test}
use Rattle.base.specs.AscLaws.{has-asc, length-asc, count-ext}
use Rattle.base.specs.declared.Form.TheVariants.{Shared}
use Rattle.base.specs.declared.Side.TheVariants.{Lower}
use Rattle.fill.specs.Fill.{Pattern, filled, upper, upper_row, lower_row, flip}
use Rattle.fill.proofs.RowRule.{filled-flip}
use Rattle.placement.specs.Placing.{first_at}
use Rattle.matrix.specs.Input.{Input, stored}
use Rattle.arithmetic.specs.Arith.{Row}
use Rattle.outcome.specs.Forms.{placed_to, index_need}
use Rattle.outcome.specs.Placed.{PlacedSide, size-at}
use Rattle.outcome.specs.Solve.{system, multiplier}
use Rattle.numeric.specs.Rows.{l_of, only, beside, column_of, Fitting}
use Rattle.factor.specs.Factoring.{Starts}

-- ---- the values

beside-is : (js : List ℕ) (ls : List Float) (i : ℕ) → has js i ≡ true → beside js ls i ≡ get_or ls (first_at i js) nan
unfolding has beside first_at
beside-is [] ls i h = absurd (true≢false (sym h))
beside-is (j ∷ js) [] i h = refl
beside-is (j ∷ js) (l ∷ ls) i h = by-test (eqb j i) (λ e. rw e) (λ e. rw e (beside-is js ls i (rw e at h)))

-- (m, i) is below the diagonal and filled: by row m, and by column i
pub member-flip : (P : Pattern) (m i : ℕ) → has (lower_row P m) i ≡ upper (flip P) i m
unfolding lower_row upper
member-flip P m i = has-asc (filled P m) m i ∙ ap (λ x. ltb i m && x) (sym (filled-flip P i m))

column-to : (P : Pattern) (rows : List Row) (k i : ℕ) → column_of (lower_row P) rows k i ≡ map (λ j. multiplier P rows j i) (asc (upper (flip P) i) k)
unfolding column_of asc
column-to P rows zero i = refl
column-to P rows (suc m) i =
    ap₂ ◌++◌ (column-to P rows m i) (one (upper (flip P) i m) (member-flip P m i)) ∙ sym (map-append (λ j. multiplier P rows j i) (asc (upper (flip P) i) m) (keep (upper (flip P) i m) m))
  where
    one : (b : Bool) → has (lower_row P m) i ≡ b → only (has (lower_row P m) i) (beside (lower_row P m) (l_of rows m) i) ≡ map (λ j. multiplier P rows j i) (keep b m)
    one true e = rw e (ap (λ (x : Float). x ∷ []) (beside-is (lower_row P m) (l_of rows m) i e))
    one false e = rw e

pub column-is : (P : Pattern) (n : ℕ) (rows : List Row) (i : ℕ) → column_of (lower_row P) rows n i ≡ map (λ j. multiplier P rows j i) (upper_row (flip P) n i)
unfolding upper_row
column-is P n rows i = column-to P rows n i

-- ---- the slots

-- the lower side, with the index store that its starts belong to
pub shared-side : (P : Pattern) (n : ℕ) (starts : List ℕ) (values : ℕ) → Starts Shared P n starts values
    → PlacedSide Shared Lower P n starts (placed_to Shared Lower P n n).runs (placed_to Shared Lower P n n).slots values
unfolding index_need
shared-side P n starts values S = record {
  starts-are = S.starts-are;
  runs-are = refl;
  slots-are = take-length (placed_to Shared Lower P n n).slots;
  index_in = omega arith;
  values-in = S.values-in;
}

pub shared-fits : (i : Input) (starts : List ℕ) (values : ℕ) → Starts Shared (stored i) i.n starts values → Fitting (system i) starts
unfolding system upper_row
shared-fits i starts values S j b =
    let P = stored i in
    size-at Shared Lower P i.n starts _ _ values (shared-side P i.n starts values S) j b
    ∙ ap (λ (m : ℕ). get_or starts j 0 + m) (length-asc (upper (flip P) j) i.n ∙ count-ext (upper (flip P) j) (λ m. has (lower_row P m) j) i.n (λ m l. sym (member-flip P m j)))
