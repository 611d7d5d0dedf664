-- What questions 1 and 2 settle.
use Rattle.std.specs.Prelude.{ℕ, ◌+◌, ◌≤◌, ◌≡◌, Bool, true, false, not, ◌&&◌, leb, eqb}
use Rattle.std.proofs.Common.{sym, ◌∙◌, leb-true, eqb-true}
use Rattle.std.proofs.lemmas.Bool.{not-false}
use Rattle.base.specs.Tests.{and_cases}
use Rattle.base.specs.Limits.{max_rows, rows_within}
use Rattle.matrix.specs.Lists.{lengths_right}

pub rows-range : (n : ℕ) → rows_within n ≡ true → (1 ≤ n) × (n ≤ max_rows)
rows-range n t = let a = and_cases (leb 1 n) (leb n max_rows) t in (leb-true 1 n a.0, leb-true n max_rows a.1)

pub range-of : (n : ℕ) (r : Bool) → r ≡ rows_within n → not r ≡ false → n ≤ max_rows
range-of n r e f = (rows-range n (sym e ∙ not-false r f)).1

pub record Long (n e s j v r c b : ℕ) : Type 0 where
  pub starts-long : s ≡ n + 1
  pub columns-long : j ≡ e
  pub values-long : v ≡ e
  pub r-long : r ≡ n
  pub c-long : c ≡ n
  pub b-long : b ≡ n

pub long-lists : (n e s j v r c b : ℕ) → lengths_right n e s j v r c b ≡ true → Long n e s j v r c b
long-lists n e s j v r c b t =
    let a₅ = and_cases (eqb s (n + 1) && eqb j e && eqb v e && eqb r n && eqb c n) (eqb b n) t in
    let a₄ = and_cases (eqb s (n + 1) && eqb j e && eqb v e && eqb r n) (eqb c n) a₅.0 in
    let a₃ = and_cases (eqb s (n + 1) && eqb j e && eqb v e) (eqb r n) a₄.0 in
    let a₂ = and_cases (eqb s (n + 1) && eqb j e) (eqb v e) a₃.0 in
    let a₁ = and_cases (eqb s (n + 1)) (eqb j e) a₂.0 in
    record {
      starts-long = eqb-true s (n + 1) a₁.0;
      columns-long = eqb-true j e a₁.1;
      values-long = eqb-true v e a₂.1;
      r-long = eqb-true r n a₃.1;
      c-long = eqb-true c n a₄.1;
      b-long = eqb-true b n a₅.1;
    }
