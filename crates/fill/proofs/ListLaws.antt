-- Laws of the fill's lists: the transposed side, and tails.
use Rattle.std.specs.Prelude.{◌≡◌, true, ◌&&◌, ℕ, ◌<◌, drop}
use Rattle.std.proofs.Math.Path.{sym, ap}
use Rattle.std.proofs.Common.{◌∙◌, arith}
use Rattle.std.proofs.Math.ListN.{length}
use Rattle.std.proofs.Math.Dec.{ltb}
use borrow.Author.Tests.{ltb-true}
use Rattle.fill.specs.Fill.{Pattern, filled, upper, flip, upper_row, lower_column}
use Rattle.base.specs.Tests.{and_cases}
use Rattle.fill.proofs.RowRule.{filled-through, filled-flip}
use Rattle.base.specs.Lists.{count}
use Rattle.base.specs.AscLaws.{length-asc, asc-ext, count_same}
use Rattle.fill.specs.ListLaws.{at_most, tail-is}

-- The transposed side is the same theory.
pub lower-is-upper : (stored : Pattern) (n k : ℕ) → lower_column stored n k ≡ upper_row (flip stored) n k
unfolding lower_column upper_row upper
lower-is-upper stored n k = asc-ext _ _ n (λ j l. ap (λ x. ltb k j && x) (sym (filled-flip stored k j)))

module _ (stored : Pattern) (n : ℕ) where
  -- For i in lower row k, the entries of T(i) above k are all in T(k).
  tail-in : (i k : ℕ) → i < k → filled stored k i ≡ true → (j : ℕ) → (ltb k j && filled stored i j) ≡ true → upper stored k j ≡ true
  unfolding upper
  tail-in i k l f j h =
      let p = and_cases (ltb k j) (filled stored i j) h in
      rw p.0 (filled-through stored k i j l (omega (arith, ltb-true k j p.0)) f p.1)

  -- If they are as many, the two lists are equal.
  pub tail-same : (i k : ℕ) → i < k → k < n → filled stored k i ≡ true
      → length (drop (at_most stored n i k) (upper_row stored n i)) ≡ length (upper_row stored n k)
      → drop (at_most stored n i k) (upper_row stored n i) ≡ upper_row stored n k
  unfolding upper_row
  tail-same i k l h f e =
      let c : count (λ j. ltb k j && filled stored i j) n ≡ count (upper stored k) n
      = sym (length-asc _ n) ∙ ap length (sym (tail-is stored n i k l h)) ∙ e ∙ length-asc (upper stored k) n in
      tail-is stored n i k l h ∙ asc-ext _ _ n (count_same (λ j. ltb k j && filled stored i j) (upper stored k) n (λ j q. tail-in i k l f j) c)
