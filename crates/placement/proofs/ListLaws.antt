-- Two lists that agree.
use Rattle.std.specs.Prelude.{ℕ, zero, suc, ◌≤◌, ◌≡◌, refl, true, false, length, take, eqb}
use Rattle.std.proofs.Common.{sym, ap₂, ◌∙◌, true≢false, arith, eqb-true}
use mathlib.Core.List.{List, [], ◌∷◌}
use Rattle.std.proofs.Math.Seq.{take-length}
use Rattle.placement.specs.Placing.{agree}
use Rattle.base.specs.Tests.{by-test}

pub agree-take : (n : ℕ) (xs ys : List ℕ) → n ≤ length xs → n ≤ length ys → agree xs ys ≡ true → take n xs ≡ take n ys
unfolding agree
agree-take zero xs ys h k e = refl
agree-take (suc n) [] ys h k e = absurd (omega arith)
agree-take (suc n) (x ∷ xs) [] h k e = absurd (omega arith)
agree-take (suc n) (x ∷ xs) (y ∷ ys) h k e =
    by-test (eqb x y)
    (λ t. ap₂ (λ u v. u ∷ v) (eqb-true x y t) (agree-take n xs ys (omega arith) (omega arith) (rw t at e)))
    (λ t. let z : false ≡ true = rw t at e in absurd (true≢false (sym z)))

pub agree-is : (xs ys : List ℕ) → length xs ≡ length ys → agree xs ys ≡ true → xs ≡ ys
agree-is xs ys l e = sym (take-length xs) ∙ agree-take (length xs) xs ys (omega arith) (omega arith) e ∙ rw l (take-length ys)
