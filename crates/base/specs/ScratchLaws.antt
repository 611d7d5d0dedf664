-- Two regions on.
use Rattle.std.specs.Prelude.{◌≡◌, List, ℕ, ◌+◌, ◌*◌, drop}
use Rattle.std.proofs.Common.{ap, ◌∙◌, arith, drop-drop}

pub drop-twice : {A : Type 0} (n : ℕ) (l : List A) → drop n (drop n l) ≡ drop (2 * n) l
drop-twice n l = let e : n + n ≡ 2 * n = omega arith in drop-drop n n l ∙ ap (λ m. drop m l) e
