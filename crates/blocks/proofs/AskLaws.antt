-- Questions one after another: a test answered r, as the code asks it, by `if !r`.
use Rattle.std.specs.Prelude.{Err}
use mathlib.Core.Path.{◌≡◌}
use mathlib.Core.Bool.{Bool, true, false, not}
use borrow.Author.Tests.{not-true, not-false}
use Rattle.base.specs.Answers.{holds, and_then, Pass, Asked}
use Rattle.base.specs.declared.Refusal.{Refusal}

pub then-no : (t r : Bool) (q : Refusal) (next : Asked) → r ≡ t → not r ≡ true → Err q ≡ and_then (holds t q) next
then-no t r q next e n = rw (← e, not-true r n)

pub then-yes : (t r : Bool) (q : Refusal) (next a : Asked) → r ≡ t → not r ≡ false → a ≡ next → a ≡ and_then (holds t q) next
then-yes t r q next a e n f = rw (← e, not-false r n, f)

pub holds-no : (t r : Bool) (q : Refusal) → r ≡ t → not r ≡ true → Err q ≡ holds t q
holds-no t r q e n = rw (← e, not-true r n)

pub holds-yes : (t r : Bool) (q : Refusal) → r ≡ t → not r ≡ false → Pass ≡ holds t q
holds-yes t r q e n = rw (← e, not-false r n)
