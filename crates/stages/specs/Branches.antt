-- A call's branches on an answer, by a test: what the answer then is.
use Rattle.std.specs.Prelude.{◌≡◌, refl, Bool, true, false, ℕ, Ok, Err, is_err, IsErrAnd}
use Rattle.std.proofs.Common.{sym, ap, ◌∙◌, arith}
use Rattle.base.specs.FirstLaws.{passed-on}
use Rattle.base.specs.Answers.{counts_of, Pass, Asked, Answer}
use Rattle.base.specs.declared.Counts.{Counts}
use Rattle.base.specs.declared.Refusal.{Refusal}
use Rattle.symbolic.specs.Pass.{found_answer}

-- no test has both answers
pub never : {A : Type 0} (b : Bool) → b ≡ false → b ≡ true → A
never b e h = let y : false ≡ true = sym e ∙ h in let z : ◌≡◌ {A = ℕ} 0 1 = cc in absurd (omega arith)

pub pass_of : (a : Asked) → is_err a ≡ false → a ≡ Pass
pass_of (Ok _) h = refl
pass_of (Err q) h = never true h refl

pub answer-as : (a : Asked) (k : Counts) (o : Asked) → a ≡ o → found_answer o k ≡ found_answer a k
answer-as a k o e = rw e

-- what `?` makes of the questions after the structure pass: their refusal, or its counts
pub answer-err : (a : Asked) (k : Counts) (r : Answer) (q : Refusal) → a ≡ Err q → IsErrAnd r (λ x. x ≡ q) → r ≡ found_answer a k
answer-err a k r q h e = passed-on r q e ∙ answer-as a k (Err q) h

pub answer-ok : (a : Asked) (k : Counts) → a ≡ Pass → Ok k ≡ found_answer a k
answer-ok a k = answer-as a k Pass

-- the end of a call without counts is what its questions answer
pub end-as : (a o : Asked) → a ≡ o → o ≡ a
end-as a o e = sym e

-- the counts of a pass that does not refuse
pub done-with : (a : Answer) (b : Bool) (k : Counts) → b ≡ is_err a → b ≡ false → k ≡ counts_of a → a ≡ Ok k
done-with (Ok c) b k e h g = ap Ok (sym g)
done-with (Err q) b k e h g = never b h e

pub found-done : (o : Asked) (c k : Counts) (a : Answer) → a ≡ found_answer o c → a ≡ Ok k → (o ≡ Pass) × (k ≡ c)
found-done (Ok _) c k a e h = (refl, let g : Ok k ≡ Ok c = sym h ∙ e in cc)
found-done (Err q) c k a e h = let g : Ok k ≡ Err q = sym h ∙ e in let z : ◌≡◌ {A = ℕ} 0 1 = cc in absurd (omega arith)

pub found-refused : (o : Asked) (c : Counts) (q : Refusal) (a : Answer) → a ≡ found_answer o c → a ≡ Err q → o ≡ Err q
found-refused (Ok _) c q a e h = let g : Ok c ≡ Err q = sym e ∙ h in let z : ◌≡◌ {A = ℕ} 0 1 = cc in absurd (omega arith)
found-refused (Err p) c q a e h = let g : Err p ≡ Err q = sym e ∙ h in let r : p ≡ q = cc in ap Err r
