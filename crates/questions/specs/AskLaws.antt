-- Laws of the questions' answers, in the forms that `search` applies: each fact is a premise of its own.
use Rattle.std.specs.Prelude.{◌≡◌, refl, Bool, true, List, ℕ, ◌+◌, ◌≤◌, ◌<◌, length, get_or, Some, None, Err}
use Rattle.std.proofs.Common.{sym, ◌∙◌, ap, add-zero}
use Rattle.std.proofs.Common.{arith}
use Rattle.std.specs.Prelude.{IsErrAnd}
use Rattle.std.specs.List.{position, position_or_len}
use Rattle.std.proofs.Common.{ltb-false}
use Rattle.base.specs.Tests.{by-test}
use borrow.Author.Tests.{ltb-true}
use Rattle.std.proofs.lemmas.Result.{err_from_is_err_and}
use Rattle.std.proofs.lemmas.List.Sums.{fails_before_first, passes_at_first}
use Rattle.std.specs.Prelude.{ltb}
use Rattle.base.specs.First.{first}
use Rattle.base.specs.FirstLaws.{first-at, first_found, first-end, first-all}
use Rattle.base.specs.Answers.{own, absent, and_then, Pass, Found, Asked}
use Rattle.base.specs.declared.Refusal.{Refusal}
use Rattle.base.specs.declared.Refusal.TheVariants.{Order}
use Rattle.matrix.specs.Questions.{bad_index, no_entry, empty_row, ask5}
use Rattle.base.specs.declared.OwnNumber.{OwnNumber}
use Rattle.questions.specs.Lent.{ask_order}

module _ (t : ℕ → Bool) (f : ℕ → Refusal) where
  -- the loop stops at i
  pub ask-at : (i n : ℕ) (a : Asked) → i < n → first t i ≡ None → t i ≡ true → a ≡ Err (f i) → a ≡ absent (first t n) f
  ask-at i n a l h y g = rw (first-at t i n l h y) g

  -- the same, where b is what the test of i answered
  pub ask-stop : (b : Bool) (i n : ℕ) (a : Asked) → i < n → first t i ≡ None → b ≡ t i → b ≡ true → a ≡ Err (f i) → a ≡ absent (first t n) f
  ask-stop b i n a l h e y g = ask-at i n a l h (sym e ∙ y) g

  -- the loop ends
  pub ask-pass : (i n : ℕ) → n ≤ i → i ≤ n → first t i ≡ None → Pass ≡ absent (first t n) f
  ask-pass i n l h z = ap (λ (g : Found). absent g f) (first-end t i n l h z)

  -- the same of a finding
  pub found-stop : (n : ℕ) (o : Found) (i : ℕ) (a : Asked) → o ≡ first t n → o ≡ Some i → a ≡ Err (f i) → a ≡ absent (first t n) f
  found-stop n o i a e h g = rw (sym e ∙ h) g

  pub found-pass : (n : ℕ) (o : Found) (a : Asked) → o ≡ first t n → o ≡ None → a ≡ Pass → a ≡ absent (first t n) f
  found-pass n o a e h g = rw (sym e ∙ h) g

-- what `position` answers
pub first-position : {X : Type 0} (p : X → Bool) (xs : List X) (d : X) (t : ℕ → Bool) → ((i : ℕ) → i < length xs → t i ≡ p (get_or xs i d)) → position p xs ≡ first t (length xs)
first-position p xs d t h =
    let m = position_or_len p xs in
    by-test (ltb m (length xs))
    (λ e. let l : m < length xs = ltb-true m (length xs) e in rw e (sym (first-at t m (length xs) l (first-all t m (λ k b. h k (omega arith) ∙ fails_before_first p xs k d b)) (h m l ∙ passes_at_first p xs d l))))
    (λ e. let l : length xs ≤ m = ltb-false m (length xs) e in rw e (sym (first-all t (length xs) (λ k b. h k b ∙ fails_before_first p xs k d (omega arith)))))

pub found_below : (t : ℕ → Bool) (n : ℕ) (o : Found) (i : ℕ) → o ≡ first t n → o ≡ Some i → i < n
found_below t n o i e h = (first_found t n i (sym e ∙ h)).0

-- one question after another: o is what the first answered
pub then-stop : (a next o r : Asked) (q : Refusal) → o ≡ a → o ≡ Err q → r ≡ Err q → r ≡ and_then a next
then-stop a next o r q e h g = rw (sym e ∙ h) g

pub then-pass : (a next o r : Asked) → o ≡ a → o ≡ Pass → r ≡ next → r ≡ and_then a next
then-pass a next o r e h g = rw (sym e ∙ h) g

-- the same, where the first answer is handed on by `?`
pub then-err : (a next o r : Asked) (q : Refusal) → o ≡ a → o ≡ Err q → IsErrAnd r (λ x. x ≡ q) → r ≡ and_then a next
then-err a next o r q e h g = let p = err_from_is_err_and r g in then-stop a next o r q e h (rw p.2 at p.1)

-- 5 by one order and the other
from_zero : (f : Found) → absent f (λ k. Order (k + 0)) ≡ absent f Order
from_zero (Some k) = ap (λ (m : ℕ). Err (Order m)) (add-zero k)
from_zero None = refl

pub orders-are : (n : ℕ) (r c : List ℕ) → and_then (ask_order r n 0) (ask_order c n n) ≡ ask5 n r c
unfolding ask_order ask5
orders-are n r c = ap (λ (a : Asked). and_then a (absent (first (bad_index c n) n) (λ k. Order (k + n)))) (from_zero (first (bad_index r n) n))

pub orders-stop : (n : ℕ) (r c : List ℕ) (o : Asked) (q : Refusal) → o ≡ ask_order r n 0 → o ≡ Err q → Err q ≡ ask5 n r c
orders-stop n r c o q e h = then-stop (ask_order r n 0) (ask_order c n n) o (Err q) q e h refl ∙ orders-are n r c

pub orders-pass : (n : ℕ) (r c : List ℕ) (o a : Asked) → o ≡ ask_order r n 0 → o ≡ Pass → a ≡ ask_order c n n → a ≡ ask5 n r c
orders-pass n r c o a e h g = then-pass (ask_order r n 0) (ask_order c n n) o a e h g ∙ orders-are n r c

-- one order by the first fault of its list
pub order-stop : (o : List ℕ) (n from : ℕ) (f : Found) (k : ℕ) → length o ≡ n → f ≡ first (bad_index o n) (length o) → f ≡ Some k → Err (Order (k + from)) ≡ ask_order o n from
unfolding ask_order
order-stop o n from f k s e h = found-stop (bad_index o n) (λ k. Order (k + from)) n f k _ (rw s at e) h refl

pub order-pass : (o : List ℕ) (n from : ℕ) (f : Found) → length o ≡ n → f ≡ first (bad_index o n) (length o) → f ≡ None → Pass ≡ ask_order o n from
unfolding ask_order
order-pass o n from f s e h = found-pass (bad_index o n) (λ k. Order (k + from)) n f Pass (rw s at e) h refl

-- what a test of own row i answered, where i stands at place k of the row order
pub empty-at : (s r : List ℕ) (k : ℕ) (i : OwnNumber) (b : Bool) → i ≡ own (get_or r k 0) → b ≡ no_entry s i.0 → empty_row s r k ≡ b
unfolding empty_row
empty-at s r k i b e h = sym (rw e at h)
