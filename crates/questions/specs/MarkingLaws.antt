-- Marks: slot v holds 1 exactly if v is among the numbers passed. Question 5 is one loop over them.
use Rattle.base.specs.Answers.{Found}
use Rattle.std.specs.Prelude.{◌≡◌, refl, Bool, true, false, List, ℕ, ◌+◌, ◌≤◌, ◌<◌, set, Some, None}
use Rattle.std.proofs.Math.Path.{sym}
use Rattle.std.proofs.Common.{◌∙◌, arith, get_or-set_same, get_or-set_other}
use Rattle.std.proofs.Math.Decide.{ℕ_discrete, dec_lt}
use Rattle.std.proofs.Math.ListN.{length, get_or, get_or-eq_default, length-set}
use Rattle.std.proofs.Math.Dec.{eqb}
use borrow.Author.Tests.{le-leb, lt-leb, eq-eqb, ne_eqb}
use Rattle.base.specs.First.{first, is_at, at_if, or_else}
use Rattle.base.specs.FirstLaws.{first-zero, first-suc, first_more}
use Rattle.base.specs.Lists.{blank}
use Rattle.base.specs.ZerosLaws.{blank-at, blank-length}
use Rattle.matrix.specs.Input.{is_of}
use Rattle.matrix.specs.Questions.{bad_index}
use Rattle.questions.specs.Lent.{Unmarked}

is_at-more : (f : Found) (i : ℕ) → is_at (or_else f (at_if true i)) ≡ true
is_at-more (Some j) i = refl
is_at-more None i = refl

is_at-same : (f : Found) (i : ℕ) → is_at (or_else f (at_if false i)) ≡ is_at f
is_at-same (Some j) i = refl
is_at-same None i = refl

-- after p numbers of the list, with the first of them at fault not met yet
pub record Marking (n : ℕ) (l old m : List ℕ) (p : ℕ) : Type 0 where
  pub within : p ≤ length l
  pub size : length m ≡ length old
  pub fine : first (bad_index l n) p ≡ None
  pub marked : (v : ℕ) → v < length m → eqb (get_or m v 0) 1 ≡ is_at (first (is_of l v) p)

-- the number at p is out of range
pub index-out : (n : ℕ) (l : List ℕ) (p : ℕ) → n ≤ get_or l p 0 → bad_index l n p ≡ true
unfolding bad_index
index-out n l p h = rw (le-leb n (get_or l p 0) h)

module _ (n : ℕ) (l old : List ℕ) where
  pub marking-none : Unmarked n old → Marking n l old old 0
  marking-none u = record {
    within = omega arith;
    size = refl;
    fine = first-zero (bad_index l n);
    marked = λ v h. rw (u.fresh v, first-zero);
  }

  module _ (m : List ℕ) (p : ℕ) (u : Unmarked n old) (h : Marking n l old m p) (b : get_or l p 0 < n) where
    -- its slot holds 1, or not
    pub marking-seen : (t : Bool) → t ≡ eqb (get_or m (get_or l p 0) 0) 1 → bad_index l n p ≡ t
    unfolding bad_index
    marking-seen t e = rw (lt-leb n (get_or l p 0) b) (sym (e ∙ h.marked (get_or l p 0) (omega (arith, h.size, u.slots))))

    pub marking-more : (t : Bool) (w : List ℕ) → p < length l → t ≡ eqb (get_or m (get_or l p 0) 0) 1 → t ≡ false → w ≡ set m (get_or l p 0) 1 → Marking n l old w (p + 1)
    unfolding is_of
    marking-more t w d e f s = rw s (record {
      within = omega arith;
      size = length-set m (get_or l p 0) 1 ∙ h.size;
      fine = first_more (bad_index l n) p h.fine (marking-seen t e ∙ f);
      marked = λ v y. at v y (ℕ_discrete v (get_or l p 0));
    })
      where
        at : (v : ℕ) → v < length (set m (get_or l p 0) 1) → Dec (v ≡ get_or l p 0) → eqb (get_or (set m (get_or l p 0) 1) v 0) 1 ≡ is_at (first (is_of l v) (p + 1))
        at v y (yes q) =
            let a : get_or (set m (get_or l p 0) 1) v 0 ≡ 1 = rw q (get_or-set_same m (get_or l p 0) 1 0 (omega (arith, h.size, u.slots))) in
            eq-eqb _ 1 a ∙ sym (rw (first-suc, eq-eqb (get_or l p 0) v (sym q)) (is_at-more (first (is_of l v) p) p))
        at v y (no q) =
            let z : v < length m = rw length-set at y in
            rw (get_or-set_other m (get_or l p 0) v 1 0 q, first-suc, ne_eqb (get_or l p 0) v (λ e. q (sym e)), is_at-same) (h.marked v z)

pub unmarked-blank : (n : ℕ) (m d : List ℕ) → n ≤ length m → m ≡ blank 0 d → Unmarked n m
unmarked-blank n m d s e = record { slots = s; fresh = λ v. rw e (go v (dec_lt v (length d))) }
  where
    go : (v : ℕ) → Dec (v < length d) → get_or (blank 0 d) v 0 ≡ 0
    go v (yes l) = blank-at 0 d v 0 l
    go v (no l) = get_or-eq_default (blank 0 d) 0 {n = v} (rw blank-length (omega arith))
