-- What the call answers keeps both statements.
use Rattle.base.specs.Answers.{Pass}
use Rattle.std.specs.Prelude.{Err}
use mathlib.Core.Path.{◌≡◌}
use mathlib.Core.Bool.{true}
use mathlib.Core.List.{List, [], ◌∷◌}
use Prim.Native.Nat.{ℕ, suc, ◌+◌, ◌≤◌, ◌<◌}
use native.Mathlib.Omega.{arith}
use borrow.Author.Tests.{leb-false}
use lib.ListN.{length, get_or, length-map}
use lib.Ieee.{Float, nan, binary64, fits}
use lib.Ieee.Bits.{is_true}
use lib.Ieee.Scale.{finite}
use Rattle.base.specs.Tests.{by-test}
use Rattle.base.specs.Lists.{row_of, pairs}
use Rattle.base.specs.TableLaws.{get_or-map-lt}
use Rattle.base.specs.declared.OwnNumber.{OwnNumber}
use Rattle.base.specs.declared.Refusal.{Refusal}
use Rattle.lent.specs.ReadingLaws.{list_length, list-entry, list-below}
use Rattle.outcome.proofs.Asking.{number-some}
use Rattle.matrix.specs.Input.{Input}
use Rattle.matrix.specs.Questions.{no_entry}
use Rattle.questions.specs.Settled.{Finite}
use Rattle.arithmetic.specs.RowEnd.{finite_all}
use Rattle.rounding.specs.Values.{Held}
use Rattle.residual.specs.Residual.{longest_row, residual_from, width_of, results}
use Rattle.residual.specs.Answer.{scores, entries_of, right_of, row_answer, ask_row, checked}
use Rattle.residual.specs.Lent.{Fits, RowFits}
use Rattle.residual.specs.Promise.{KeptBy, Promised}
use Rattle.residual.specs.declared.Checked.{Checked}
use Rattle.residual.specs.declared.Checked.TheVariants.{Pair}
use Rattle.residual.proofs.Asking.{Passed, passed}
use Rattle.residual.proofs.Rows.{count}
use Rattle.residual.proofs.Run.{AllHeld, held_none, held_more}
use Rattle.residual.proofs.Within.{residual-within}
use Rattle.residual.proofs.Bound.{width-at-most}

held_of : (v : List Float) (p : ℕ) → Fits v → finite (get_or v p nan) ≡ true → Held (get_or v p nan)
held_of v p f h = record { ends = h; fit = is_true (fits binary64 (get_or v p nan)) (f p) }

AllIn : List Float → Type 0
AllIn v = (p : ℕ) → p < length v → Held (get_or v p nan)

all_held : (v u : List Float) → AllIn v → AllIn u → AllHeld (pairs v u)
unfolding pairs AllIn
all_held [] u f g = held_none
all_held (v ∷ vs) [] f g = held_none
all_held (v ∷ vs) (u ∷ us) f g = held_more (f 0 (omega arith)) (g 0 (omega arith)) (all_held vs us (λ p h. f (suc p) (omega arith)) (λ p h. g (suc p) (omega arith)))

module _ (i : Input) (x : List Float) (k : OwnNumber) (f : RowFits i k) (fx : Fits x) where
  row-held : Passed i x k → AllHeld (entries_of i x k)
  unfolding Finite AllIn scores
  row-held h = all_held (row_of i.starts i.values k.0) (scores x (row_of i.starts i.columns k.0)) values at
    where
      values : AllIn (row_of i.starts i.values k.0)
      values p l =
          let m = rw (list_length i.starts i.starts i.values k.0 (rw h.sizes.values h.readable.within)) at l in
          let w = h.readable.within.inside in
          held_of _ p f.values (rw (list-entry i.starts i.starts i.values k.0 p nan m) (h.values _ (omega (arith, h.sizes.values))))

      at : AllIn (scores x (row_of i.starts i.columns k.0))
      at p l =
          let m = rw length-map at l in
          rw (← get_or-map-lt (λ j. get_or x j nan) (row_of i.starts i.columns k.0) p 0 nan m)
          (held_of x _ fx (h.scores _ (list-below (length x) i.starts i.starts i.columns k.0 h.readable.under p m)))

  -- where every result is finite
  row_kept : Passed i x k → finite_all (results (right_of i k) (entries_of i x k)) ≡ true → KeptBy i x k (Pair (residual_from (right_of i k) (entries_of i x k)) (width_of (right_of i k) (entries_of i x k)))
  unfolding KeptBy no_entry
  row_kept h g n =
      let hb : Held (right_of i k) = record { ends = h.readable.ends; fit = f.right } in
      let hl = row-held h in
      let q = count i x k h.readable in
      let some = leb-false (get_or i.starts (k.0 + 1) 0) (get_or i.starts k.0 0) h.entry in
      let w = h.readable.within.inside in
      let m = h.readable.columns in
      let top : length (entries_of i x k) ≤ longest_row = omega arith in
      let one : 1 ≤ length (entries_of i x k) = omega arith in
      record { near = residual-within _ _ hb hl one top g; most = width-at-most _ _ hb hl top g }

  -- where the questions pass
  pub promised : (a : Checked) → a ≡ checked i x k → ask_row i x k ≡ Pass → Promised i x k a
  unfolding checked KeptBy row_answer
  promised a e h = record {
    is = e;
    kept = rw (e, h)
        (by-test (finite_all (results (right_of i k) (entries_of i x k))) (λ g. rw g (row_kept (passed i x k h) g)) (λ g. rw g (λ (n : ◌≡◌ {A = ℕ} 22 0). absurd (omega arith))));
  }

-- where they refuse: a refusal's number is never 0
pub stopped : (i : Input) (x : List Float) (k : OwnNumber) (a : Checked) → a ≡ checked i x k → (q : Refusal) → ask_row i x k ≡ Err q → Promised i x k a
unfolding checked KeptBy
stopped i x k a e q h = record { is = e; kept = rw (e, h) (λ n. absurd (number-some q n)) }
