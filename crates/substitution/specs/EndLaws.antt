-- What each function's proof applies, over plain lists: the steps of place k with the tests that the code makes, and the whole for given factors.
use Rattle.std.specs.Prelude.{◌≡◌, Bool, true, false, ℕ, ◌+◌, ◌-◌, ◌*◌, ◌<◌, set, take, Result, Ok, Err, MatchResult, IsErr, IsErrAnd, is_ok, ⊤, Float}
use Rattle.std.proofs.Math.Path.{refl, ap}
use Rattle.std.proofs.Common.{sym, ◌∙◌, true≢false, arith, length-drop, take_at, drop_at}
use mathlib.Core.List.{List, [], ◌++◌}
use Rattle.std.proofs.Math.ListN.{length, get_or, drop}
use Rattle.std.specs.Float.{nan, binary64}
use Rattle.std.specs.Float.Ieee.{mul}
use Rattle.std.specs.Float.Ieee.Scale.{finite}
use Rattle.base.specs.Lists.{table, blank, list_at, nought}
use Rattle.base.specs.Answers.{spot, Asked}
use Rattle.base.specs.Scratch.{z_from}
use Rattle.base.specs.declared.Refusal.{Refusal}
use Rattle.base.specs.declared.Refusal.TheVariants.{Overflow}
use Rattle.base.specs.declared.OwnNumber.{OwnNumber}
use Rattle.base.specs.declared.Form.{Form}
use Rattle.base.specs.declared.Form.TheVariants.{Plain, Shared, ByRow}
use Rattle.base.specs.declared.Side.TheVariants.{Lower}
use Rattle.lent.specs.Reading.{Below, own_at}
use Rattle.matrix.specs.Input.{input_of, right_at}
use Rattle.arithmetic.specs.Arith.{Out, ok, met, overflow}
use Rattle.arithmetic.specs.Again.{Factors}
use Rattle.arithmetic.specs.Stopping.{any, at, subtract, sum_less, back, again, solved_again}
use Rattle.numeric.specs.Stores.{store_given, numbered_back}
use Rattle.lent.specs.ReadingLaws.{take_rest}
use Rattle.factor.specs.TurnLaws.{handed-on}
use Rattle.factor.specs.EndLaws.{stopped-below}
use Rattle.outcome.specs.Buffers.{SideBuffers}
use Rattle.outcome.specs.Resolve.{given_list, given_values, factors_of}
use Rattle.factors.specs.Presented.{RunsLent, Sound, presented}
use Rattle.substitution.specs.Sweep.{list_of, values_of, SumAt, Spread, ColumnSpread, Tied, Sweep, RowSwept, Swept, Solvable, StoppedBelow, back_asked, Solved}
use Rattle.substitution.specs.SweepLaws.{sum-found, y-sum, y-product, y-good, row-stops, row_more, sweep-start, sweep-stopped, sweep-solved}

-- ---- b(r(k))

module _ (r : List ℕ) (k : ℕ) (i : OwnNumber) (e : i ≡ own_at r (spot k)) where
  pub right-below : (m : ℕ) → Below m r → k < length r → i.0 < m
  right-below m b h = rw e (b k h)

  pub right_is : (n : ℕ) (b : List Float) (v : Float) → v ≡ get_or b i.0 nan → v ≡ right_at (input_of n [] [] [] r [] b) k
  unfolding right_at
  right_is n b v h = h ∙ ap (λ (j : OwnNumber). get_or b j.0 nan) e

-- ---- one place

-- places below n are places of what is left of scratch past n slots
pub below-tail : (n : ℕ) (w : List Float) (js : List ℕ) → length w ≡ 3 * n → Below n js → Below (length (take (length w - n) (drop n w))) js
below-tail n w js e b p h = rw (take_rest n w) (simp length-drop (omega (arith, b p h)))

pub column-spread : (n k : ℕ) (b : SideBuffers) (y : Float) (w last : List Float) (js : List ℕ) (us : List Float) → length last ≡ n → js ≡ list_of b k → us ≡ values_of b k
    → subtract any y js us (take n w) ≡ ok last → ColumnSpread n k b y w (last ++ drop n w)
column-spread n k b y w last js us size ej eu e = record { kept = drop_at last (drop n w) n size; column = rw (take_at last (drop n w) n size, ← ej, ← eu) e }

module _ (f : Form) (n k : ℕ) (F : Factors) (b : SideBuffers) (d w : List Float) (s : Float) (l : k < n) (S : Sound f Lower n b.starts b.runs b.index (length b.values))
    (h : SumAt f n k b w s) (T : Tied f n F b d) (I : Sweep f n F b k w) where
  found : sum_less (at k) (F.rhs k) (F.lower k) (take k (drop n w)) ≡ at k s
  found = sum-found n k F b d w s l f S T I.sums h

  pub sum-stops : finite s ≡ false → again F n 0 [] ≡ met (overflow k)
  sum-stops g = row-stops f n k F b w l I (overflow k) (y-sum F (take k (drop n w)) k s found g)

  product_is : mul binary64 s (F.d k) ≡ mul binary64 s (get_or d k nan)
  product_is = ap (mul binary64 s) (T.d-is k)

  pub product-stops : finite s ≡ true → finite (mul binary64 s (get_or d k nan)) ≡ false → again F n 0 [] ≡ met (overflow k)
  product-stops g q = row-stops f n k F b w l I (overflow k) (y-product F (take k (drop n w)) k s found g (ap finite product_is ∙ q))

  pub goes_on : (v : List Float) → length w ≡ 3 * n → finite s ≡ true → finite (mul binary64 s (get_or d k nan)) ≡ true
      → Spread f n k b (mul binary64 s (get_or d k nan)) (set w (n + k) (mul binary64 s (get_or d k nan))) v → Sweep f n F b (k + 1) v
  goes_on v size g q sp =
      row_more f n k F b w l I v (mul binary64 s (get_or d k nan)) size S sp (y-good F (take k (drop n w)) k s found g (ap finite product_is ∙ q) ∙ ap ok product_is) q

-- the test's answer, once it is known
module _ (f : Form) (n : ℕ) (F : Factors) (b : SideBuffers) (k : ℕ) (t : Bool) (v : List Float) (h : RowSwept f n F b k t v) where
  pub swept-on : t ≡ true → Sweep f n F b (k + 1) v
  swept-on e = rw e at h

  pub swept-off : t ≡ false → again F n 0 [] ≡ met (overflow k)
  swept-off e = rw e at h

pub swept-whole : (f : Form) (n : ℕ) (F : Factors) (b : SideBuffers) (k : ℕ) (w : List Float) → k ≡ n → Sweep f n F b k w → Sweep f n F b n w
swept-whole f n F b k w e I = rw e at I

-- ---- the whole, for presented factors

module _ (f : Form) (n : ℕ) (r : List ℕ) (b : List Float) (l u : SideBuffers) (d : List Float) (work : ℕ) (P : Solvable f n r b l u (length d) work) where
  abbrev given : Factors
  given = factors_of f (input_of n [] [] [] r [] b) (presented l u d)

  pub tied : Tied f n given l d
  unfolding factors_of right_at
  tied = record { lower-is = λ k. refl; runs-are = P.lower-runs; d-is = λ k. refl; fine = λ k h. P.fine (get_or r k 0) (P.right.rows k (omega (arith, P.right.row-order))) }

  upper_is : (i : ℕ) → given.upper i ≡ list_of u i
  unfolding factors_of given_list
  upper_is i = by_form f P.upper-runs
    where
      by_form : (g : Form) → RunsLent g u.starts u.runs → given_list g u i ≡ list_of u i
      by_form Plain e = ap (λ (s : List ℕ). list_at u.starts s u.index i) (sym e)
      by_form Shared e = refl
      by_form ByRow e = refl

  u-is : (i : ℕ) → given.u i ≡ values_of u i
  unfolding factors_of given_values
  u-is i = refl

  size_is : given.n ≡ n
  unfolding factors_of
  size_is = refl

  -- after the sums are loaded into cleared scratch
  pub begun : (w₀ zeros sums : List Float) → length w₀ ≡ work → zeros ≡ blank nought w₀ → sums ≡ table (right_at (input_of n [] [] [] r [] b)) n → Sweep f n given l 0 (sums ++ drop n zeros)
  unfolding factors_of blank
  begun w₀ zeros sums e ez es =
      let size : length w₀ ≡ 3 * n = omega (arith, P.ready.scratch) in
      sweep-start f n given l (right_at (input_of n [] [] [] r [] b)) (sums ++ drop n zeros) (λ j. refl) (rw (es, ez, size))

  module _ (w : List Float) where
    -- `?` hands the place on
    pub ends-early : (k : ℕ) (z : List Float) (o : Result ⊤ ℕ) → IsErr o → IsErrAnd o (λ x. x ≡ k) → Swept f n given l (Err k) w → (numbered_back z o ≡ solved_again given) × StoppedBelow n o
    ends-early k z o e q h = rw (← handed-on o k e q) (sweep-stopped given n (overflow k) size_is h.1, h.0)

    module _ (swept : Sweep f n given l n w) where
      pub ys-fine : (k : ℕ) → k < n → finite (get_or w (n + k) nan) ≡ true
      ys-fine = swept.fine

      module _ (o : Result ⊤ ℕ) (z : List Float) (g : numbered_back z o ≡ back (store_given n w u.starts u.runs u.index u.values) n (drop (z_from n) w)) where
        pub ends : numbered_back z o ≡ solved_again given
        ends = sweep-solved f n given l u w z o size_is swept upper_is u-is g

        pub ends-below : StoppedBelow n o
        ends-below = below o g
          where
            below : (o : Result ⊤ ℕ) → numbered_back z o ≡ back (store_given n w u.starts u.runs u.index u.values) n (drop (z_from n) w) → StoppedBelow n o
            below (Ok t) g = tt
            below (Err k) g = stopped-below (store_given n w u.starts u.runs u.index u.values) n k (drop (z_from n) w) g

-- ---- question 13

pub stop-below : (n k : ℕ) (a : Result ⊤ ℕ) → a ≡ Err k → StoppedBelow n a → k < n
stop-below n k a e h = rw e at h

-- a is what the steps came to, o the answer that is made of it
pub asked-as : {P : ℕ → Refusal → Type 0} (a : Result ⊤ ℕ) (o : Asked) → ((k : ℕ) (q : Refusal) → P k q → q ≡ Overflow (spot k))
    → MatchResult a (λ t. o ≡ Ok t) (λ k. IsErrAnd o (P k)) → is_ok o ≡ is_ok a → o ≡ back_asked a
asked-as (Ok t) o g h e = h
asked-as (Err k) (Ok u) g h e = absurd (true≢false e)
asked-as (Err k) (Err q) g h e = ap Err (g k q h)

pub asked-13 : (o : Out (List Float)) (z : List Float) (b : Result ⊤ ℕ) (a : Asked) → numbered_back z b ≡ o → a ≡ back_asked b → Solved o a z
asked-13 o z (Ok t) a e h = rw (← e) (h, refl)
asked-13 o z (Err k) a e h = rw (← e) h
