-- Lower row k of factors: what the sum of place k runs over, where L stands by rows and where it stands by columns.
use Rattle.std.specs.Prelude.{◌≡◌, Bool, cond, get_or, ltb, eqb, Float}
use Rattle.std.proofs.Math.Path.{refl, sym, ap₂}
use Rattle.std.proofs.Common.{ap, ◌∙◌, true≢false, ⊎_elim, arith, lt-ltb, le-ltb, eqb-true, ltb-true}
use Rattle.std.proofs.Math.Bool.{true, false}
use mathlib.Core.List.{List, [], ◌∷◌, ◌++◌}
use Prim.Native.Nat.{ℕ, zero, suc, ◌+◌, ◌<◌}
use Rattle.std.proofs.Math.Decide.{dec_lt}
use Rattle.std.proofs.Math.ListN.{length, length-append}
use Rattle.std.specs.Float.{nan}
use Rattle.base.specs.Lists.{has, asc, keep, joined, pairs, list_at}
use Rattle.base.specs.Tests.{by-test, or_cases, and_cases}
use Rattle.base.specs.AscLaws.{has-asc}
use Rattle.lent.specs.Reading.{Below}
use Rattle.placement.specs.Placing.{first_at}
use Rattle.numeric.specs.Rows.{only, beside}
use Rattle.numeric.specs.Right.{across}
use Rattle.outcome.specs.Buffers.{SideBuffers}
use Rattle.outcome.specs.Resolve.{given_list, given_values, hit, given_lower}
use Rattle.base.specs.declared.Form.TheVariants.{Plain, Shared, ByRow}
use Rattle.substitution.specs.Sweep.{list_of, values_of}

-- ---- a column's place and value by row k

ltb-suc : (a b : ℕ) → ltb (suc a) (suc b) ≡ ltb a b
ltb-suc a b = elim (dec_lt a b) [
  | yes h ↦ lt-ltb (suc a) (suc b) (omega arith) ∙ sym (lt-ltb a b h)
  | no h ↦ le-ltb (suc a) (suc b) (omega arith) ∙ sym (le-ltb a b (omega arith))
]

first-has : (l : List ℕ) (k : ℕ) → ltb (first_at k l) (length l) ≡ has l k
unfolding first_at has
first-has [] k = le-ltb 0 0 (omega arith)
first-has (x ∷ l) k = by-test (eqb x k) (λ e. rw e (lt-ltb 0 (suc (length l)) (omega arith))) (λ e. rw e (ltb-suc (first_at k l) (length l) ∙ first-has l k))

first-beside : (l : List ℕ) (vs : List Float) (k : ℕ) → has l k ≡ true → get_or vs (first_at k l) nan ≡ beside l vs k
unfolding first_at has beside
first-beside [] vs k h = absurd (true≢false (sym h))
first-beside (x ∷ l) [] k h = refl
first-beside (x ∷ l) (v ∷ vs) k h = by-test (eqb x k) (λ e. rw e refl) (λ e. rw e (first-beside l vs k (rw e at h)))

-- ---- what the columns before m hold of row k

pairs-append : (a : List ℕ) (u : List Float) (b : List ℕ) (v : List Float) → length a ≡ length u → pairs (a ++ b) (u ++ v) ≡ pairs a u ++ pairs b v
unfolding pairs
pairs-append [] [] b v e = refl
pairs-append [] (y ∷ u) b v e = absurd (omega arith)
pairs-append (x ∷ a) [] b v e = absurd (omega arith)
pairs-append (x ∷ a) (y ∷ u) b v e = ap (λ (l : List (ℕ × Float)). (x, y) ∷ l) (pairs-append a u b v (omega arith))

module _ (column : ℕ → List ℕ) (ls : ℕ → List Float) (k : ℕ) where
  abbrev hits : ℕ → List (ℕ × Float)
  hits i = cond (ltb (first_at k (column i)) (length (column i))) ((i, get_or (ls i) (first_at k (column i)) nan) ∷ []) []

  hit-is : (i : ℕ) → hits i ≡ pairs (keep (has (column i) k) i) (only (has (column i) k) (beside (column i) (ls i) k))
  unfolding pairs
  hit-is i = rw (first-has (column i) k) (by-test (has (column i) k) (λ e. rw (e, first-beside (column i) (ls i) k e)) (λ e. rw e))

  lengths : (m : ℕ) → length (asc (λ i. has (column i) k) m) ≡ length (across column ls k m)
  unfolding asc across
  lengths zero = refl
  lengths (suc m) =
      length-append (asc (λ i. has (column i) k) m) (keep (has (column m) k) m)
      ∙ ap₂ ◌+◌ (lengths m) (each (has (column m) k))
      ∙ sym (length-append (across column ls k m) (only (has (column m) k) (beside (column m) (ls m) k)))
    where
      each : (t : Bool) → length (keep t m) ≡ length (only t (beside (column m) (ls m) k))
      each true = refl
      each false = refl

  hits-are : (m : ℕ) → joined hits m ≡ pairs (asc (λ i. has (column i) k) m) (across column ls k m)
  unfolding joined asc across pairs
  hits-are zero = refl
  hits-are (suc m) = ap₂ ◌++◌ (hits-are m) (hit-is m) ∙ sym (pairs-append (asc (λ i. has (column i) k) m) (across column ls k m) _ _ (lengths m))

-- ---- lower row k

pub plain-lower : (b : SideBuffers) (k : ℕ) → b.runs ≡ b.starts → given_lower Plain b k ≡ pairs (list_of b k) (values_of b k)
unfolding given_list given_values
plain-lower b k e = ap (λ (r : List ℕ). pairs (list_at b.starts r b.index k) (values_of b k)) (sym e)

pub shared-lower : (b : SideBuffers) (k : ℕ) → given_lower Shared b k ≡ pairs (asc (λ i. has (list_of b i) k) k) (across (list_of b) (values_of b) k k)
unfolding hit given_list given_values
shared-lower b k = hits-are (list_of b) (values_of b) k k

pub row-lower : (b : SideBuffers) (k : ℕ) → given_lower ByRow b k ≡ pairs (asc (λ i. has (list_of b i) k) k) (across (list_of b) (values_of b) k k)
unfolding hit given_list given_values
row-lower b k = hits-are (list_of b) (values_of b) k k

-- ---- its places are below k

pub has-below : (m : ℕ) (l : List ℕ) → Below m l → (j : ℕ) → has l j ≡ true → j < m
unfolding has
has-below m [] b j h = absurd (true≢false (sym h))
has-below m (x ∷ l) b j h =
    ⊎_elim (λ e. rw (eqb-true x j e) at (b 0 (omega arith))) (λ t. has-below m l (λ p g. b (suc p) (omega arith)) j t) (or_cases (eqb x j) (has l j) h)

pub asc-below : (p : ℕ → Bool) (k j : ℕ) → has (asc p k) j ≡ true → j < k
asc-below p k j h = ltb-true j k (and_cases (ltb j k) (p j) (sym (has-asc p k j) ∙ h)).0
