-- Laws of the members by parts, and of a loop that writes them part by part.
use Rattle.std.specs.Prelude.{◌≡◌, refl, List, [], ◌∷◌, ◌++◌, Bool, true, false, ℕ, zero, suc, ◌+◌, ◌-◌, ◌<◌, ◌≤◌, length, get_or, set}
use Rattle.std.proofs.Common.{◌∙◌, ap, append-nil, append_assoc, arith, add-one, add-zero, zero-add, length-append, eq-eqb, le-leb}
use Rattle.std.proofs.lemmas.List.Edits.{sets}
use Rattle.std.proofs.Math.Seq.{length-sets}
use Rattle.base.specs.Lists.{asc, keep}
use Rattle.base.specs.AscLaws.{asc-ext}
use Rattle.marks.specs.Marks.{marked, chosen, members, Blocks, Bare}
use Rattle.marks.specs.MarkLaws.{blocks-same, marks-sets, members-none, members-empty, sets_below}
use Rattle.base.specs.Scratch.{upper_cuts}

-- ---- the members by parts

pub members-more : (t : ℕ) (s : List ℕ) (from j : ℕ) → from ≤ j → members t s from (j + 1) ≡ members t s from j ++ keep (marked t s j) j
unfolding members chosen asc
members-more t s from j l = rw (add-one, le-leb from j l)

-- only the marks below the end count
pub members-same : (t : ℕ) (s u : List ℕ) (from e : ℕ) → ((q : ℕ) → q < e → get_or s q 0 ≡ get_or u q 0) → members t s from e ≡ members t u from e
unfolding members chosen
members-same t s u from e h = asc-ext (chosen t s from) (chosen t u from) e (λ j l. rw (h j l))

members-add : (t : ℕ) (s : List ℕ) (a b d : ℕ) → a ≤ b → members t s a (b + d) ≡ members t s a b ++ members t s b (b + d)
members-add t s a b zero l = rw (add-zero, members-none t s b, append-nil)
members-add t s a b (suc d) l =
    let e : b + suc d ≡ b + d + 1 = omega arith in
    rw (e, members-more t s a (b + d) (omega arith), members-more t s b (b + d) (omega arith), members-add t s a b d l, append_assoc)

pub members-split : (t : ℕ) (s : List ℕ) (a b e : ℕ) → a ≤ b → b ≤ e → members t s a e ≡ members t s a b ++ members t s b e
members-split t s a b e l h = let q : b + (e - b) ≡ e = omega arith in rw (← q) (members-add t s a b (e - b) l)

keep-le : (b : Bool) (n : ℕ) → length (keep b n) ≤ 1
keep-le true n = omega arith
keep-le false n = omega arith

members-fit : (t : ℕ) (s : List ℕ) (from d : ℕ) → length (members t s from (from + d)) ≤ d
members-fit t s from zero = rw (add-zero, members-none t s from) (omega arith)
members-fit t s from (suc d) =
    let e : from + suc d ≡ from + d + 1 = omega arith in
    rw (e, members-more t s from (from + d) (omega arith), length-append)
    (omega (arith, members-fit t s from d, keep-le (marked t s (from + d)) (from + d)))

-- no more than there are places
pub members-le : (t : ℕ) (s : List ℕ) (from e : ℕ) → from ≤ e → from + length (members t s from e) ≤ e
members-le t s from e l = let q : from + (e - from) ≡ e = omega arith in omega (arith, rw q at (members-fit t s from (e - from)))

members-one : (t : ℕ) (s : List ℕ) (j : ℕ) → get_or s j 0 ≡ t → members t s j (j + 1) ≡ j ∷ []
members-one t s j m = rw (members-more t s j j (omega arith), members-none t s j, eq-eqb (get_or s j 0) t m)

-- ---- a loop that writes the members from `from` on behind slot at + had, where `had` were written before: those below j are written

pub record Filled (t : ℕ) (s₀ : List ℕ) (from at had : ℕ) (s : List ℕ) (count j : ℕ) : Type 0 where
  pub above : from ≤ j
  pub few : count + from ≤ had + j
  pub long : length s ≡ length s₀
  pub counted : count ≡ had + length (members t s₀ from j)
  pub written : s ≡ sets s₀ (at + had) (members t s₀ from j)

pub filled-start : (t : ℕ) (s : List ℕ) (from at had : ℕ) → Filled t s from at had s had from
filled-start t s from at had = record {
  above = omega arith;
  few = omega arith;
  long = refl;
  counted = rw (members-none t s from, add-zero);
  written = rw (members-none t s from);
}

pub sets-append : (s : List ℕ) (at : ℕ) (l m : List ℕ) → sets s at (l ++ m) ≡ sets (sets s at l) (at + length l) m
sets-append s at [] m = rw add-zero
sets-append s at (y ∷ l) m =
    let e : at + suc (length l) ≡ suc at + length l = omega arith in
    rw e (sets-append (set s at y) (suc at) l m)

module _ (t : ℕ) (s₀ : List ℕ) (from at had : ℕ) (s : List ℕ) (count j : ℕ) (f : Filled t s₀ from at had s count j) where
  -- the members from j up to stop are written too
  pub filled_more : (u : List ℕ) (r stop : ℕ) → j ≤ stop → stop ≤ at → r ≡ count + length (members t s j stop) → u ≡ sets s (at + count) (members t s j stop)
      → Filled t s₀ from at had u r stop
  filled_more u r stop l h er eu =
      let same : members t s j stop ≡ members t s₀ j stop = members-same t s s₀ j stop (λ q k. rw f.written (sets_below s₀ (at + had) (members t s₀ from j) q (omega arith))) in
      let both = members-split t s₀ from j stop f.above l in
      let e : at + count ≡ at + had + length (members t s₀ from j) = omega (arith, f.counted) in
      record {
        above = omega (arith, f.above);
        few = omega (arith, f.few, er, members-le t s j stop l);
        long = rw eu (length-sets s (at + count) (members t s j stop) ∙ f.long);
        counted = rw (both, length-append) (omega (arith, f.counted, er, ap length same));
        written = eu ∙ rw (both, sets-append, same, e, f.written);
      }

  pub filled-hit : (u : List ℕ) (r : ℕ) → j < at → get_or s j 0 ≡ t → u ≡ set s (at + count) j → r ≡ count + 1 → Filled t s₀ from at had u r (j + 1)
  filled-hit u r h m eu er = filled_more u r (j + 1) (omega arith) (omega arith) (rw (members-one t s j m) er) (rw (members-one t s j m) eu)

  filled_none : (u : List ℕ) (r stop : ℕ) → j ≤ stop → stop ≤ at → ((i : ℕ) → j ≤ i → i < stop → get_or s i 0 ≡ t → ⊥) → u ≡ s → r ≡ count
      → Filled t s₀ from at had u r stop
  filled_none u r stop l h none eu er =
      let e = members-empty t s j stop l none in
      filled_more u r stop l h (rw (e, add-zero) er) (rw e eu)

  pub filled-miss : (u : List ℕ) (r : ℕ) → j < at → (get_or s j 0 ≡ t → ⊥) → u ≡ s → r ≡ count → Filled t s₀ from at had u r (j + 1)
  filled-miss u r h out eu er = filled_none u r (j + 1) (omega arith) (omega arith) (λ i a b. let q : i ≡ j = omega arith in rw q out) eu er

  -- blocks without the stamp have no member
  pub filled-skip : (n e stop : ℕ) → Blocks n t s₀ → upper_cuts n ≤ at → e ≤ n → Bare n t s j e stop → Filled t s₀ from at had s count stop
  filled-skip n e stop b low h k =
      let bs = blocks-same n t s₀ s (marks-sets n s₀ s (at + had) (members t s₀ from j) (omega arith) f.written) b in
      let w = k.above in
      let v = k.within in
      filled_none s count stop (omega arith) (omega arith) (λ i x y m. k.none i x y (bs i (omega arith) m)) refl refl

pub filled-end : (t : ℕ) (s₀ : List ℕ) (from at had : ℕ) (s : List ℕ) (count j e : ℕ) → j ≤ e → e ≤ j → Filled t s₀ from at had s count j
    → (count ≡ had + length (members t s₀ from e)) × (s ≡ sets s₀ (at + had) (members t s₀ from e))
filled-end t s₀ from at had s count j e l h f = let q : j ≡ e = omega arith in rw (← q) (f.counted, f.written)

pub filled-all : (t : ℕ) (s₀ : List ℕ) (from at : ℕ) (s : List ℕ) (count j e : ℕ) → j ≤ e → e ≤ j → Filled t s₀ from at 0 s count j
    → (count ≡ length (members t s₀ from e)) × (s ≡ sets s₀ at (members t s₀ from e))
filled-all t s₀ from at s count j e l h f = rw (zero-add, add-zero at) at (filled-end t s₀ from at 0 s count j e l h f)
