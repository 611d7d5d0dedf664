-- The call from its stages.
use Rattle.std.specs.Prelude.{Ok, Err}
use Prim.Native.Nat.{ℕ, ◌*◌, ◌<◌, ◌≤◌}
use mathlib.Core.Path.{◌≡◌, sym, ◌∙◌}
use mathlib.Core.Bool.{Bool, true, false, not}
use mathlib.Core.List.{List, []}
use native.Mathlib.Nat.{sub-zero}
use native.Mathlib.Omega.{arith}
use lib.ListN.{length}
use lib.Ieee.{Float}
use borrow.Author.Tests.{not-true, not-false}
use Rattle.base.specs.Lists.{nought, blank, padded, table}
use Rattle.base.specs.Limits.{max_rows, rows_within}
use Rattle.base.specs.Answers.{left}
use Rattle.base.specs.declared.Refusal.TheVariants.{Rows, Lengths}
use Rattle.matrix.specs.Lists.{matrix_lists, lengths_right}
use Rattle.matrix.specs.ListsLaws.{Long, long-lists, range-of}
use Rattle.load.specs.Load.{load_outcome, ask_load, load, one}
use Rattle.load.specs.Stores.{RowsLent, RowsDrawn}

blank-padded : {A : Type 0} (v : A) (l : List A) (size : ℕ) → length l ≡ size → blank v l ≡ padded v size []
unfolding blank padded
blank-padded v l size e = rw (e, sub-zero)

module _ (n seed : ℕ) (s j : List ℕ) (v : List Float) (r c : List ℕ) (b : List Float) where
  pub out-rows : (t : Bool) → t ≡ rows_within n → not t ≡ true → left (Err Rows) (matrix_lists s j v r c b) ≡ load_outcome n seed (matrix_lists s j v r c b)
  unfolding load_outcome ask_load
  out-rows t e h = rw (sym e ∙ not-true t h)

  module _ (t : Bool) (et : t ≡ rows_within n) (ht : not t ≡ false) (u : Bool) (eu : u ≡ lengths_right n (4 * n) (length s) (length j) (length v) (length r) (length c) (length b)) where
    pub out-lengths : not u ≡ true → left (Err Lengths) (matrix_lists s j v r c b) ≡ load_outcome n seed (matrix_lists s j v r c b)
    unfolding load_outcome ask_load
    out-lengths h = rw (sym et ∙ not-false t ht, sym eu ∙ not-true u h)

    lent : not u ≡ false → Long n (4 * n) (length s) (length j) (length v) (length r) (length c) (length b)
    lent h = long-lists n (4 * n) _ _ _ _ _ _ (sym eu ∙ not-false u h)

    pub rows-lent : not u ≡ false → seed < 65536 → (j' : List ℕ) (v' : List Float) → j' ≡ blank 0 j → v' ≡ blank nought v → RowsLent n seed s j' v'
    rows-lent h l j' v' ej ev =
        let F = lent h in
        record { few = range-of n t et ht; seed-small = l; starts-long = F.starts-long; columns-are = ej ∙ blank-padded 0 j (4 * n) F.columns-long; values-are = ev ∙ blank-padded nought v (4 * n) F.values-long }

    pub orders-few : not u ≡ false → (length r ≤ max_rows) × (length c ≤ max_rows)
    orders-few h = let F = lent h in (omega (arith, range-of n t et ht, F.r-long), omega (arith, range-of n t et ht, F.c-long))

    pub out-made : not u ≡ false → (e : ℕ) (s' j' : List ℕ) (v' : List Float) (r' c' : List ℕ) (b' : List Float) → RowsDrawn n seed e s' j' v' → r' ≡ table (λ (k : ℕ). k) (length r) → c' ≡ table (λ (k : ℕ). k) (length c)
        → b' ≡ table (λ (k : ℕ). one) (length b) → left (Ok e) (matrix_lists s' j' v' r' c' b') ≡ load_outcome n seed (matrix_lists s j v r c b)
    unfolding load_outcome ask_load load
    out-made h e s' j' v' r' c' b' D er ec eb =
        let F = lent h in
        rw (sym et ∙ not-false t ht, sym eu ∙ not-false u h, D.end_is, D.starts-are, D.columns-are, D.values-are, er, ec, eb, F.r-long, F.c-long, F.b-long)
