-- The ways through the read, and what passed questions tell.
use Rattle.std.specs.Prelude.{Ok, Err}
use mathlib.Core.Path.{◌≡◌, refl, sym, ap, subst, ◌∙◌}
use mathlib.Core.Bool.{Bool, true, false, not}
use mathlib.Core.List.{List, ◌++◌}
use Prim.Native.Nat.{ℕ, ◌≤◌}
use native.Mathlib.Omega.{arith}
use borrow.Author.Tests.{not-true, not-false}
use lib.ListN.{length, take, drop}
use lib.Seq.{length-take-le}
use lib.Ieee.{Float}
use Rattle.base.specs.Lists.{blank, padded, nought}
use Rattle.base.specs.ZerosLaws.{drop-replicate, blank-length}
use Rattle.base.specs.FirstLaws.{both-pass, holds-pass}
use Rattle.base.specs.Answers.{holds, and_then, left, Pass, Kept, Asked, Answer}
use Rattle.base.specs.declared.Counts.{Counts}
use Rattle.base.specs.declared.FactorSizes.{FactorSizes}
use Rattle.base.specs.declared.Refusal.{Refusal}
use Rattle.base.specs.declared.Refusal.TheVariants.{Lengths}
use Rattle.base.specs.Limits.{max_rows}
use Rattle.fields.specs.Payload.{room, fields_at, floats_at}
use Rattle.blocks.proofs.FileLaws.{asked-whole}
use Rattle.factor_contents.specs.FactorFile.{FactorLists, factor_lists, held, upper_starts_at, lower_index_at, upper_index_at, lower_values_at, d_at, upper_values_at, r_at, c_at, ask_read, read_outcome, lengths_fit, lists_at, factors_at, ask_contents, ask_through, counted, n_of, counts_in, sizes_in, ask_file, opened}
use Rattle.factor_contents.specs.Judging.{Stands, Enough, Lent}
use Rattle.factor_contents.proofs.LengthLaws.{Long, LongLists, long-lists, lists-long, few-entries, long-lent}
use Rattle.factor_reading.proofs.ShapeLaws.{Fitting, fitting, opened-pass, opened-stop}

-- ---- a store that is filled

-- a part of a cleared store
pub cleared-part : {A : Type 0} (z : A) (m : ℕ) (store cleared : List A) → cleared ≡ blank z store → m ≤ length store → length (take m cleared) ≡ m
cleared-part z m store cleared e h = length-take-le m cleared (rw (e, blank-length z store) h)

-- as many values as the first slots of a cleared store, in them
pub filled : {A : Type 0} (z : A) (values : ℕ → List A) (store cleared x : List A) (count : ℕ) → cleared ≡ blank z store → count ≤ length store → length (values count) ≡ count
    → x ≡ values (length (take count cleared)) → x ++ drop count cleared ≡ padded z (length store) (values count)
unfolding blank padded
filled z values store cleared x count e h s ex = rw (ex, cleared-part z count store cleared e h, e, drop-replicate z (length store) count, s)

module _ (n : ℕ) (k : Counts) (l : FactorLists) (a : Asked) (e : a ≡ ask_contents n k l) where
  pub counted_stop : (q : Refusal) → a ≡ Err q → Err q ≡ counted (ask_contents n k l) k
  counted_stop q p = rw (← e, p)

  pub counted-done : a ≡ Pass → Ok k ≡ counted (ask_contents n k l) k
  counted-done p = rw (← e, p)

-- ---- the reader's questions

stands : {n lower upper r c ls li lv us ui uv d : ℕ} (l : Long n lower upper r c ls li lv us ui uv d) (file : List ℕ) → Fitting file n lower upper → Stands file n lower upper
stands l file g = record { few = g.n-most; some = g.n-some; lower-few = (few-entries l).0; upper-few = (few-entries l).1; inside = omega (arith, g.count) }

module _ (file : List ℕ) (r c ls li lv us ui uv d : ℕ) (f : Kept) (o : f ≡ opened file) where
  abbrev fit : ℕ → ℕ → ℕ → Bool
  fit n lower upper = lengths_fit n lower upper r c ls li lv us ui uv d

  abbrev through : Asked
  through = ask_through file (fit (n_of file) (counts_in file).lower (counts_in file).upper)

  pub judge-stop : (q : Refusal) → f ≡ Err q → Err q ≡ counted through (counts_in file)
  unfolding ask_through
  judge-stop q p = rw (opened-stop file q (sym p ∙ o))

  module _ (s : FactorSizes) (p : f ≡ Ok s) where
    abbrev passed : (ask_file file ≡ Pass) × (s ≡ sizes_in file)
    passed = opened-pass file s (sym p ∙ o)

    pub judge-rows : s.n ≤ max_rows
    judge-rows = rw (ap (λ (s : FactorSizes). s.n) passed.1) (fitting file passed.0).n-most

    module _ (x : Bool) (ex : x ≡ fit s.n s.lower s.upper) where
      fit_is : fit (n_of file) (counts_in file).lower (counts_in file).upper ≡ x
      fit_is = ap (λ (s : FactorSizes). fit s.n s.lower s.upper) (sym passed.1) ∙ sym ex

      pub judge-lengths : not x ≡ true → Err Lengths ≡ counted through (counts_in file)
      unfolding ask_through
      judge-lengths h = rw (passed.0, fit_is, not-true x h)

      module _ (h : not x ≡ false) where
        stands-in : Stands file (n_of file) (counts_in file).lower (counts_in file).upper
        stands-in = stands (long-lists (n_of file) (counts_in file).lower (counts_in file).upper r c ls li lv us ui uv d (fit_is ∙ not-false x h)) file (fitting file passed.0)

        pub judge-room : (20 ≤ room file) × Stands file s.n s.lower s.upper
        judge-room = (
          omega (arith, asked-whole file (fitting file passed.0).asked),
          subst (λ (s : FactorSizes). Stands file s.n s.lower s.upper) (sym passed.1) stands-in,
        )

        abbrev found : FactorSizes → Answer
        found s =
            counted (ask_contents s.n (record { lower = s.lower; upper = s.upper; products = (counts_in file).products }) (lists_at file s.n s.lower s.upper))
            (record { lower = s.lower; upper = s.upper; products = (counts_in file).products })

        pub judge-done : (a : Answer) → a ≡ found s → a ≡ counted through (counts_in file)
        unfolding ask_through factors_at
        judge-done a e = rw (passed.0, fit_is, not-false x h) (e ∙ ap found passed.1)

-- ---- reading

-- the buffers, by where the parts begin
module _ (file : List ℕ) (n lower upper s i j v p w q t : ℕ) (es : s ≡ upper_starts_at n) (ei : i ≡ lower_index_at n) (ej : j ≡ upper_index_at n lower) (ev : v ≡ lower_values_at n lower upper)
    (ep : p ≡ d_at n lower upper) (ew : w ≡ upper_values_at n lower upper) (eq : q ≡ r_at n lower upper) (et : t ≡ c_at n lower upper) where
  pub loaded : (l : FactorLists) (r c ls li : List ℕ) (lv : List Float) (us ui : List ℕ) (uv d : List Float) → Lent Enough n lower upper l
      → ls ≡ fields_at 4 file 20 (length l.lower-starts) → li ≡ padded 0 (length l.lower-index) (fields_at 2 file i lower) → lv ≡ padded nought (length l.lower-values) (floats_at file v lower)
      → us ≡ fields_at 4 file s (length l.upper-starts) → ui ≡ padded 0 (length l.upper-index) (fields_at 2 file j upper) → uv ≡ padded nought (length l.upper-values) (floats_at file w upper)
      → r ≡ fields_at 2 file q (length l.r) → c ≡ fields_at 2 file t (length l.c) → d ≡ floats_at file p (length l.d)
      → factor_lists r c ls li lv us ui uv d ≡ held l (lists_at file n lower upper)
  unfolding held lists_at
  loaded l r c ls li lv us ui uv d g els eli elv eus eui euv er ec ed =
      rw (els, eli, elv, eus, eui, euv, er, ec, ed, g.lower-starts-size, g.upper-starts-size, g.r-size, g.c-size, g.d-size, es, ei, ej, ev, ep, ew, eq, et)

counted-stop-is : (a : Asked) (k : Counts) (q : Refusal) → Err q ≡ counted a k → a ≡ Err q
counted-stop-is (Err p) k q e = cc
counted-stop-is (Ok _) k q e = let z : ◌≡◌ {A = ℕ} 0 1 = cc in absurd (omega arith)

counted-pass-is : (a : Asked) (k j : Counts) → Ok j ≡ counted a k → (a ≡ Pass) × (j ≡ k)
counted-pass-is (Ok _) k j e = (refl, cc)
counted-pass-is (Err q) k j e = let z : ◌≡◌ {A = ℕ} 0 1 = cc in absurd (omega arith)

module _ (file : List ℕ) (fit : Bool) (p : ask_through file fit ≡ Pass) where
  abbrev contents : Asked
  contents = ask_contents (n_of file) (counts_in file) (factors_at file)

  pub through-file : ask_file file ≡ Pass
  unfolding ask_through
  through-file = (both-pass (ask_file file) (and_then (holds fit Lengths) contents) p).0

  pub through-fit : fit ≡ true
  unfolding ask_through
  through-fit = holds-pass fit Lengths (both-pass (holds fit Lengths) contents (both-pass (ask_file file) (and_then (holds fit Lengths) contents) p).1).0

  pub through-contents : contents ≡ Pass
  unfolding ask_through
  through-contents = (both-pass (holds fit Lengths) contents (both-pass (ask_file file) (and_then (holds fit Lengths) contents) p).1).1

module _ (file : List ℕ) (l : FactorLists) (p : ask_read file l ≡ Pass) where
  abbrev k : Counts
  k = counts_in file

  fits : LongLists (n_of file) k.lower k.upper l
  fits = lists-long (n_of file) k.lower k.upper l (through-fit file _ p)

  pub read-stands : Stands file (n_of file) k.lower k.upper
  read-stands = stands fits file (fitting file (through-file file _ p))

  pub read-lent : Lent Enough (n_of file) k.lower k.upper l
  read-lent = long-lent (n_of file) k.lower k.upper l fits

module _ (file : List ℕ) (l : FactorLists) (a : Answer) (e : a ≡ counted (ask_read file l) (counts_in file)) where
  pub read-stop : (q : Refusal) → a ≡ Err q → left (Err q) l ≡ read_outcome file l
  unfolding read_outcome
  read-stop q p = rw (counted-stop-is (ask_read file l) (counts_in file) q (sym p ∙ e))

  module _ (k : Counts) (p : a ≡ Ok k) where
    abbrev passes : (ask_read file l ≡ Pass) × (k ≡ counts_in file)
    passes = counted-pass-is (ask_read file l) (counts_in file) k (sym p ∙ e)

    pub read-room : Stands file (length l.d) k.lower k.upper × Lent Enough (length l.d) k.lower k.upper l
    read-room =
        let q = passes.0 in
        subst (λ (j : Counts). Stands file (length l.d) j.lower j.upper × Lent Enough (length l.d) j.lower j.upper l) (sym passes.1)
        (rw (fits file l q).d-long (read-stands file l q, read-lent file l q))

    pub read_done : (l' : FactorLists) → l' ≡ held l (lists_at file (length l.d) k.lower k.upper) → left (Ok k) l' ≡ read_outcome file l
    unfolding read_outcome factors_at
    read_done l' h =
        let q = passes.0 in
        rw (q, h, (fits file l q).d-long) (ap (λ (j : Counts). left (Ok j) (held l (lists_at file (n_of file) j.lower j.upper))) passes.1)
