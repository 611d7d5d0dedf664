-- "What is read solves another right side to the bits the original factors give": another right side looks at the lists only, not at unused slots.
use Rattle.std.specs.Prelude.{Ok, Err}
use mathlib.Core.Path.{◌≡◌, refl, sym, ap, subst, ◌∙◌}
use mathlib.Core.Bool.{Bool, true, false, ◌&&◌}
use mathlib.Core.List.{List, [], ◌++◌}
use Prim.Native.Nat.{ℕ, ◌+◌, ◌-◌, ◌<◌, ◌≤◌}
use native.Mathlib.Omega.{arith}
use native.Mathlib.Decide.{dec_lt}
use lib.ListN.{length, get_or, take, drop, take-append-drop, length-drop, get_or-eq_default}
use lib.Seq.{length-take-le, take-append-le, drop-append-le}
use lib.Ieee.{Float, nan}
use lib.Ieee.Scale.{finite}
use borrow.Author.Tests.{le-ltb}
use Rattle.base.specs.Lists.{list_at, pairs, nought}
use Rattle.base.specs.All.{all}
use Rattle.base.specs.AllLaws.{all_join}
use Rattle.base.specs.Answers.{spot, holds, and_then, absent, number_of, number_of_answer, counts_of, Left, left, or_untouched, Pass, Asked, Answer}
use Rattle.base.specs.FirstLaws.{first-all, both-pass}
use Rattle.base.specs.Limits.{rows_within}
use Rattle.base.specs.declared.Counts.{Counts}
use Rattle.base.specs.declared.Form.TheVariants.{Plain}
use Rattle.base.specs.declared.Refusal.TheVariants.{Rows, Lengths, BadFactors}
use Rattle.base.specs.declared.Side.{Side}
use Rattle.base.specs.declared.Side.TheVariants.{Lower, Upper}
use Rattle.arithmetic.specs.Arith.{Out, ok, met, judged}
use Rattle.arithmetic.specs.Again.{whole_again}
use Rattle.matrix.specs.Input.{Input, input_of, right_at}
use Rattle.matrix.specs.Questions.{ask5, ask_right}
use Rattle.outcome.specs.Buffers.{SideBuffers, side_buffers, Buffers, all_buffers, sizes, right_tests, buffer_tests, ask_shape, scratch_cleared, Outcome, stop}
use Rattle.outcome.specs.Solve.{fault_of}
use Rattle.outcome.proofs.Asking.{number-some}
use Rattle.outcome.specs.Resolve.{given_list, given_values, misplaced, bad_list, bad_at, ask_factors, factors_of, with_solution, resolved, resolve}
use Rattle.factor_contents.specs.FactorFile.{FactorLists, lower_of, upper_of, cut, held, written, n_of, counts_in, factors_at, ask15, ask_contents, ask_read, ask_write, read_outcome, write_outcome}
use Rattle.factor_contents.specs.Judging.{Enough, Whole, Lent}
use Rattle.factor_contents.proofs.LengthLaws.{long-lent}
use Rattle.factor_reading.proofs.ReadLaws.{read-lent}
use Rattle.factor_writing.proofs.WriteLaws.{write-long}
use Rattle.factor_file.proofs.WrittenRead.{Widths, asked, lent, written_read}
use Rattle.factor_file.proofs.ReadWritten.{cut-back, as_long}
use Rattle.factor_file.proofs.Values.{placed, rises, lower-good, upper-good, d-good}

-- a part of a store lies before its unused slots
part_cut : {A : Type 0} (a m c : ℕ) (l : List A) → c ≤ length l → a + m ≤ c → take m (drop a l) ≡ take m (drop a (take c l))
part_cut a m c l h k =
    let q : length (take c l) ≡ c = length-take-le c l h in
    let e : drop a l ≡ drop a (take c l) ++ drop c l = ap (drop a) (sym (take-append-drop c l)) ∙ drop-append-le a (take c l) (drop c l) (rw q (omega arith)) in
    ap (take m) e ∙ take-append-le m (drop a (take c l)) (drop c l) (rw (length-drop, q) (omega arith))

-- list j of a store, where every list ends in time, and past the starts
module _ {A : Type 0} (starts : List ℕ) (store : List A) (n c : ℕ) (long : length starts ≡ n + 1) (h : c ≤ length store)
    (inside : (j : ℕ) → j < n → (get_or starts j 0 ≤ get_or starts (j + 1) 0) × (get_or starts (j + 1) 0 ≤ c)) where
  pub lists-cut : (j : ℕ) → list_at starts starts store j ≡ list_at starts starts (take c store) j
  unfolding list_at
  lists-cut j = elim (dec_lt j n) [
    | yes l ↦ (let r = inside j l in part_cut (get_or starts j 0) (get_or starts (j + 1) 0 - get_or starts j 0) c store h (omega arith))
    | no l ↦ (let e : get_or starts (j + 1) 0 - get_or starts j 0 ≡ 0 = rw (get_or-eq_default starts 0 {n = j + 1} (rw long (omega arith))) (omega arith) in rw e)
  ]

-- ---- a side whose lists are good without its unused slots

module _ (w : Side) (n c : ℕ) (starts index : List ℕ) (values : List Float) (long : length starts ≡ n + 1) (hi : c ≤ length index) (hv : c ≤ length values)
    (good : (k : ℕ) → k < n → bad_list Plain w n (side_buffers starts [] (take c index) (take c values)) k ≡ false) where
  abbrev whole : SideBuffers
  whole = side_buffers starts [] index values

  abbrev used : SideBuffers
  used = side_buffers starts [] (take c index) (take c values)

  inside : (j : ℕ) → j < n → (get_or starts j 0 ≤ get_or starts (j + 1) 0) × (get_or starts (j + 1) 0 ≤ c)
  inside j l = let r = rises w n used good j l in (r.0, omega (arith, r.1, length-take-le c index hi))

  list-cut : (j : ℕ) → given_list Plain whole j ≡ given_list Plain used j
  unfolding given_list
  list-cut j = lists-cut starts index n c long hi inside j

  values-cut : (j : ℕ) → given_values whole j ≡ given_values used j
  unfolding given_values
  values-cut j = lists-cut starts values n c long hv inside j

  whole-good : (j : ℕ) → j < n → bad_list Plain w n whole j ≡ false
  unfolding bad_list misplaced
  whole-good j l =
      let g = placed w n used good j l in
      let r = rises w n used good j l in
      let i = inside j l in
      rw (
        r.3,
        le-ltb (get_or starts (j + 1) 0) (get_or starts j 0) i.0,
        le-ltb (length index) (get_or starts j 0 + (get_or starts (j + 1) 0 - get_or starts j 0)) (omega arith),
        le-ltb (length values) (get_or starts (j + 1) 0) (omega arith),
        list-cut j,
        values-cut j,
        g.2,
        g.1,
      )

-- ---- factors in stores with unused slots

-- the buffers that another right side is lent
abbrev pub lent_with : FactorLists → List Float → List Float → List ℕ → Buffers
lent_with l x w m = all_buffers (lower_of l) (upper_of l) l.d x w m

module _ (n : ℕ) (k : Counts) (l : FactorLists) (h : Lent Enough n k.lower k.upper l) (p : ask15 n k.lower k.upper (cut k l) ≡ Pass) where
  below : (j : ℕ) → j < n → bad_list Plain Lower n (side_buffers l.lower-starts [] (take k.lower l.lower-index) (take k.lower l.lower-values)) j ≡ false
  unfolding cut
  below = lower-good n k.lower k.upper (cut k l) p

  above : (j : ℕ) → j < n → bad_list Plain Upper n (side_buffers l.upper-starts [] (take k.upper l.upper-index) (take k.upper l.upper-values)) j ≡ false
  unfolding cut
  above = upper-good n k.lower k.upper (cut k l) p

  d-finite : (j : ℕ) → j < n → finite (get_or l.d j nan) ≡ true
  unfolding cut
  d-finite = d-good n k.lower k.upper (cut k l) p

  -- they pass 15
  stored-pass : (x w : List Float) (m : List ℕ) → ask_factors Plain n (lent_with l x w m) ≡ Pass
  unfolding ask_factors bad_at
  stored-pass x w m =
      ap (λ f. absent f (λ j. BadFactors (spot j))) (first-all (bad_at Plain n (lent_with l x w m)) n (λ j q.
      rw (
        whole-good Lower n k.lower l.lower-starts l.lower-index l.lower-values h.lower-starts-size h.lower-index-size h.lower-values-size below j q,
        whole-good Upper n k.upper l.upper-starts l.upper-index l.upper-values h.upper-starts-size h.upper-index-size h.upper-values-size above j q,
        d-finite j q,
      )))

  -- and are the factors of their used slots
  stored-factors : (i : Input) (x w x' w' : List Float) (m m' : List ℕ) → factors_of Plain i (lent_with l x w m) ≡ factors_of Plain i (lent_with (cut k l) x' w' m')
  unfolding factors_of cut
  stored-factors i x w x' w' m m' =
      let li = list-cut Lower n k.lower l.lower-starts l.lower-index l.lower-values h.lower-starts-size h.lower-index-size h.lower-values-size below in
      let lv = values-cut Lower n k.lower l.lower-starts l.lower-index l.lower-values h.lower-starts-size h.lower-index-size h.lower-values-size below in
      let ui = list-cut Upper n k.upper l.upper-starts l.upper-index l.upper-values h.upper-starts-size h.upper-index-size h.upper-values-size above in
      let uv = values-cut Upper n k.upper l.upper-starts l.upper-index l.upper-values h.upper-starts-size h.upper-index-size h.upper-values-size above in
      λ t. record {
        n = i.n;
        lower = λ j. pairs (li j t) (lv j t);
        d = λ j. get_or l.d j nan;
        upper = λ j. ui j t;
        u = λ j. uv j t;
        rhs = right_at i;
      }

-- ---- another right side over them

-- how two calls of it end: alike, and with the same x where they are done
pub record Alike (o p : Outcome Asked) : Type 0 where
  pub answer : o.answer ≡ p.answer
  pub x : number_of_answer o.answer ≡ 0 → o.buffers.x ≡ p.buffers.x

-- what is left once 15 is passed
abbrev rest : Asked → Asked → Out (List Float) → Input → Buffers → Outcome Asked
rest a b o i s = stop Err a s (stop Err b (scratch_cleared s) (resolved i s o))

rest-alike : (a b : Asked) (o : Out (List Float)) (i : Input) (s t : Buffers) → Alike (rest a b o i s) (rest a b o i t)
unfolding with_solution
rest-alike (Err q) b o i s t = record { answer = refl; x = λ e. absurd (number-some q e) }
rest-alike (Ok _) (Err q) o i s t = record { answer = refl; x = λ e. absurd (number-some q e) }
rest-alike (Ok _) (Ok _) (ok z) i s t = record { answer = refl; x = λ e. refl }
rest-alike (Ok _) (Ok _) (met q) i s t = record { answer = refl; x = λ e. absurd (number-some (fault_of q) e) }

shape_is : (n : ℕ) (a b : List Bool) → all b ≡ true → ask_shape n (a ++ b) ≡ ask_shape n a
unfolding ask_shape
shape_is n a b e = ap (λ (t : Bool). and_then (holds (rows_within n) Rows) (holds t Lengths)) (all_join a b ∙ (ap (λ (t : Bool). all a && t) e ∙ and-true (all a)))
  where
    and-true : (t : Bool) → (t && true) ≡ t
    and-true true = refl
    and-true false = refl

module _ (i : Input) (k : Counts) where
  abbrev n : ℕ
  n = i.n

  module _ (l : FactorLists) (h : Lent Enough n k.lower k.upper l) (p : ask15 n k.lower k.upper (cut k l) ≡ Pass) (x w : List Float) (m : List ℕ)
      (fit : all (buffer_tests Plain n (sizes (lent_with l x w m))) ≡ true) where
    resolve-is : resolve Plain i (lent_with l x w m)
        ≡ rest (ask_shape n (right_tests i)) (ask_right n i.r i.c i.b) (judged nought (whole_again (factors_of Plain i (lent_with (cut k l) [] [] [])))) i (lent_with l x w m)
    unfolding resolve
    resolve-is = rw (shape_is n (right_tests i) (buffer_tests Plain n (sizes (lent_with l x w m))) fit, stored-pass n k l h p x w m, stored-factors n k l h p i x w [] [] m [])

  -- Stores with the same lists solve a right side alike, whatever their unused slots hold.
  pub stored-alike : (l l' : FactorLists) → Lent Enough n k.lower k.upper l → Lent Enough n k.lower k.upper l' → cut k l' ≡ cut k l → ask15 n k.lower k.upper (cut k l) ≡ Pass
      → (x w x' w' : List Float) (m m' : List ℕ) → all (buffer_tests Plain n (sizes (lent_with l x w m))) ≡ true → all (buffer_tests Plain n (sizes (lent_with l' x' w' m'))) ≡ true
      → Alike (resolve Plain i (lent_with l x w m)) (resolve Plain i (lent_with l' x' w' m'))
  stored-alike l l' h h' same p x w x' w' m m' fit fit' =
      let p' : ask15 n k.lower k.upper (cut k l') ≡ Pass = rw same p in
      let e' = rw same at (resolve-is l' h' p' x' w' m' fit') in
      rw (resolve-is l h p x w m fit, e') (rest-alike (ask_shape n (right_tests i)) (ask_right n i.r i.c i.b) (judged nought (whole_again (factors_of Plain i (lent_with (cut k l) [] [] [])))) i (lent_with l x w m) (lent_with l' x' w' m'))

-- ---- over the calls

written-done : (a : Asked) (new old file : List ℕ) → or_untouched Err a Pass new old ≡ left Pass file → (a ≡ Pass) × (new ≡ file)
written-done (Ok _) new old file e = (refl, ap (λ (o : Left Asked (List ℕ)). o.held) e)
written-done (Err q) new old file e =
    absurd (let z : number_of q ≡ 0 = ap (λ (o : Left Asked (List ℕ)). number_of_answer o.answer) e in number-some q z)

read_done : (a : Asked) (k j : Counts) (new old l : FactorLists) → or_untouched Err a (Ok k) new old ≡ left (Ok j) l → (a ≡ Pass) × (j ≡ k) × (l ≡ new)
read_done (Ok _) k j new old l e =
    (refl, sym (ap (λ (o : Left Answer FactorLists). counts_of o.answer) e), sym (ap (λ (o : Left Answer FactorLists). o.held) e))
read_done (Err q) k j new old l e =
    absurd (let z : number_of q ≡ 0 = ap (λ (o : Left Answer FactorLists). number_of_answer o.answer) e in number-some q z)

-- Factors were written, and the file was read into other buffers: counts and orders are the same,
module _ (n : ℕ) (k : Counts) (l : FactorLists) (buffer file : List ℕ) (w : Widths k l) (wrote : write_outcome n k l buffer ≡ left Pass file)
    (m l' : FactorLists) (j : Counts) (read : read_outcome file m ≡ left (Ok j) l') where
  wrote-is : (ask_write n k l (length buffer) ≡ Pass) × (written n k (cut k l) ≡ file)
  unfolding write_outcome
  wrote-is = written-done (ask_write n k l (length buffer)) (written n k (cut k l)) buffer file wrote

  read_is : (ask_read file m ≡ Pass) × (j ≡ counts_in file) × (l' ≡ held m (factors_at file))
  unfolding read_outcome
  read_is = read_done (ask_read file m) (counts_in file) j (held m (factors_at file)) m l' read

  kept-is : (n_of file ≡ n) × (counts_in file ≡ k) × (factors_at file ≡ cut k l)
  kept-is =
      let r = written_read n k l buffer w wrote-is.0 in
      subst (λ (f : List ℕ). (n_of f ≡ n) × (counts_in f ≡ k) × (factors_at f ≡ cut k l)) wrote-is.1 (r.1, r.2, r.3)

  pub counts-back : j ≡ k
  counts-back = read_is.1 ∙ kept-is.1

  lists_back : l' ≡ held m (cut k l)
  lists_back = read_is.2 ∙ ap (held m) kept-is.2

  pub orders-back : (l'.r ≡ l.r) × (l'.c ≡ l.c)
  unfolding held cut
  orders-back = (ap (λ (f : FactorLists). f.r) lists_back, ap (λ (f : FactorLists). f.c) lists_back)

  abbrev sized : Lent Whole n k.lower k.upper (cut k l)
  sized = (lent n k l buffer wrote-is.0).lists

  cut-same : cut k l' ≡ cut k l
  cut-same =
      ap (cut k) lists_back ∙ cut-back k m (cut k l) sized.lower-index-size sized.lower-values-size sized.upper-index-size sized.upper-values-size

  first-stored : Lent Enough n k.lower k.upper l
  first-stored = long-lent n k.lower k.upper l (write-long n k l buffer Pass (sym (asked n k l buffer wrote-is.0).0) refl)

  lent_is : Lent Enough n k.lower k.upper m
  lent_is = subst (λ (q : ℕ). Lent Enough q k.lower k.upper m) kept-is.0 (subst (λ (c : Counts). Lent Enough (n_of file) c.lower c.upper m) kept-is.1 (read-lent file m read_is.0))

  then-stored : Lent Enough n k.lower k.upper l'
  unfolding held
  then-stored =
      let g = lent_is in
      subst (Lent Enough n k.lower k.upper) (sym lists_back)
      (record {
        r-size = sized.r-size;
        c-size = sized.c-size;
        d-size = sized.d-size;
        lower-starts-size = sized.lower-starts-size;
        lower-index-size = rw (as_long 0 m.lower-index (cut k l).lower-index k.lower sized.lower-index-size g.lower-index-size) g.lower-index-size;
        lower-values-size = rw (as_long nought m.lower-values (cut k l).lower-values k.lower sized.lower-values-size g.lower-values-size) g.lower-values-size;
        upper-starts-size = sized.upper-starts-size;
        upper-index-size = rw (as_long 0 m.upper-index (cut k l).upper-index k.upper sized.upper-index-size g.upper-index-size) g.upper-index-size;
        upper-values-size = rw (as_long nought m.upper-values (cut k l).upper-values k.upper sized.upper-values-size g.upper-values-size) g.upper-values-size;
      })

  passed : ask15 n k.lower k.upper (cut k l) ≡ Pass
  unfolding ask_contents
  passed =
      let c = (asked n k l buffer wrote-is.0).1 in
      (both-pass (ask15 n k.lower k.upper (cut k l)) _ (both-pass (ask5 n (cut k l).r (cut k l).c) _ c).1).0

  -- and another right side ends over them as over the original ones, with the same bits of x.
  pub solves-alike : (b : List Float) (x w x' w' : List Float) (s s' : List ℕ)
      → all (buffer_tests Plain n (sizes (lent_with l x w s))) ≡ true → all (buffer_tests Plain n (sizes (lent_with l' x' w' s'))) ≡ true
      → Alike (resolve Plain (input_of n [] [] [] l.r l.c b) (lent_with l x w s)) (resolve Plain (input_of n [] [] [] l'.r l'.c b) (lent_with l' x' w' s'))
  solves-alike b x w x' w' s s' fit fit' =
      rw (orders-back.0, orders-back.1) (stored-alike (input_of n [] [] [] l.r l.c b) k l l' first-stored then-stored cut-same passed x w x' w' s s' fit fit')
