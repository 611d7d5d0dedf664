-- Question 1 of every call that takes an n, whatever else it is lent.
use Rattle.std.specs.Prelude.{Ok, Err}
use mathlib.Core.Path.{◌≡◌, refl, sym, ap, ◌∙◌}
use mathlib.Core.Bool.{Bool, true, false, ◌&&◌}
use mathlib.Core.List.{List, []}
use Prim.Native.Nat.{ℕ, ◌+◌, ◌-◌, ◌*◌, ◌≤◌, ◌<◌}
use native.Mathlib.Omega.{arith}
use borrow.Author.Tests.{le-leb}
use lib.ListN.{length, get_or}
use lib.Dec.{leb, eqb}
use lib.Ieee.{Float}
use Rattle.base.specs.All.{all}
use Rattle.base.specs.First.{first}
use Rattle.base.specs.Lists.{list_at, nought}
use Rattle.base.specs.Answers.{number_of, number_of_answer, spot, holds, and_then, left, or_untouched, Pass, Asked}
use Rattle.base.specs.Limits.{max_entries, rows_within}
use Rattle.matrix.specs.Input.{Input, stored}
use Rattle.matrix.specs.Shape.{shape_of}
use Rattle.matrix.specs.Questions.{ask5, ask_structure, ask_solve, ask_right}
use Rattle.arithmetic.specs.Again.{whole_again}
use Rattle.arithmetic.specs.Arith.{Fault, zero_pivot, overflow, Out, ok, met, judged, Result}
use Rattle.blocks.specs.Blocks.{ask_blocks, whole_blocks, first_wrong, ends_at}
use Rattle.matrix.specs.Lists.{lengths_right, lists_right, MatrixLists}
use Rattle.matrix_file.specs.MatrixFile.{n_of, e_of, fits_shape, file_length, ask_head, ask_file, shaped, opened, ask_read, ask_lengths, ask_write, read_outcome, write_outcome}
use Rattle.factor_contents.specs.FactorFile as factors
use Rattle.factor_contents.specs.Judging.{presented_lists}
use Rattle.lookup.specs.Lookup as lookup
use Rattle.load.specs.Load.{ask_load, load_outcome}
use Rattle.fill_sheet.specs.FillSheet.{SheetBuffers, ask_sheet, sheet_structure, with_sheet, sheet_outcome}
use Rattle.lookup.specs.LookupLaws.{sized-no, span-unfit, part-is}
use Rattle.residual.specs.Answer.{ask_sizes, ask_row, checked}
use Rattle.residual.specs.declared.Checked.TheVariants as pairs
use Rattle.residual.proofs.Numbers.{checked-not}
use Rattle.outcome.specs.Buffers.{Buffers, sizes, ask_shape, Outcome, ended, stop}
use Rattle.outcome.specs.Structure.{ask_places, structure}
use Rattle.outcome.specs.Solve.{fault_of, listed, concluded, shape, solve}
use Rattle.outcome.specs.Refactor.{differs, ask_presented, refactored, refactor}
use Rattle.outcome.specs.Resolve.{bad_at, ask_factors, factors_of, resolved, resolve}
use Rattle.outcome.proofs.Asking.{turned, Within, within-wide, within-holds, within-absent, within-then}
use Rattle.outcome.proofs.Answers.{ask5-within, structure-within, solve-within, right-within, places-within}
use Rattle.cases.specs.Boundary.{Refuses, Passes}
use Rattle.matrix.specs.declared.Matrix.{Matrix}
use Rattle.base.specs.declared.Counts.{Counts}
use Rattle.base.specs.declared.FactorSizes.{FactorSizes}
use Rattle.base.specs.declared.Form.{Form}
use Rattle.base.specs.declared.Form.TheVariants.{Plain, Shared}
use Rattle.base.specs.declared.Side.{Side}
use Rattle.base.specs.declared.Place.{Place}
use Rattle.base.specs.declared.OwnNumber.{OwnNumber}
use Rattle.base.specs.declared.Refusal.{Refusal}
use Rattle.base.specs.declared.Refusal.TheVariants.{Rows, Lengths, FileShape, FileLength, Block, OtherStructure, BadFactors, FactorShape, Products}

-- ---- an n that is refused

first-stop : {A : Type 0} (r : Refusal → A) (a : Asked) (s : Buffers) (rest : Outcome A) (q : Refusal) → a ≡ Err q → stop r a s rest ≡ ended (r q) s
first-stop r a s rest q e = rw e

shape-1 : (n : ℕ) (tests : List Bool) → rows_within n ≡ false → ask_shape n tests ≡ Err Rows
unfolding ask_shape
shape-1 n tests o = rw o

head-1 : (file : List ℕ) (n e : ℕ) → rows_within n ≡ false → ask_head file n e ≡ Err Rows
unfolding ask_head
head-1 file n e o = rw o

file-1 : (file : List ℕ) → ask_blocks file ≡ Pass → rows_within (n_of file) ≡ false → ask_file file ≡ Err Rows
unfolding ask_file
file-1 file p o = rw p (head-1 file (n_of file) (e_of file) o)

read-1 : (file : List ℕ) (l : MatrixLists) → ask_file file ≡ Err Rows → ask_read file l ≡ Err Rows
unfolding ask_read
read-1 file l e = rw e

write-1 : (i : Input) (len : ℕ) → rows_within i.n ≡ false → ask_write i len ≡ Err Rows
unfolding ask_write ask_lengths
write-1 i len o = rw o

-- of the factor file
factors-1 : (file : List ℕ) → ask_blocks file ≡ Pass → rows_within (factors.n_of file) ≡ false → factors.ask_file file ≡ Err Rows
unfolding factors.ask_file factors.ask_head
factors-1 file p o = rw (p, o)

restored-1 : (file : List ℕ) (fit : Bool) → factors.ask_file file ≡ Err Rows → factors.ask_through file fit ≡ Err Rows
unfolding factors.ask_through
restored-1 file fit e = rw e

kept-1 : (n : ℕ) (k : Counts) (l : factors.FactorLists) (len : ℕ) → rows_within n ≡ false → factors.ask_write n k l len ≡ Err Rows
unfolding factors.ask_write factors.ask_lengths
kept-1 n k l len o = rw o

made-1 : (n e : ℕ) → rows_within n ≡ false → shape_of n e ≡ Err Rows
unfolding shape_of
made-1 n e o = rw o

load-1 : (n : ℕ) (l : MatrixLists) → rows_within n ≡ false → ask_load n l ≡ Err Rows
unfolding ask_load
load-1 n l o = rw o

check-1 : (i : Input) (x : List Float) (k : OwnNumber) → rows_within i.n ≡ false → checked i x k ≡ pairs.Refused 1 0
unfolding checked ask_row ask_sizes ask_shape
check-1 i x k o = rw o

declined : {R A : Type 0} (refused : Refusal → R) (a : Asked) (done : R) (new old : A) (q : Refusal) → a ≡ Err q → or_untouched refused a done new old ≡ left (refused q) old
declined refused a done new old q e = rw e

span-1 : (f : Form) (side : Side) (k : Place) (n : ℕ) (l u : lookup.SideLists) → rows_within n ≡ false → lookup.span_in f side k n l u ≡ lookup.span_from 0 0
unfolding lookup.span_in lookup.both_fit
span-1 f side k n l u o =
    let s = lookup.of_side side l u in
    sym (span-unfit (lookup.sized f n l && lookup.sized f n u) k n s.starts s.runs s.index (rw (← sized-no f n l o)))

none_1 : (f : Form) (side : Side) (k : Place) (n : ℕ) (l u : lookup.SideLists) → rows_within n ≡ false → lookup.lookup f side k n l u ≡ []
unfolding lookup.lookup lookup.within
none_1 f side k n l u o = rw (span-1 f side k n l u o)

module _ (n : ℕ) (o : rows_within n ≡ false) where
  out : (m : ℕ) → m ≡ n → rows_within m ≡ false
  out m e = ap rows_within e ∙ o

  pub refuses : Refuses n
  unfolding structure solve shape refactor resolve opened read_outcome write_outcome factors.opened factors.read_outcome factors.write_outcome load_outcome sheet_outcome sheet_structure ask_sheet
  refuses =
      record {
        structures = λ f i s e. first-stop Err _ s _ Rows (shape-1 i.n _ (out i.n e));
        solves = λ f i s e. first-stop Err _ s _ Rows (shape-1 i.n _ (out i.n e));
        refactors = λ f i s e. first-stop Err _ s _ Rows (shape-1 i.n _ (out i.n e));
        resolves = λ f i s e. first-stop Err _ s _ Rows (shape-1 i.n _ (out i.n e));
        makes = λ e. made-1 n e o;
        opens = λ file p e. ap (λ (a : Asked). shaped a (record { rows = n_of file; entries = e_of file })) (file-1 file p (out (n_of file) e));
        reads = λ file l p e. declined Err (ask_read file l) _ _ l Rows (read-1 file l (file-1 file p (out (n_of file) e)));
        writes = λ i file e. declined Err (ask_write i (length file)) _ _ file Rows (write-1 i (length file) (out i.n e));
        finds-factors = λ file p e. ap (λ (a : Asked). factors.shaped a (factors.sizes_in file)) (factors-1 file p (out (factors.n_of file) e));
        reads-factors = λ file l p e. declined Err (factors.ask_read file l) _ _ l Rows (restored-1 file _ (factors-1 file p (out (factors.n_of file) e)));
        writes-factors = λ k l file. declined Err (factors.ask_write n k l (length file)) _ _ file Rows (kept-1 n k l (length file) o);
        sheets = λ i s e. ap (with_sheet i s.sheet) (first-stop Err _ s.stores _ Rows (shape-1 i.n _ (out i.n e)));
        checks = λ i x k e. check-1 i x k (out i.n e);
        loads = λ s l. declined Err (ask_load n l) _ _ l Rows (load-1 n l o);
        looks = λ f side k l u. (span-1 f side k n l u o, none_1 f side k n l u o);
      }

-- ---- an n that passes

-- no refusal of these questions is 1
abbrev Later : Asked → Type 0
Later a = Within 2 21 a

module _ {A : Type 0} (number : A → ℕ) (refuse : Refusal → A) (told : (q : Refusal) → number (refuse q) ≡ number_of q) where
  first-not : (a : Asked) (s : Buffers) (o : Outcome A) → Later a → (number o.answer ≡ 1 → ⊥) → number (stop refuse a s o).answer ≡ 1 → ⊥
  unfolding Within
  first-not (Ok _) s o v h e = h e
  first-not (Err q) s o v h e = omega (arith, v q refl, told q, turned q)

  -- three questions, and what follows
  never : (a b c : Asked) (s t u : Buffers) (o : Outcome A) → Later a → Later b → Later c → (number o.answer ≡ 1 → ⊥) → number (stop refuse a s (stop refuse b t (stop refuse c u o))).answer ≡ 1 → ⊥
  never a b c s t u o v w x h = first-not a s _ v (first-not b t _ w (first-not c u o x h))

later : (lo hi : ℕ) (a : Asked) → 2 ≤ lo → hi ≤ 21 → Within lo hi a → Later a
later lo hi a l h w = within-wide lo hi 2 21 a l h w

shape-later : (n : ℕ) (tests : List Bool) → rows_within n ≡ true → Later (ask_shape n tests)
unfolding ask_shape
shape-later n tests o = rw o (within-holds 2 21 (all tests) Lengths (omega arith) (omega arith))

head-later : (file : List ℕ) (n e : ℕ) → rows_within n ≡ true → Within 16 18 (ask_head file n e)
unfolding ask_head
head-later file n e o = rw o (within-holds 16 18 (fits_shape file n e) FileShape (omega arith) (omega arith))

blocks-later : (file : List ℕ) → Within 16 18 (ask_blocks file)
unfolding ask_blocks
blocks-later file =
    within-then 16 18 _ _ (within-holds 16 18 (whole_blocks (length file)) FileLength (omega arith) (omega arith)) (within-absent 16 18 (first_wrong file) Block (λ k. omega arith) (λ k. omega arith))

file-later : (file : List ℕ) → rows_within (n_of file) ≡ true → Within 16 18 (ask_file file)
unfolding ask_file
file-later file o = within-then 16 18 (ask_blocks file) (ask_head file (n_of file) (e_of file)) (blocks-later file) (head-later file (n_of file) (e_of file) o)

read-later : (file : List ℕ) (l : MatrixLists) → rows_within (n_of file) ≡ true → Later (ask_read file l)
unfolding ask_read
read-later file l o =
    within-then 2 21 (ask_file file) (holds (lists_right (n_of file) (e_of file) l) Lengths) (later 16 18 _ (omega arith) (omega arith) (file-later file o)) (within-holds 2 21 (lists_right (n_of file) (e_of file) l) Lengths (omega arith) (omega arith))

lengths-later : (n e s v r c b len : ℕ) → rows_within n ≡ true → Later (ask_lengths n e s v r c b len)
unfolding ask_lengths
lengths-later n e s v r c b len o =
    rw o (within-then 2 21 (holds (leb e max_entries) FileShape) (holds (lengths_right n e s e v r c b && eqb len (file_length n e)) Lengths)
    (within-holds 2 21 (leb e max_entries) FileShape (omega arith) (omega arith)) (within-holds 2 21 (lengths_right n e s e v r c b && eqb len (file_length n e)) Lengths (omega arith) (omega arith)))

write-later : (i : Input) (len : ℕ) → rows_within i.n ≡ true → Later (ask_write i len)
unfolding ask_write
write-later i len o = lengths-later i.n _ _ _ _ _ _ len o

made : (n e : ℕ) → rows_within n ≡ true → e ≤ max_entries → shape_of n e ≡ Ok (record { rows = n; entries = e })
unfolding shape_of
made n e o l = rw (o, le-leb e max_entries l)

not-shaped : (a : Asked) (m : Matrix) → Within 16 18 a → shaped a m ≡ Err Rows → ⊥
unfolding Within
not-shaped (Ok _) m w e = let z : ◌≡◌ {A = ℕ} 0 1 = cc in omega arith
not-shaped (Err q) m w e = let r : q ≡ Rows = cc in omega (arith, w q refl, ap number_of r, turned q)

-- ---- the factor file's questions

factors-later : (f : Form) (n : ℕ) (s : Buffers) → Later (ask_factors f n s)
unfolding ask_factors
factors-later f n s = within-absent 2 21 (first (bad_at f n s) n) (λ k. BadFactors (spot k)) (λ k. omega arith) (λ k. omega arith)

lists-later : (n lower upper : ℕ) (l : factors.FactorLists) → Later (factors.ask15 n lower upper l)
unfolding factors.ask15
lists-later n lower upper l =
    within-then 2 21 (ask_factors Plain n (presented_lists l)) (holds (factors.starts_end n lower upper l) (BadFactors (spot (n - 1))))
    (factors-later Plain n (presented_lists l)) (within-holds 2 21 (factors.starts_end n lower upper l) (BadFactors (spot (n - 1))) (omega arith) (omega arith))

contents-later : (n : ℕ) (k : Counts) (l : factors.FactorLists) → Later (factors.ask_contents n k l)
unfolding factors.ask_contents
contents-later n k l =
    let t = eqb k.products (factors.products_of l.lower-index l.upper-starts) in
    let lists = factors.ask15 n k.lower k.upper l in
    within-then 2 21 (ask5 n l.r l.c) (and_then lists (holds t Products)) (later 5 5 _ (omega arith) (omega arith) (ask5-within n l.r l.c))
    (within-then 2 21 lists (holds t Products) (lists-later n k.lower k.upper l) (within-holds 2 21 t Products (omega arith) (omega arith)))

found-later : (file : List ℕ) → rows_within (factors.n_of file) ≡ true → Later (factors.ask_file file)
unfolding factors.ask_file factors.ask_head
found-later file o =
    let k = factors.counts_in file in
    let t = ends_at file (factors.size_of (factors.n_of file) k.lower k.upper) in
    rw o (within-then 2 21 (ask_blocks file) (holds t FactorShape) (later 16 18 _ (omega arith) (omega arith) (blocks-later file)) (within-holds 2 21 t FactorShape (omega arith) (omega arith)))

restored-later : (file : List ℕ) (fit : Bool) → rows_within (factors.n_of file) ≡ true → Later (factors.ask_through file fit)
unfolding factors.ask_through
restored-later file fit o =
    let contents = factors.ask_contents (factors.n_of file) (factors.counts_in file) (factors.factors_at file) in
    within-then 2 21 (factors.ask_file file) (and_then (holds fit Lengths) contents) (found-later file o)
    (within-then 2 21 (holds fit Lengths) contents (within-holds 2 21 fit Lengths (omega arith) (omega arith)) (contents-later _ _ _))

kept-later : (n : ℕ) (k : Counts) (l : factors.FactorLists) (len : ℕ) → rows_within n ≡ true → Later (factors.ask_write n k l len)
unfolding factors.ask_write factors.ask_lengths
kept-later n k l len o =
    let t = factors.lists_fit n k.lower k.upper l && eqb len (factors.file_length n k.lower k.upper) in
    rw o (within-then 2 21 (holds t Lengths) (factors.ask_contents n k (factors.cut k l)) (within-holds 2 21 t Lengths (omega arith) (omega arith)) (contents-later n k (factors.cut k l)))

not_found : (a : Asked) (s : FactorSizes) → Later a → number_of_answer (factors.shaped a s) ≡ 1 → ⊥
unfolding Within
not_found (Ok _) s w e = omega arith
not_found (Err q) s w e = omega (arith, w q refl, turned q)

-- ---- the others

load-later : (n : ℕ) (l : MatrixLists) → rows_within n ≡ true → Later (ask_load n l)
unfolding ask_load
load-later n l o = rw o (within-holds 2 21 (lists_right n (4 * n) l) Lengths (omega arith) (omega arith))

not_left : {R A : Type 0} (number : R → ℕ) (refused : Refusal → R) (told : (q : Refusal) → number (refused q) ≡ number_of q) (a : Asked) (done : R) (new old : A)
    → number done ≡ 0 → Later a → number (or_untouched refused a done new old).answer ≡ 1 → ⊥
unfolding Within
not_left number refused told (Ok _) done new old z w e = omega arith
not_left number refused told (Err q) done new old z w e = omega (arith, w q refl, told q, turned q)

looked : (f : Form) (side : Side) (k : Place) (n : ℕ) (l u : lookup.SideLists) → lookup.sized f n l ≡ true → lookup.sized f n u ≡ true
    → k.0 < n → (o : lookup.SideLists) → o ≡ lookup.of_side side l u → get_or o.starts k.0 0 ≤ get_or o.starts (k.0 + 1) 0
    → get_or o.runs k.0 0 + (get_or o.starts (k.0 + 1) 0 - get_or o.starts k.0 0) ≤ length o.index
    → lookup.lookup f side k n l u ≡ list_at o.starts o.runs o.index k.0
unfolding lookup.lookup lookup.span_in lookup.both_fit
looked f side k n l u a b h o e d g = rw (a, b, ← e) (part-is k n o.starts o.runs o.index h d g)

fault-not : (q : Fault) → number_of (fault_of q) ≡ 1 → ⊥
fault-not (zero_pivot k) e = omega arith
fault-not (overflow k) e = omega arith

module _ (f : Form) (i : Input) (s : Buffers) where
  concluded-not : (o : Out Result) → number_of_answer (concluded f i (sizes s) s.x o).answer ≡ 1 → ⊥
  concluded-not (ok a) e = omega arith
  concluded-not (met q) e = fault-not q e

  refactored-not : (o : Out Result) → number_of_answer (refactored f i s o).answer ≡ 1 → ⊥
  refactored-not (ok a) e = omega arith
  refactored-not (met q) e = fault-not q e

  resolved-not : (o : Out (List Float)) → number_of_answer (resolved i s o).answer ≡ 1 → ⊥
  resolved-not (ok a) e = omega arith
  resolved-not (met q) e = fault-not q e

  presented : Later (ask_presented f (stored i) i.n s)
  unfolding ask_presented
  presented = within-absent 2 21 (first (differs f (stored i) i.n s) i.n) (λ k. OtherStructure (spot k)) (λ k. omega arith) (λ k. omega arith)

  placed : Later (ask_places f (stored i) i.n (sizes s) i.n)
  placed = later 9 11 _ (omega arith) (omega arith) (places-within f (stored i) i.n (sizes s) i.n)

  solved : Later (ask_solve i)
  solved = later 3 7 _ (omega arith) (omega arith) (solve-within i)

  module _ (o : rows_within i.n ≡ true) where
    structure-not : number_of_answer (structure f i s).answer ≡ 1 → ⊥
    unfolding structure
    structure-not = never number_of_answer Err (λ q. refl) _ (ask_structure i) _ _ _ _ _ (shape-later i.n _ o) (later 3 7 _ (omega arith) (omega arith) (structure-within i)) placed (λ e. omega arith)

    solve-not : number_of_answer (solve f i s).answer ≡ 1 → ⊥
    unfolding solve shape
    solve-not = never number_of_answer Err (λ q. refl) _ (ask_solve i) _ _ _ _ _ (shape-later i.n _ o) solved placed (concluded-not (listed i))

    refactor-not : number_of_answer (refactor f i s).answer ≡ 1 → ⊥
    unfolding refactor shape
    refactor-not = never number_of_answer Err (λ q. refl) _ (ask_solve i) _ _ _ _ _ (shape-later i.n _ o) solved presented (refactored-not (listed i))

    resolve-not : number_of_answer (resolve f i s).answer ≡ 1 → ⊥
    unfolding resolve
    resolve-not = never number_of_answer Err (λ q. refl) _ (ask_right i.n i.r i.c i.b) _ _ _ _ _ (shape-later i.n _ o) (later 5 6 _ (omega arith) (omega arith) (right-within i.n i.r i.c i.b)) (factors-later f i.n s) (resolved-not (judged nought (whole_again (factors_of f i s))))

sheet-not : (i : Input) (s : SheetBuffers) → rows_within i.n ≡ true → number_of_answer (sheet_outcome i s).answer ≡ 1 → ⊥
unfolding sheet_outcome sheet_structure ask_sheet
sheet-not i s o = first-not number_of_answer Err (λ q. refl) _ s.stores (structure Shared i s.stores) (shape-later i.n _ o) (structure-not Shared i s.stores o)

module _ (n : ℕ) (o : rows_within n ≡ true) where
  in-limits : (m : ℕ) → m ≡ n → rows_within m ≡ true
  in-limits m e = ap rows_within e ∙ o

  pub passes : Passes n
  unfolding opened read_outcome write_outcome factors.opened factors.read_outcome factors.write_outcome load_outcome
  passes =
      record {
        structures = λ f i s e. structure-not f i s (in-limits i.n e);
        solves = λ f i s e. solve-not f i s (in-limits i.n e);
        refactors = λ f i s e. refactor-not f i s (in-limits i.n e);
        resolves = λ f i s e. resolve-not f i s (in-limits i.n e);
        makes = λ e. made n e o;
        opens = λ file e. not-shaped (ask_file file) _ (file-later file (in-limits (n_of file) e));
        reads = λ file l e. not_left number_of_answer Err (λ q. refl) (ask_read file l) _ _ l refl (read-later file l (in-limits (n_of file) e));
        writes = λ i file e. not_left number_of_answer Err (λ q. refl) (ask_write i (length file)) _ _ file refl (write-later i (length file) (in-limits i.n e));
        finds-factors = λ file e. not_found (factors.ask_file file) _ (found-later file (in-limits (factors.n_of file) e));
        reads-factors = λ file l e. not_left number_of_answer Err (λ q. refl) (factors.ask_read file l) _ _ l refl (restored-later file _ (in-limits (factors.n_of file) e));
        writes-factors = λ k l file. not_left number_of_answer Err (λ q. refl) (factors.ask_write n k l (length file)) _ _ file refl (kept-later n k l (length file) o);
        sheets = λ i s e. sheet-not i s (in-limits i.n e);
        checks = λ i x k e. checked-not i x k (in-limits i.n e);
        loads = λ s l. not_left number_of_answer Err (λ q. refl) (ask_load n l) _ _ l refl (load-later n l o);
        looks = λ f side k l u. looked f side k n l u;
      }
