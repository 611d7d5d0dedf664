-- The ways through the three calls, and what passed questions tell.
use Rattle.matrix.specs.Shape.{Shaped}
use Rattle.std.specs.Prelude.{Ok, Err}
use mathlib.Core.Path.{◌≡◌, refl, sym, ap, ◌∙◌}
use mathlib.Core.Bool.{Bool, true, false, not, ◌&&◌}
use mathlib.Core.List.{List, [], ◌∷◌, ◌++◌, append-nil, append_assoc}
use Prim.Native.Nat.{ℕ, ◌+◌, ◌*◌, ◌/◌, ◌<◌, ◌≤◌}
use native.Mathlib.Omega.{arith}
use borrow.Author.Tests.{eqb-true, leb-true, le-leb, lt-leb, not-true, not-false}
use lib.Dec.{eqb, leb}
use lib.ListN.{length}
use lib.Ieee.{Float}
use Rattle.base.specs.Lists.{table}
use Rattle.base.specs.Tests.{and_cases}
use Rattle.base.specs.FirstLaws.{both-pass, holds-pass}
use Rattle.base.specs.Answers.{holds, and_then, left, Pass, Asked}
use Rattle.base.specs.declared.Refusal.{Refusal}
use Rattle.base.specs.declared.Refusal.TheVariants.{Rows, Lengths, FileShape}
use Rattle.base.specs.Limits.{max_rows, max_entries, rows_within}
use Rattle.matrix.specs.Input.{Input}
use Rattle.matrix.specs.ListsLaws.{Long, long-lists, rows-range}
use Rattle.matrix.specs.declared.Matrix.{Matrix}
use Rattle.fields.specs.Numbers.{bytes, fields, part, stream}
use Rattle.fields.specs.Payload.{room, payloads, fields_at, floats_at}
use Rattle.fields.proofs.PartLaws.{stream-append}
use Rattle.blocks.specs.Blocks.{blocks_for, file_of, ends_at, ask_blocks}
use Rattle.blocks.proofs.FileLaws.{asked-whole}
use Rattle.blocks.proofs.AskLaws.{then-no}
use Rattle.matrix.specs.Lists.{MatrixLists, matrix_lists, lengths_right, lists_right}
use Rattle.matrix_file.specs.MatrixFile.{matrix_parts, order_parts, written, size_of, file_length, n_of, e_of, shape_in, lists_at, matrix_at, fits_shape, ask_head, ask_file, shaped, opened, ask_read, ask_lengths, ask_write, read_outcome, write_outcome}

-- 512 bytes hold n and e
pub head-room : (file : List ℕ) (a : Asked) → a ≡ ask_blocks file → a ≡ Pass → 8 ≤ room file
head-room file a e p = let w = asked-whole file (sym e ∙ p) in omega arith

-- ---- the shape of a file

module _ (file : List ℕ) (n e : ℕ) (a : Asked) (en : n ≡ n_of file) (ee : e ≡ e_of file) (ask : a ≡ ask_head file n e) where
  pub head-pass : a ≡ Pass → Ok (record { rows = n; entries = e }) ≡ shaped (ask_head file (n_of file) (e_of file)) (shape_in file)
  head-pass p = rw (← en, ← ee, ← ask, p)

  pub head-stop : (q : Refusal) → a ≡ Err q → Err q ≡ shaped (ask_head file (n_of file) (e_of file)) (shape_in file)
  head-stop q p = rw (← en, ← ee, ← ask, p)

module _ (file : List ℕ) (a : Asked) (ask : a ≡ ask_blocks file) where
  pub shape-stop : (q : Refusal) → a ≡ Err q → Err q ≡ opened file
  unfolding opened ask_file
  shape-stop q p = rw (← ask, p)

  pub shape-head : (x : Shaped) → a ≡ Pass → x ≡ shaped (ask_head file (n_of file) (e_of file)) (shape_in file) → x ≡ opened file
  unfolding opened ask_file
  shape-head x p h = rw (← ask, p, h)

-- ---- a file that opens

shaped-pass : (a : Asked) (m m' : Matrix) → Ok m ≡ shaped a m' → (a ≡ Pass) × (m ≡ m')
shaped-pass (Ok _) m m' e = (refl, cc)
shaped-pass (Err q) m m' e = let z : ◌≡◌ {A = ℕ} 0 1 = cc in absurd (omega arith)

shaped-stop : (a : Asked) (q : Refusal) (m : Matrix) → Err q ≡ shaped a m → a ≡ Err q
shaped-stop (Err p) q m e = cc
shaped-stop (Ok _) q m e = let z : ◌≡◌ {A = ℕ} 0 1 = cc in absurd (omega arith)

pub opened-pass : (file : List ℕ) (m : Matrix) → Ok m ≡ opened file → (ask_file file ≡ Pass) × (m ≡ shape_in file)
unfolding opened
opened-pass file m e = shaped-pass (ask_file file) m (shape_in file) e

pub record Fitting (file : List ℕ) (n e : ℕ) : Type 0 where
  pub asked : ask_blocks file ≡ Pass
  pub n-some : 1 ≤ n
  pub n-most : n ≤ max_rows
  pub e-most : e ≤ max_entries
  pub ends : ends_at file (size_of n e) ≡ true
  pub count : length file / 512 ≡ blocks_for (size_of n e)

pub fitting : (file : List ℕ) → ask_file file ≡ Pass → Fitting file (n_of file) (e_of file)
unfolding ask_file ask_head
fitting file p =
    let n = n_of file in
    let e = e_of file in
    let head = (both-pass (ask_blocks file) (ask_head file (n_of file) (e_of file)) p).1 in
    let rows = rows-range (n_of file) (holds-pass (rows_within (n_of file)) Rows (both-pass (holds (rows_within (n_of file)) Rows) (holds (fits_shape file (n_of file) (e_of file)) FileShape) head).0) in
    let fits = and_cases (leb (e_of file) max_entries) (ends_at file (size_of (n_of file) (e_of file)))
    (holds-pass (fits_shape file (n_of file) (e_of file)) FileShape (both-pass (holds (rows_within (n_of file)) Rows) (holds (fits_shape file (n_of file) (e_of file)) FileShape) head).1) in
    record {
      asked = (both-pass (ask_blocks file) (ask_head file (n_of file) (e_of file)) p).0;
      n-some = rows.0;
      n-most = rows.1;
      e-most = leb-true (e_of file) max_entries fits.0;
      ends = fits.1;
      count = eqb-true (length file / 512) (blocks_for (size_of (n_of file) (e_of file))) (and_cases (eqb (length file / 512) (blocks_for (size_of (n_of file) (e_of file)))) _ fits.1).0;
    }

pub rows-most : (file : List ℕ) (f : Shaped) (m : Matrix) → f ≡ opened file → f ≡ Ok m → m.rows ≤ max_rows
rows-most file f m o p =
    let q = opened-pass file m (sym p ∙ o) in rw (ap (λ (m : Matrix). m.rows) q.1) (fitting file q.0).n-most

-- ---- reading

module _ (file : List ℕ) (l : MatrixLists) (f : Shaped) (o : f ≡ opened file) where
  pub read-stop : (q : Refusal) → f ≡ Err q → left (Err q) l ≡ read_outcome file l
  unfolding read_outcome ask_read opened
  read-stop q p = rw (shaped-stop (ask_file file) q (shape_in file) (sym p ∙ o))

  module _ (m : Matrix) (p : f ≡ Ok m) (x : Bool) (ex : x ≡ lists_right m.rows m.entries l) where
    abbrev passed : (ask_file file ≡ Pass) × (m ≡ shape_in file)
    passed = opened-pass file m (sym p ∙ o)

    right_is : lists_right (n_of file) (e_of file) l ≡ x
    right_is = ap (λ (m : Matrix). lists_right m.rows m.entries l) (sym passed.1) ∙ sym ex

    pub read-lengths : not x ≡ true → left (Err Lengths) l ≡ read_outcome file l
    unfolding read_outcome ask_read
    read-lengths n = rw (passed.0, right_is, not-true x n)

    long-are : not x ≡ false → Long (n_of file) (e_of file) (length l.starts) (length l.columns) (length l.values) (length l.r) (length l.c) (length l.b)
    long-are n = long-lists (n_of file) (e_of file) _ _ _ _ _ _ (right_is ∙ not-false x n)

    pub read-room : not x ≡ false → 8 + 4 * length l.starts + 2 * length l.columns + 8 * length l.values + 2 * length l.r + 2 * length l.c + 8 * length l.b ≤ room file
    read-room n = let g = long-are n in let h = fitting file passed.0 in omega arith

    pub read_done : (l' : MatrixLists) → not x ≡ false
        → l' ≡ lists_at file (length l.starts) (length l.columns) (length l.values) (length l.r) (length l.c) (length l.b)
        → left Pass l' ≡ read_outcome file l
    unfolding read_outcome ask_read matrix_at
    read_done l' n e =
        let g = long-are n in
        rw (passed.0, right_is, not-false x n)
        (ap (λ (y : MatrixLists). left Pass y) (e ∙ rw (g.starts-long, g.columns-long, g.values-long, g.r-long, g.c-long, g.b-long)))

-- ---- writing

module _ (n e s v r c b len : ℕ) (x : Bool) (ex : x ≡ rows_within n) where
  pub ask-1 : not x ≡ true → Err Rows ≡ ask_lengths n e s v r c b len
  unfolding ask_lengths
  ask-1 p = then-no (rows_within n) x Rows _ ex p

  module _ (p : not x ≡ false) where
    pub ask-18 : max_entries < e → Err FileShape ≡ ask_lengths n e s v r c b len
    unfolding ask_lengths
    ask-18 l = rw (← ex, not-false x p, lt-leb e max_entries l)

    module _ (l : e ≤ max_entries) (y : Bool) (ey : y ≡ lengths_right n e s e v r c b) where
      pub ask-2 : not (y && eqb len (file_length n e)) ≡ true → Err Lengths ≡ ask_lengths n e s v r c b len
      unfolding ask_lengths
      ask-2 q = rw (← ex, not-false x p, le-leb e max_entries l, ← ey, not-true (y && eqb len (file_length n e)) q)

      pub ask-pass : not (y && eqb len (file_length n e)) ≡ false → Pass ≡ ask_lengths n e s v r c b len
      unfolding ask_lengths
      ask-pass q = rw (← ex, not-false x p, le-leb e max_entries l, ← ey, not-false (y && eqb len (file_length n e)) q)

module _ (i : Input) (len : ℕ) (p : ask_write i len ≡ Pass) where
  abbrev e : ℕ
  e = length i.columns

  abbrev test : Bool
  test = lengths_right i.n e (length i.starts) e (length i.values) (length i.r) (length i.c) (length i.b) && eqb len (file_length i.n e)

  rest : and_then (holds (leb e max_entries) FileShape) (holds test Lengths) ≡ Pass
  unfolding ask_write ask_lengths
  rest = (both-pass (holds (rows_within i.n) Rows) (and_then (holds (leb e max_entries) FileShape) (holds test Lengths)) p).1

  pub n-range : (1 ≤ i.n) × (i.n ≤ max_rows)
  unfolding ask_write ask_lengths
  n-range = rows-range i.n (holds-pass (rows_within i.n) Rows (both-pass (holds (rows_within i.n) Rows) (and_then (holds (leb e max_entries) FileShape) (holds test Lengths)) p).0)

  pub e-most : e ≤ max_entries
  e-most = leb-true e max_entries (holds-pass (leb e max_entries) FileShape (both-pass (holds (leb e max_entries) FileShape) (holds test Lengths) rest).0)

  both : (lengths_right i.n e (length i.starts) e (length i.values) (length i.r) (length i.c) (length i.b) ≡ true) × (eqb len (file_length i.n e) ≡ true)
  both = and_cases (lengths_right i.n e (length i.starts) e (length i.values) (length i.r) (length i.c) (length i.b)) (eqb len (file_length i.n e))
      (holds-pass test Lengths (both-pass (holds (leb e max_entries) FileShape) (holds test Lengths) rest).1)

  pub written-long : Long i.n e (length i.starts) e (length i.values) (length i.r) (length i.c) (length i.b)
  written-long = long-lists i.n e _ _ _ _ _ _ both.0

  pub file-long : len ≡ file_length i.n e
  file-long = eqb-true len (file_length i.n e) both.1

module _ (i : Input) (file : List ℕ) (a : Asked) (ask : a ≡ ask_write i (length file)) where
  pub write-stop : (q : Refusal) → a ≡ Err q → left (Err q) file ≡ write_outcome i file
  unfolding write_outcome
  write-stop q p = rw (← ask, p)

  pub write_done : (file' : List ℕ) → a ≡ Pass → file' ≡ written i → left Pass file' ≡ write_outcome i file
  unfolding write_outcome
  write_done file' p w = rw (← ask, p, w)

-- ---- lists read and laid down one after another

pub loaded : (file : List ℕ) (s j v r c b a₁ a₂ a₃ a₄ a₅ : ℕ) (xs xj : List ℕ) (xv : List Float) (xr xc : List ℕ) (xb : List Float)
    → a₁ ≡ 8 + 4 * s → xs ≡ fields_at 4 file 8 s
    → a₂ ≡ a₁ + 2 * j → xj ≡ fields_at 2 file a₁ j
    → a₃ ≡ a₂ + 8 * v → xv ≡ floats_at file a₂ v
    → a₄ ≡ a₃ + 2 * r → xr ≡ fields_at 2 file a₃ r
    → a₅ ≡ a₄ + 2 * c → xc ≡ fields_at 2 file a₄ c
    → xb ≡ floats_at file a₅ b → matrix_lists xs xj xv xr xc xb ≡ lists_at file s j v r c b
unfolding lists_at
loaded file s j v r c b a₁ a₂ a₃ a₄ a₅ xs xj xv xr xc xb p₁ e₁ p₂ e₂ p₃ e₃ p₄ e₄ p₅ e₅ e₆ = rw (e₁, e₂, e₃, e₄, e₅, e₆, p₅, p₄, p₃, p₂, p₁)

pub laid-matrix : (n e : ℕ) (s j v x₀ x₁ x₂ x₃ x₄ x₅ : List ℕ) → x₀ ≡ [] → x₁ ≡ x₀ ++ bytes 4 n → x₂ ≡ x₁ ++ bytes 4 e → x₃ ≡ x₂ ++ fields 4 s
    → x₄ ≡ x₃ ++ fields 2 j → x₅ ≡ x₄ ++ fields 8 v → x₅ ≡ stream (part 4 (n ∷ e ∷ []) ∷ part 4 s ∷ part 2 j ∷ part 8 v ∷ [])
unfolding stream fields
laid-matrix n e s j v x₀ x₁ x₂ x₃ x₄ x₅ e₀ e₁ e₂ e₃ e₄ e₅ = rw (e₅, e₄, e₃, e₂, e₁, e₀) (simp (append_assoc, append-nil))

pub laid-orders : (r c b x₀ x₁ x₂ x₃ : List ℕ) → x₁ ≡ x₀ ++ fields 2 r → x₂ ≡ x₁ ++ fields 2 c → x₃ ≡ x₂ ++ fields 8 b
    → x₃ ≡ x₀ ++ stream (part 2 r ∷ part 2 c ∷ part 8 b ∷ [])
unfolding stream
laid-orders r c b x₀ x₁ x₂ x₃ e₁ e₂ e₃ = rw (e₃, e₂, e₁) (simp (append_assoc, append-nil))

pub none-laid : (f : List ℕ) → payloads f 0 ≡ []
unfolding table
none-laid f = refl

pub all_laid : (i : Input) (x y z : List ℕ) → x ≡ stream (matrix_parts i.n i.starts i.columns i.values) → y ≡ x ++ stream (order_parts i.r i.c i.b)
    → z ≡ file_of y → z ≡ written i
unfolding written
all_laid i x y z ex ey ez = rw (ez, ey, ex) (ap file_of (sym (stream-append (matrix_parts i.n i.starts i.columns i.values) (order_parts i.r i.c i.b))))

-- ---- the room for what is laid down

module _ (i : Input) (file : List ℕ) (p : ask_write i (length file) ≡ Pass) where
  abbrev to_orders : ℕ
  to_orders = 8 + 4 * length i.starts + 2 * length i.columns + 8 * length i.values

  abbrev orders : ℕ
  orders = 2 * length i.r + 2 * length i.c + 8 * length i.b

  all-size : to_orders + orders ≡ size_of i.n (length i.columns)
  all-size = let g = written-long i (length file) p in rw (g.starts-long, g.values-long, g.r-long, g.c-long, g.b-long) (omega arith)

  pub matrix-room : to_orders ≤ room file
  matrix-room = omega (arith, all-size, file-long i (length file) p)

  pub orders-room : (f : List ℕ) (q : ℕ) → q ≡ to_orders → length f ≡ length file → q + 2 * length i.r + 2 * length i.c + 8 * length i.b ≤ room f
  orders-room f q e l = omega (arith, all-size, file-long i (length file) p)

  pub whole-file : (f g : List ℕ) (q t : ℕ) → q ≡ to_orders → length f ≡ length file → t ≡ q + 2 * length i.r + 2 * length i.c + 8 * length i.b → length g ≡ length f
      → length g ≡ 512 * blocks_for t
  whole-file f g q t e l d k =
      let s : t ≡ size_of i.n (length i.columns) = omega (arith, all-size) in
      rw s (k ∙ (l ∙ file-long i (length file) p))
