-- What is written is read, what is read is written: the three theorems of the matrix file.
use Rattle.std.specs.Prelude.{Ok}
use Rattle.std.specs.declared.result.Result.{Result}
use Rattle.base.specs.declared.Refusal.{Refusal}
use mathlib.Core.Path.{◌≡◌, refl, sym, ap, ap₂, ◌∙◌}
use mathlib.Core.Logic.{◌↔◌}
use mathlib.Core.Bool.{true}
use mathlib.Core.List.{List, [], ◌∷◌, map}
use Prim.Native.Nat.{ℕ, zero, suc, ◌+◌, ◌*◌, ◌^◌, ◌<◌, ◌≤◌}
use native.Mathlib.Omega.{arith}
use borrow.Author.Tests.{le-leb, eq-eqb}
use lib.ListN.{length, get_or, length-map}
use lib.Ieee.{binary64, of_bits}
use Rattle.base.specs.Answers.{left, Pass}
use Rattle.base.specs.Lists.{table}
use Rattle.base.specs.Limits.{max_rows, max_entries}
use Rattle.matrix.specs.Input.{Input, input_of}
use Rattle.matrix.specs.declared.Matrix.{Matrix}
use Rattle.fields.specs.Numbers.{Part, stream, Span, span, spans_of, extent}
use Rattle.fields.specs.Payload.{payload, fields_at, floats_at, parts_at}
use Rattle.fields.proofs.WordLaws.{Binary64, Bytes, QuietAt, of-bits, bits_small, floats-fit, numbers_of, quiet-words, words-quiet}
use Rattle.fields.proofs.PartLaws.{Fits, parts-back, stream-of-parts, length-stream, length-fields_at, fields_fit}
use Rattle.blocks.specs.Blocks.{blocks_for, file_of}
use Rattle.blocks.proofs.FileLaws.{payload-file_of, file_of-asked, file_of-ends, asked-whole, file-back}
use Rattle.matrix.specs.Lists.{MatrixLists, lists_in, lists_right, with_rows}
use Rattle.matrix_file.specs.MatrixFile.{parts_of, written, ask_read, read_outcome, size_of, file_length, n_of, e_of, shape_in, lists_at, lists_for, matrix_at, ask_head, ask_file, opened, ask_lengths, ask_write}
use Rattle.matrix_file.proofs.CallLaws.{n-range, e-most, written-long, fitting, opened-pass}

-- ---- the words of the theorems

-- the numbers of a matrix as its lists' types hold them: starts of 32 bits, columns and orders of 16, binary64 values
pub record Widths (i : Input) : Type 0 where
  pub starts_fit : Fits 4 i.starts
  pub columns-fit : Fits 2 i.columns
  pub values-fit : Binary64 i.values
  pub r-fit : Fits 2 i.r
  pub c-fit : Fits 2 i.c
  pub b-fit : Binary64 i.b

-- where values and b stand
abbrev values_at : ℕ → ℕ → ℕ
values_at n e = 8 + 4 * (n + 1) + 2 * e

abbrev b_at : ℕ → ℕ → ℕ
b_at n e = values_at n e + 8 * e + 2 * n + 2 * n

pub record QuietNaNs (file : List ℕ) : Type 0 where
  pub values-quiet : QuietAt file (values_at (n_of file) (e_of file)) (e_of file)
  pub b-quiet : QuietAt file (b_at (n_of file) (e_of file)) (n_of file)

abbrev pub shape_of : Input → Matrix
shape_of i = record { rows = i.n; entries = length i.columns }

-- ---- the layout: parts one after another from the first payload byte

abbrev spans : ℕ → ℕ → List Span
spans n e = span 4 2 ∷ span 4 (n + 1) ∷ span 2 e ∷ span 8 e ∷ span 2 n ∷ span 2 n ∷ span 8 n ∷ []

extent-spans : (n e : ℕ) → extent (spans n e) ≡ size_of n e
unfolding extent
extent-spans n e = omega arith

-- ---- a matrix that is written

module _ (i : Input) (w : Widths i) (len : ℕ) (p : ask_write i len ≡ Pass) where
  abbrev n : ℕ
  n = i.n

  abbrev e : ℕ
  e = length i.columns

  abbrev s : List ℕ
  s = stream (parts_of i)

  spans-are : spans_of (parts_of i) ≡ spans n e
  spans-are =
      let g = written-long i len p in
      rw (g.starts-long, length-map, g.values-long, g.r-long, g.c-long, length-map, g.b-long)

  length-s : length s ≡ size_of n e
  length-s = length-stream (parts_of i) ∙ (ap extent spans-are ∙ extent-spans n e)

  few : blocks_for (length s) ≤ 2 ^ 32
  few = let a = n-range i len p in let b = e-most i len p in rw length-s (omega arith)

  some : 0 < length s
  some = rw length-s (omega arith)

  head-fits : Fits 4 (n ∷ e ∷ [])
  head-fits zero l = omega (arith, (n-range i len p).1)
  head-fits (suc zero) l = omega (arith, e-most i len p)
  head-fits (suc (suc k)) l = absurd (omega arith)

  parts_are : parts_at (written i) 0 (spans n e) ≡ parts_of i
  unfolding written
  parts_are =
      rw (← spans-are) (parts-back (file_of s) 0 (parts_of i)
      (head-fits, (w.starts_fit, (w.columns-fit, ((λ k l. bits_small i.values w.values-fit k), (w.r-fit, (w.c-fit, ((λ k l. bits_small i.b w.b-fit k), tt)))))))
      (λ j l. ap (payload (file_of s)) (omega arith) ∙ payload-file_of s j (omega arith)))

  -- part k of the file is part k of the matrix
  part-is : (k : ℕ) → numbers_of (parts_at (written i) 0 (spans n e)) k ≡ numbers_of (parts_of i) k
  part-is k = ap (λ (ps : List Part). numbers_of ps k) parts_are

  n-is : n_of (written i) ≡ n
  unfolding parts_at fields_at table numbers_of
  n-is = ap (λ (xs : List ℕ). get_or xs 0 0) (part-is 0)

  e-is : e_of (written i) ≡ e
  unfolding parts_at fields_at table numbers_of
  e-is = ap (λ (xs : List ℕ). get_or xs 1 0) (part-is 0)

  values-are : floats_at (written i) (values_at n e) e ≡ i.values
  unfolding parts_at floats_at numbers_of
  values-are = ap (map (of_bits binary64)) (part-is 3) ∙ of-bits i.values w.values-fit

  b-is : floats_at (written i) (b_at n e) n ≡ i.b
  unfolding parts_at floats_at numbers_of
  b-is = ap (map (of_bits binary64)) (part-is 6) ∙ of-bits i.b w.b-fit

  lists-are : with_rows n (lists_for (written i) n e) ≡ with_rows n (lists_in i)
  unfolding parts_at lists_at numbers_of
  lists-are = λ t. input_of n (part-is 1 t) (part-is 2 t) (values-are t) (part-is 4 t) (part-is 5 t) (b-is t)

  written-asked : ask_file (written i) ≡ Pass
  unfolding written ask_file ask_head
  written-asked =
      let r = n-range i len p in
      let ends = file_of-ends s in
      rw (file_of-asked s some few, n-is, e-is, le-leb 1 n r.0, le-leb n max_rows r.1, le-leb e max_entries (e-most i len p), rw length-s at ends)

-- ---- a matrix that is read

module _ (file : List ℕ) (small : Bytes file) where
  module _ (a : ask_file file ≡ Pass) where
    abbrev held : Input
    held = matrix_at file

    held-widths : Widths held
    unfolding matrix_at lists_at floats_at
    held-widths = record {
      starts_fit = fields_fit file small 4 _ _;
      columns-fit = fields_fit file small 2 _ _;
      values-fit = floats-fit (fields_at 8 file (values_at (n_of file) (e_of file)) (e_of file));
      r-fit = fields_fit file small 2 _ _;
      c-fit = fields_fit file small 2 _ _;
      b-fit = floats-fit (fields_at 8 file (b_at (n_of file) (e_of file)) (n_of file));
    }

    e-held : length held.columns ≡ e_of file
    unfolding matrix_at lists_at
    e-held = length-fields_at 2 file _ (e_of file)

    shape-held : ◌≡◌ {A = Result Matrix Refusal} (Ok (shape_of held)) (Ok (shape_in file))
    unfolding matrix_at
    shape-held = ap (λ (k : ℕ). Ok (record { rows = n_of file; entries = k })) e-held

    held-asked : ask_write held (length file) ≡ Pass
    unfolding matrix_at lists_at floats_at ask_write ask_lengths
    held-asked =
        let f = fitting file a in
        let u = asked-whole file f.asked in
        simp (length-fields_at, length-map)
        (rw (
          le-leb 1 (n_of file) f.n-some,
          le-leb (n_of file) max_rows f.n-most,
          le-leb (e_of file) max_entries f.e-most,
          eq-eqb (n_of file + 1) (n_of file + 1) refl,
          eq-eqb (e_of file) (e_of file) refl,
          eq-eqb (n_of file) (n_of file) refl,
          eq-eqb (length file) (file_length (n_of file) (e_of file)) (omega arith),
        ))

    head-is : n_of file ∷ e_of file ∷ [] ≡ fields_at 4 file 0 2
    unfolding fields_at table
    head-is = refl

    held-parts : QuietNaNs file → parts_of held ≡ parts_at file 0 (spans (n_of file) (e_of file))
    unfolding matrix_at lists_at parts_at
    held-parts q =
        rw (
          length-fields_at 2 file (8 + 4 * (n_of file + 1)) (e_of file),
          head-is,
          quiet-words file small (values_at (n_of file) (e_of file)) (e_of file) q.values-quiet,
          quiet-words file small (b_at (n_of file) (e_of file)) (n_of file) q.b-quiet,
        )

    held-written : QuietNaNs file → written held ≡ file
    unfolding written
    held-written q =
        let f = fitting file a in
        rw (held-parts q, stream-of-parts file small (spans (n_of file) (e_of file)), extent-spans (n_of file) (e_of file))
        (file-back file (size_of (n_of file) (e_of file)) small f.asked f.ends)

    -- the words of what is written are those of the file
    module _ (same : written held ≡ file) where
      part_held : (k : ℕ) → numbers_of (parts_at file 0 (spans (n_of file) (e_of file))) k ≡ numbers_of (parts_of held) k
      unfolding matrix_at
      part_held k =
          sym (ap₂ (λ (f : List ℕ) (e : ℕ). numbers_of (parts_at f 0 (spans (n_of file) e)) k) same e-held) ∙ part-is held held-widths (length file) held-asked k

      quiet-held : QuietNaNs file
      unfolding matrix_at lists_at parts_at numbers_of
      quiet-held = record {
        values-quiet = words-quiet file small (values_at (n_of file) (e_of file)) (e_of file) (sym (part_held 3));
        b-quiet = words-quiet file small (b_at (n_of file) (e_of file)) (n_of file) (sym (part_held 6));
      }

-- ---- the theorems

-- A matrix that passes the writer's questions is written to a file that opens to its shape and holds it: n and the six lists; a file has no floor.
pub written_read : (i : Input) → Widths i → (len : ℕ) → ask_write i len ≡ Pass → (opened (written i) ≡ Ok (shape_of i)) × (matrix_at (written i) ≡ with_rows i.n (lists_in i))
unfolding opened matrix_at
written_read i w len p = (rw (written-asked i w len p, n-is i w len p, e-is i w len p), rw (n-is i w len p, e-is i w len p) (lists-are i w len p))

-- The same of the calls: what was written is read into lists of the right lengths, whatever these held.
pub written-read-call : (i : Input) (l : MatrixLists) → Widths i → (len : ℕ) → ask_write i len ≡ Pass → lists_right i.n (length i.columns) l ≡ true
    → read_outcome (written i) l ≡ left Pass (lists_in i)
unfolding read_outcome ask_read
written-read-call i l w len p right =
    rw (written-asked i w len p, n-is i w len p, e-is i w len p, right) (ap (λ (m : Input). left Pass (lists_in m)) (written_read i w len p).1)

-- A file that opens is what its matrix is written as exactly if each of its NaNs has the pattern of a written one.
pub file-written : (file : List ℕ) → Bytes file → (m : Matrix) → opened file ≡ Ok m → (written (matrix_at file) ≡ file) ↔ QuietNaNs file
file-written file small m o =
    let a = (opened-pass file m (sym o)).0 in (quiet-held file small a, held-written file small a)

-- A file that opens, read and written, opens to the same shape and holds the same matrix, whatever its NaNs.
pub read_again : (file : List ℕ) → Bytes file → (m : Matrix) → opened file ≡ Ok m
    → (opened (written (matrix_at file)) ≡ Ok m) × (matrix_at (written (matrix_at file)) ≡ matrix_at file)
unfolding matrix_at
read_again file small m o =
    let a = opened-pass file m (sym o) in
    let again = written_read (matrix_at file) (held-widths file small a.0) (length file) (held-asked file small a.0) in
    (again.0 ∙ (shape-held file small a.0 ∙ ap Ok (sym a.1)), again.1)
