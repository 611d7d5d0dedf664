-- What is read is written: a file that reads is what its contents are written as.
use mathlib.Core.Path.{◌≡◌, refl, sym, ap, ◌∙◌}
use mathlib.Core.Bool.{true, false}
use mathlib.Core.List.{List, [], ◌∷◌}
use Prim.Native.Nat.{ℕ, zero, suc, ◌+◌, ◌-◌, ◌*◌, ◌<◌, ◌≤◌}
use native.Mathlib.Omega.{arith}
use borrow.Author.Tests.{le-leb, eq-eqb}
use lib.ListN.{length, get_or, take, replicate}
use lib.Seq.{take_at}
use lib.Ieee.{Float, nan, binary64, of_bits}
use lib.Ieee.Bits.{nan_bits_is}
use lib.Ieee.Scale.{finite}
use Rattle.base.specs.Answers.{left, Pass}
use Rattle.base.specs.Lists.{table, padded, nought}
use Rattle.base.specs.ZerosLaws.{padded-length}
use Rattle.base.specs.Tests.{and_cases}
use Rattle.base.specs.FirstLaws.{both-pass}
use Rattle.base.specs.declared.Counts.{Counts}
use Rattle.base.specs.Limits.{max_rows}
use Rattle.arithmetic.specs.RowEnd.{finite_all}
use Rattle.matrix.specs.Questions.{ask5}
use Rattle.fields.specs.Numbers.{part}
use Rattle.fields.specs.Payload.{field_at, fields_at, floats_at, parts_at}
use Rattle.fields.proofs.FloatLaws.{nan-from}
use Rattle.fields.proofs.PartLaws.{stream-of-parts, length-fields_at}
use Rattle.fields.proofs.WordLaws.{Bytes, QuietAt, quiet-words}
use Rattle.fields.proofs.WindowLaws.{length-floats_at, float-at}
use Rattle.blocks.proofs.FileLaws.{asked-whole, file-back}
use Rattle.factor_contents.specs.FactorFile.{FactorLists, factor_lists, cut, held, parts_of, written, size_of, file_length, n_of, counts_in, upper_starts_at, lower_index_at, upper_index_at, lower_values_at, d_at, upper_values_at, r_at, c_at, lists_at, factors_at, lengths_fit, lists_fit, ask15, ask_contents, ask_read, ask_lengths, ask_write, write_outcome}
use Rattle.factor_reading.proofs.ShapeLaws.{fitting}
use Rattle.factor_reading.proofs.ReadLaws.{through-file, through-fit, through-contents, read-stands, read-lent}
use Rattle.factor_file.proofs.Values.{lower-finite, upper-finite, d-good}
use Rattle.factor_file.proofs.Spans.{spans, extent-spans, moved}

-- ---- a file that is read

finite-at : (xs : List Float) → finite_all xs ≡ true → (i : ℕ) → i < length xs → finite (get_or xs i nan) ≡ true
finite-at [] e i l = absurd (omega arith)
finite-at (x ∷ xs) e zero l = (and_cases (finite x) (finite_all xs) e).0
finite-at (x ∷ xs) e (suc i) l = finite-at xs (and_cases (finite x) (finite_all xs) e).1 i (omega arith)

nan-finite : (x : Float) → x ≡ nan → finite x ≡ true → ⊥
nan-finite x e f = let g : false ≡ true = rw e at f in absurd (no_both g)
  where
    no_both : false ≡ true → ⊥
    no_both g = let z : ◌≡◌ {A = ℕ} 0 1 = cc in omega arith

cut-padded : {A : Type 0} (z : A) (size : ℕ) (x : List A) (c : ℕ) → length x ≡ c → take c (padded z size x) ≡ x
unfolding padded
cut-padded z size x c e = take_at x (replicate (size - length x) z) c e

pub cut-back : (k : Counts) (m f : FactorLists) → length f.lower-index ≡ k.lower → length f.lower-values ≡ k.lower → length f.upper-index ≡ k.upper → length f.upper-values ≡ k.upper
    → cut k (held m f) ≡ f
unfolding cut held
cut-back k m f eli elv eui euv = λ t.
    factor_lists f.r f.c f.lower-starts
    (cut-padded 0 (length m.lower-index) f.lower-index k.lower eli t) (cut-padded nought (length m.lower-values) f.lower-values k.lower elv t)
    f.upper-starts (cut-padded 0 (length m.upper-index) f.upper-index k.upper eui t) (cut-padded nought (length m.upper-values) f.upper-values k.upper euv t) f.d

pub as_long : {A : Type 0} (z : A) (store x : List A) (c : ℕ) → length x ≡ c → c ≤ length store → length (padded z (length store) x) ≡ length store
as_long z store x c e h = padded-length z (length store) x (rw e h)

-- a finite word is no NaN's
quiet_each : (file : List ℕ) (at c : ℕ) → ((i : ℕ) → i < c → finite (get_or (floats_at file at c) i nan) ≡ true) → QuietAt file at c
quiet_each file at c f i l t =
    absurd (nan-finite (get_or (floats_at file at c) i nan) (float-at file at c i nan l ∙ nan-from (of_bits binary64 (field_at 8 file at i)) (sym (nan_bits_is binary64 (field_at 8 file at i)) ∙ t)) (f i l))

quiet_all : (file : List ℕ) (at c : ℕ) → finite_all (floats_at file at c) ≡ true → QuietAt file at c
quiet_all file at c f = quiet_each file at c (λ i l. finite-at (floats_at file at c) f i (rw (length-floats_at file at c) l))

module _ (file : List ℕ) (small : Bytes file) (m : FactorLists) (p : ask_read file m ≡ Pass) where
  abbrev n : ℕ
  n = n_of file

  abbrev k : Counts
  k = counts_in file

  abbrev lo : ℕ
  lo = k.lower

  abbrev up : ℕ
  up = k.upper

  abbrev f : FactorLists
  f = factors_at file

  passed : ask15 n lo up f ≡ Pass
  unfolding ask_contents
  passed =
      let rest = (both-pass (ask5 n f.r f.c) _ (through-contents file _ p)).1 in
      (both-pass (ask15 n lo up f) _ rest).0

  some : 0 < n
  some = omega (arith, (read-stands file m p).some)

  lower-quiet : QuietAt file (lower_values_at n lo up) lo
  unfolding factors_at lists_at
  lower-quiet = quiet_all file (lower_values_at n lo up) lo (lower-finite n lo up f passed some (length-floats_at file (lower_values_at n lo up) lo))

  upper-quiet : QuietAt file (upper_values_at n lo up) up
  unfolding factors_at lists_at
  upper-quiet = quiet_all file (upper_values_at n lo up) up (upper-finite n lo up f passed some (length-floats_at file (upper_values_at n lo up) up))

  d-quiet : QuietAt file (d_at n lo up) n
  unfolding factors_at lists_at
  d-quiet = quiet_each file (d_at n lo up) n (d-good n lo up f passed)

  head-is : n ∷ lo ∷ up ∷ [] ≡ fields_at 4 file 0 3
  unfolding fields_at table
  head-is = refl

  products-are : k.products ∷ [] ≡ fields_at 8 file 12 1
  unfolding fields_at table
  products-are = refl

  abbrev from : ℕ
  from = 20 + 4 * (n + 1) + 4 * (n + 1) + 2 * lo + 2 * up

  held-parts : parts_of n k f ≡ parts_at file 0 (spans n lo up)
  unfolding factors_at lists_at parts_at
  held-parts = λ t.
      part 4 (head-is t) ∷ part 8 (products-are t) ∷ part 4 (fields_at 4 file 20 (n + 1))
      ∷ part 4 (moved 4 file (n + 1) (20 + 4 * (n + 1)) (upper_starts_at n) (omega arith) t)
      ∷ part 2 (moved 2 file lo (20 + 4 * (n + 1) + 4 * (n + 1)) (lower_index_at n) (omega arith) t)
      ∷ part 2 (moved 2 file up (20 + 4 * (n + 1) + 4 * (n + 1) + 2 * lo) (upper_index_at n lo) (omega arith) t)
      ∷ part 8 ((quiet-words file small (lower_values_at n lo up) lo lower-quiet ∙ moved 8 file lo from (lower_values_at n lo up) (omega arith)) t)
      ∷ part 8 ((quiet-words file small (d_at n lo up) n d-quiet ∙ moved 8 file n (from + 8 * lo) (d_at n lo up) (omega arith)) t)
      ∷ part 8 ((quiet-words file small (upper_values_at n lo up) up upper-quiet ∙ moved 8 file up (from + 8 * lo + 8 * n) (upper_values_at n lo up) (omega arith)) t)
      ∷ part 2 (moved 2 file n (from + 8 * lo + 8 * n + 8 * up) (r_at n lo up) (omega arith) t)
      ∷ part 2 (moved 2 file n (from + 8 * lo + 8 * n + 8 * up + 2 * n) (c_at n lo up) (omega arith) t) ∷ []

  -- A file that reads is what its contents are written as: none of them is a NaN.
  pub file-written : written n k f ≡ file
  unfolding written
  file-written =
      let g = fitting file (through-file file _ p) in
      rw (held-parts, stream-of-parts file small (spans n lo up), extent-spans n lo up) (file-back file (size_of n lo up) small g.asked g.ends)

  -- the lists in buffers of the reader, without the unused slots
  pub cut-held : cut k (held m f) ≡ f
  unfolding factors_at lists_at
  cut-held =
      cut-back k m f (length-fields_at 2 file (lower_index_at n) lo) (length-floats_at file (lower_values_at n lo up) lo)
      (length-fields_at 2 file (upper_index_at n lo) up) (length-floats_at file (upper_values_at n lo up) up)

  held_fits : lists_fit n lo up (held m f) ≡ lists_fit n lo up m
  unfolding held factors_at lists_at
  held_fits =
      let g = read-lent file m p in
      let er = length-fields_at 2 file (r_at n lo up) n ∙ sym g.r-size in
      let ec = length-fields_at 2 file (c_at n lo up) n ∙ sym g.c-size in
      let els = length-fields_at 4 file 20 (n + 1) ∙ sym g.lower-starts-size in
      let eli = as_long 0 m.lower-index f.lower-index lo (length-fields_at 2 file (lower_index_at n) lo) g.lower-index-size in
      let elv = as_long nought m.lower-values f.lower-values lo (length-floats_at file (lower_values_at n lo up) lo) g.lower-values-size in
      let eus = length-fields_at 4 file (upper_starts_at n) (n + 1) ∙ sym g.upper-starts-size in
      let eui = as_long 0 m.upper-index f.upper-index up (length-fields_at 2 file (upper_index_at n lo) up) g.upper-index-size in
      let euv = as_long nought m.upper-values f.upper-values up (length-floats_at file (upper_values_at n lo up) up) g.upper-values-size in
      let ed = length-floats_at file (d_at n lo up) n ∙ sym g.d-size in
      λ t. lengths_fit n lo up (er t) (ec t) (els t) (eli t) (elv t) (eus t) (eui t) (euv t) (ed t)

  file-long : length file ≡ file_length n lo up
  file-long =
      let g = fitting file (through-file file _ p) in
      let u = asked-whole file g.asked in
      omega (arith, g.count, u.1)

  held-asked : (buffer : List ℕ) → length buffer ≡ length file → ask_write n k (held m f) (length buffer) ≡ Pass
  unfolding ask_write ask_lengths
  held-asked buffer e =
      let g = fitting file (through-file file _ p) in
      rw (
        le-leb 1 n g.n-some,
        le-leb n max_rows g.n-most,
        held_fits ∙ through-fit file (lists_fit n lo up m) p,
        eq-eqb (length buffer) (file_length n lo up) (e ∙ file-long),
        cut-held,
      ) (through-contents file (lists_fit n lo up m) p)

  -- The same of the calls: what was read into buffers that fit is written to the same file.
  pub read-written-call : (buffer : List ℕ) → length buffer ≡ length file → write_outcome n k (held m f) buffer ≡ left Pass file
  unfolding write_outcome
  read-written-call buffer e = rw (held-asked buffer e) (ap (λ (x : List ℕ). left Pass x) (ap (written n k) cut-held ∙ file-written))
